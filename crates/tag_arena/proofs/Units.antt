-- How many units the free ranges have.
use Rattle.std.proofs.Common.{◌≡◌, refl, ◌∙◌, List, [], ◌∷◌, map, Option, None, Some, sum_by, arith}
use Rattle.std.proofs.lemmas.List.Sums.{sum_by-cons, sum_by-insert}
use Rattle.deed_core.specs.Covering.{units_held}
use Rattle.deed_core.specs.Holding.{Holding}
use Rattle.sorted_rows.specs.Order.{place_below}
use Rattle.tag_arena.specs.FreeTags.{FreeTag, range_of, since_of, tags_by_age, ranges_by_age}
use Rattle.tag_arena.specs.Slotted.{slot_units}

held_units : (xs : List FreeTag) → units_held (map range_of xs) ≡ sum_by (λ t. t.range.range.len) xs
held_units [] = refl
held_units (x ∷ xs) = omega (arith, held_units xs, sum_by-cons (λ (t : FreeTag). t.range.range.len) x xs, sum_by-cons (λ (h : Holding). h.range.len) x.range (map range_of xs))

aged_units : (tags : List (Option FreeTag)) → sum_by (λ t. t.range.range.len) (tags_by_age tags) ≡ sum_by slot_units tags
unfolding tags_by_age
aged_units [] = refl
aged_units (None ∷ rest) = omega (arith, aged_units rest, sum_by-cons slot_units None rest)
aged_units (Some t ∷ rest) = omega (arith, aged_units rest, sum_by-cons slot_units (Some t) rest, sum_by-insert (λ (u : FreeTag). u.range.range.len) (tags_by_age rest) (place_below since_of t.since (tags_by_age rest)) t)

pub units_by_age : (tags : List (Option FreeTag)) → units_held (ranges_by_age tags) ≡ sum_by slot_units tags
units_by_age tags = held_units (tags_by_age tags) ∙ aged_units tags
