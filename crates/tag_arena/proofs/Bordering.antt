-- Where free ranges begin and end.
use Rattle.std.proofs.Common.{◌≢◌, ℕ, sym, ap, subst, ◌∙◌, ⊎_elim, List, All, Contains, Option, None, Some, arith}
use Rattle.std.proofs.lemmas.List.Elements.{All-contains}
use Rattle.deed_core.specs.Extent.{IsRange, end_of}
use Rattle.deed_core.specs.Holding.{Holding, Apart}
use Rattle.tag_arena.specs.Boundaries.{BeginsAt, EndsAt, StandsAt, begin_of, tag_end}
use Rattle.tag_arena.specs.FreeTags.{FreeTag, ranges_by_age}
use Rattle.tag_arena.proofs.Fitting.{tag_of_free}
use Rattle.tag_arena.proofs.Indexing.{range_is_free}
use Rattle.tag_arena.proofs.Members.{All-from_members}

-- what is so of the tags is so of the free ranges
pub begins_at : (tags : List (Option FreeTag)) (base : ℕ) (o : Option Holding) → StandsAt begin_of base tags o → BeginsAt base (ranges_by_age tags) o
begins_at tags base None none =
    All-from_members (λ r. r.range.base ≢ base) (ranges_by_age tags)
    (λ r in-r is. let w = tag_of_free tags r in-r in none w.0 w.1 w.2 (ap (λ (h : Holding). h.range.base) w.3 ∙ is))
begins_at tags base (Some r) w = (subst (Contains (ranges_by_age tags)) w.3 (range_is_free tags w.0 w.1 w.2), sym (ap (λ (h : Holding). h.range.base) w.3) ∙ w.4)

pub ends_at : (tags : List (Option FreeTag)) (end : ℕ) (o : Option Holding) → StandsAt tag_end end tags o → EndsAt end (ranges_by_age tags) o
ends_at tags end None none =
    All-from_members (λ r. end_of r.range ≢ end) (ranges_by_age tags)
    (λ r in-r is. let w = tag_of_free tags r in-r in none w.0 w.1 w.2 (ap (λ (h : Holding). end_of h.range) w.3 ∙ is))
ends_at tags end (Some r) w = (subst (Contains (ranges_by_age tags)) w.3 (range_is_free tags w.0 w.1 w.2), sym (ap (λ (h : Holding). end_of h.range) w.3) ∙ w.4)

-- no free range begins where one does that is apart from each
pub begins_apart : (free : List Holding) (h : Holding) → IsRange h.range → All (λ r. IsRange r.range) free → All (Apart h) free → All (λ r. r.range.base ≢ h.range.base) free
begins_apart free h range all clear =
    All-from_members (λ r. r.range.base ≢ h.range.base) free
    (λ r in-r same.
    let long = (All-contains (λ y. IsRange y.range) free r all in-r).some in
    ⊎_elim (λ le. omega (arith, le, same, range.some)) (λ le. omega (arith, le, same, long)) (All-contains (Apart h) free r clear in-r))
