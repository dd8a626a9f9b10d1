use Rattle.std.proofs.Common.{List, Contains, MatchOption, Option, None, Some, ap, subst}
use Rattle.deed_core.specs.Holding.{Holding}
use Rattle.tag_arena.specs.Boundaries.{LiesIn}
use Rattle.tag_arena.specs.FreeTags.{FreeTag, ranges_by_age}
use Rattle.tag_arena.proofs.Fitting.{tag_of_free}
use Rattle.tag_arena.proofs.Indexing.{range_is_free}
use Rattle.tag_arena.proofs.free_index.FreeIndex.find.Goals as goal

-- whether a slot was found tells whether the range is free
found_tells : (tags : List (Option FreeTag)) (r : Holding) (o : Option _) → LiesIn r tags o → MatchOption o (¬ Contains (ranges_by_age tags) r) (λ slot. Contains (ranges_by_age tags) r)
found_tells tags r None none = λ in-r. let w = tag_of_free tags r in-r in none w.0 w.1 w.2 w.3
found_tells tags r (Some k) w = subst (Contains (ranges_by_age tags)) w.2 (range_is_free tags k w.0 w.1)

pub returns : goal.returns
returns g c =
    let s = c.self.inside in
    subst (λ l. MatchOption c.slot_of.result (¬ Contains l c.args.range) (λ slot. Contains l c.args.range)) (ap (λ v. v.ranges) c.self.view_is) (found_tells s.slots.tags c.args.range c.slot_of.result c.slot_of.ensures)
