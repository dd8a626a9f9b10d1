use Rattle.std.proofs.Common.{All, length, ap, subst, arith}
use Rattle.deed_core.specs.Extent.{IsRange}
use Rattle.std.proofs.lemmas.List.{length-map}
use Rattle.tag_arena.specs.FreeTags.{range_of, tags_by_age}
use Rattle.tag_arena.proofs.Aging.{length-tags_by_age}
use Rattle.tag_arena.proofs.Lasting.{all_ranges}
use Rattle.tag_arena.proofs.free_index.FreeIndex.len.Goals as goal

pub returns-clause-len : goal.returns-clause-len
returns-clause-len g c =
    let tags = c.self.inside.slots.tags in
    let same = ap (λ v. length v.ranges) c.self.view_is in
    omega (arith, c.taken.ensures, length-tags_by_age tags c.self.invariant.timed, length-map (tags_by_age tags) range_of, same)

pub returns-clause-ranges : goal.returns-clause-ranges
returns-clause-ranges g c = subst (All (λ r. IsRange r.range)) (ap (λ v. v.ranges) c.self.view_is) (all_ranges c.self.inside.clock c.self.inside.slots.tags c.self.invariant.tags)
