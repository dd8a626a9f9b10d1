use Rattle.std.proofs.Common.{◌≢◌, All, sym, ap, ◌∙◌, subst}
use Rattle.deed_core.specs.Extent.{Extent, end_of}
use Rattle.tag_arena.specs.Neighbors.{TakesLeft}
use Rattle.tag_arena.proofs.Returning.{joins_right}
use Rattle.tag_arena.proofs.Neighboring.{left_goes_on, left_keeps}
use Rattle.tag_arena.proofs.free_index.FreeIndex.merge.Goals as goal

pub take_right-high-requires-clause-known : goal.take_right-high-requires-clause-known
take_right-high-requires-clause-known g c = λ allocated.
    let taken = subst (λ v. TakesLeft c.base.result c.base-base.result v.ranges c.take_left-low.result c.take_left-low.new.self.ranges) c.go_to.ensures.unchanged c.take_left-low.ensures.taken in
    let end = c.end.ensures.value ∙ ap end_of c.range-range.ensures.value in
    subst (λ n. All (λ r. r.range.base ≢ n) c.take_left-low.new.self.ranges) (sym end)
    (left_keeps (λ r. r.range.base ≢ end_of c.args.deed.range) _ _ c.args.self.now.ranges _ c.take_left-low.result taken (c.requires.known.right allocated))

pub join_left-requires : goal.join_left-requires
join_left-requires g c =
    let taken = subst (λ v. TakesLeft c.base.result c.base-base.result v.ranges c.take_left-low.result c.take_left-low.new.self.ranges) c.go_to.ensures.unchanged c.take_left-low.ensures.taken in
    left_goes_on c.args.span c.args.deed _ _ _ _ _ c.base.ensures.value (c.base-base.ensures.value ∙ ap (λ (e : Extent). e.base) c.range-range.ensures.value)
    c.requires.inside c.requires.some c.requires.beside taken

pub join_right-deed-requires : goal.join_right-deed-requires
join_right-deed-requires g c =
    let taken = subst (λ v. TakesLeft c.base.result c.base-base.result v.ranges c.take_left-low.result c.take_left-low.new.self.ranges) c.go_to.ensures.unchanged c.take_left-low.ensures.taken in
    joins_right c.args.span c.args.deed c.join_left.result _ _ _ _ _ _ _ _ _ c.base.ensures.value (c.base-base.ensures.value ∙ ap (λ (e : Extent). e.base) c.range-range.ensures.value)
    (c.end.ensures.value ∙ ap end_of c.range-range.ensures.value) c.end-2.ensures.value c.requires.inside c.requires.some c.requires.beside taken c.take_right-high.ensures.taken c.join_left.ensures.root c.join_left.ensures.end
