use Rattle.std.proofs.Common.{◌≡◌, length, ap, arith}
use Rattle.std.proofs.lemmas.List.{length-map}
use Rattle.tag_arena.specs.FreeTags.{range_of, tags_by_age}
use Rattle.tag_arena.proofs.Aging.{length-tags_by_age}
use Rattle.tag_arena.proofs.free_index.FreeIndex.destroy.Goals as goal

pub destroy-requires : goal.destroy-requires
destroy-requires g c =
    let tags = c.self.inside.slots.tags in
    let none : length c.args.self.ranges ≡ 0 = ap length c.requires in
    let same = ap (λ v. length v.ranges) c.self.view_is in
    omega (arith, none, length-tags_by_age tags c.self.invariant.timed, length-map (tags_by_age tags) range_of, same)
