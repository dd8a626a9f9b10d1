use Rattle.std.proofs.Common.{ap, arith}
use Rattle.tag_arena.proofs.Rejoining.{merged_clear, merged_fewer}
use Rattle.tag_arena.proofs.free_index.FreeIndex.give_back.Goals as goal

pub insert-requires-clause-clear : goal.insert-requires-clause-clear
insert-requires-clause-clear g c = merged_clear c.args.span c.args.deed c.merge-deed.result.deed c.args.self.now.ranges c.merge-deed.new.self.ranges c.merge-deed.ensures.merges c.requires.some c.requires.beside c.requires.apart c.requires.clear

pub insert-requires-clause-room : goal.insert-requires-clause-room
insert-requires-clause-room g c =
    let few = merged_fewer c.args.span c.args.deed c.merge-deed.result.deed c.args.self.now.ranges c.merge-deed.new.self.ranges c.merge-deed.ensures.merges in
    let room = ap (λ v. v.room) c.merge-deed.ensures.rest in
    omega (arith, few, room, c.requires.room)
