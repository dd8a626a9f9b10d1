use Rattle.std.proofs.Common.{ap, arith}
use Rattle.tag_arena.proofs.Slotting.{one_of, taken_last}
use Rattle.tag_arena.proofs.slots.drop_vacant.Goals as goal

pub loop-slot-preserved : goal.loop-slot-preserved
loop-slot-preserved g c =
    let count = taken_last c.loop-slot.slots.items c.pop.new.self.items c.in-Some.slot c.in-Some.ensures.items in
    omega (arith, count, c.loop-slot.invariant)

pub unreachable-requires : goal.unreachable-requires
unreachable-requires g c =
    let count = taken_last c.loop-slot.slots.items c.pop.new.self.items c.in-Some.slot c.in-Some.ensures.items in
    let one = ap one_of c.in-Some-slot.is in
    omega (arith, count, one, c.loop-slot.invariant)
