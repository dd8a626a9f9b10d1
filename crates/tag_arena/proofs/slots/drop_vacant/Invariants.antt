use Rattle.std.proofs.Common.{◌≡◌}
use Rattle.tag_arena.specs.Slotted.{taken_count}
use Rattle.tag_arena.proofs.slots.drop_vacant.Given as goal

abbrev pub invariant-loop-slot : goal.invariant-loop-slot
invariant-loop-slot g l = taken_count l.slots.items ≡ 0

abbrev pub decreases-loop-slot : goal.decreases-loop-slot
decreases-loop-slot g l = goal.left-loop-slot g l
