use Rattle.plain_arena.specs.Found.{NewestSoFar}
use Rattle.plain_arena.proofs.power_lists.newest.Given as goal

abbrev pub invariant-loop-at : goal.invariant-loop-at
invariant-loop-at g l = NewestSoFar l.quantum l.len l.free l.at l.newest
