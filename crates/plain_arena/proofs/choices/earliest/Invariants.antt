use Rattle.plain_arena.specs.Found.{EarliestSoFar}
use Rattle.plain_arena.proofs.choices.earliest.Given as goal

abbrev pub invariant-loop-at : goal.invariant-loop-at
invariant-loop-at g l = EarliestSoFar l.quantum l.request l.start l.free l.at l.earliest
