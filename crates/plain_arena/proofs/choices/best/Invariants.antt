use Rattle.plain_arena.specs.Found.{BestSoFar}
use Rattle.plain_arena.proofs.choices.best.Given as goal

abbrev pub invariant-loop-at : goal.invariant-loop-at
invariant-loop-at g l = BestSoFar l.quantum l.request l.free l.at l.best
