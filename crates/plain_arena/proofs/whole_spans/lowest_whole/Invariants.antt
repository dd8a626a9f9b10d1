use Rattle.plain_arena.specs.Found.{LowestSoFar}
use Rattle.plain_arena.proofs.whole_spans.lowest_whole.Given as goal

abbrev pub invariant-loop-at : goal.invariant-loop-at
invariant-loop-at g l = LowestSoFar l.owned l.free l.at l.lowest
