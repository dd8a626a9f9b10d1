use Rattle.tag_arena.specs.Cells.{SameCells}
use Rattle.tag_arena.proofs.chained.widen.Given as goal

abbrev pub invariant-loop-at : goal.invariant-loop-at
invariant-loop-at l = SameCells l.initial.cells l.cells
