use Rattle.tag_arena.specs.Cells.{SameCells}
use Rattle.tag_arena.proofs.chained.take_off.Given as goal

abbrev pub invariant-loop : goal.invariant-loop
invariant-loop l = SameCells l.initial.cells l.cells
