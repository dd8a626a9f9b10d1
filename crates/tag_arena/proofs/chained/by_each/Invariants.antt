use Rattle.std.proofs.Common.{ℕ, ◌<◌}
use Rattle.tag_arena.specs.Cells.{IsAt}
use Rattle.tag_arena.proofs.chained.by_each.Given as goal

abbrev pub invariant-loop-at : goal.invariant-loop-at
invariant-loop-at l = (k : ℕ) → k < l.at → ¬ IsAt l.base k l.cells
