use Rattle.std.proofs.Common.{◌≡◌, ◌-◌, length, drop}
use Rattle.std.specs.List.{find}
use Rattle.sorted_rows.specs.Weights.{weighs}
use Rattle.sorted_rows.proofs.row.heavy_in.Given as goal

abbrev pub invariant-loop-at : goal.invariant-loop-at
invariant-loop-at g l = find (weighs (g.T.RowEntry.weight l.measure) l.least) (drop l.from l.items) ≡ find (weighs (g.T.RowEntry.weight l.measure) l.least) (drop l.at l.items)

abbrev pub decreases-loop-at : goal.decreases-loop-at
decreases-loop-at g l = length l.items - l.at
