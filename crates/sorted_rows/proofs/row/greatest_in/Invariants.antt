use Rattle.std.proofs.Common.{◌≡◌, ◌≤◌, length, drop}
use Rattle.sorted_rows.specs.Weights.{greatest_weight}
use Rattle.sorted_rows.proofs.row.greatest_in.Given as goal

abbrev pub invariant-loop-at : goal.invariant-loop-at
invariant-loop-at g l = record {
  within : l.at ≤ length l.items;
  top : l.top ≡ greatest_weight (g.T.RowEntry.weight l.measure) (drop l.at l.items);
}

abbrev pub decreases-loop-at : goal.decreases-loop-at
decreases-loop-at g l = l.at
