use Rattle.std.proofs.Common.{◌≡◌, ◌-◌, length, drop, max}
use Rattle.std.specs.List.{find}
use Rattle.sorted_rows.specs.Weights.{greatest_weight, weighs}
use Rattle.sorted_rows.proofs.row.heavy_or_top.Given as goal

abbrev pub invariant-loop-at : goal.invariant-loop-at
invariant-loop-at g l = record {
  found : find (weighs (g.T.RowEntry.weight l.measure) l.least) l.items ≡ find (weighs (g.T.RowEntry.weight l.measure) l.least) (drop l.at l.items);
  top : greatest_weight (g.T.RowEntry.weight l.measure) l.items ≡ max l.top (greatest_weight (g.T.RowEntry.weight l.measure) (drop l.at l.items));
}

abbrev pub decreases-loop-at : goal.decreases-loop-at
decreases-loop-at g l = length l.items - l.at
