use Rattle.std.proofs.Common.{◌≡◌, ◌-◌, ◌≤◌, length, drop}
use Rattle.std.specs.List.{find}
use Rattle.sorted_rows.specs.Tops.{Describes, IsTop}
use Rattle.sorted_rows.specs.Layout.{entries_in}
use Rattle.sorted_rows.specs.Weights.{weighs}
use Rattle.sorted_rows.proofs.headed.heavy_from.Given as goal

abbrev pub invariant-loop-seat : goal.invariant-loop-seat
invariant-loop-seat g l = record {
  tops : Describes (IsTop (g.T.RowEntry.weight l.measure)) l.tops l.rows;
  within : l.seat ≤ length l.tops;
  found : find (weighs (g.T.RowEntry.weight l.measure) l.least) (entries_in (drop l.from l.rows)) ≡ find (weighs (g.T.RowEntry.weight l.measure) l.least) (entries_in (drop l.seat l.rows));
}

abbrev pub decreases-loop-seat : goal.decreases-loop-seat
decreases-loop-seat g l = length l.tops - l.seat
