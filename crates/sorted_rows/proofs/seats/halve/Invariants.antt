use Rattle.std.proofs.Common.{◌+◌, ◌<◌, ◌≤◌, [], length, get_or}
use Rattle.sorted_rows.proofs.seats.halve.Given as goal

abbrev pub invariant-loop-count : goal.invariant-loop-count
invariant-loop-count g l = record {
  within : l.low + l.count ≤ length l.rows.items;
  some : 0 < l.low → 0 < l.count;
  left : (d : g.row.T.Denot) → 0 < l.low → g.T.RowEntry.rank (get_or (get_or l.rows.items l.low []) 0 d) ≤ l.key;
  right : (d : g.row.T.Denot) → l.low + l.count < length l.rows.items → l.key < g.T.RowEntry.rank (get_or (get_or l.rows.items (l.low + l.count) []) 0 d);
}

abbrev pub decreases-loop-count : goal.decreases-loop-count
decreases-loop-count g l = l.count
