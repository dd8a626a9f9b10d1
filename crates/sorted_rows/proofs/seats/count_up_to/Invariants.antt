use Rattle.std.proofs.Common.{ℕ, ◌+◌, ◌-◌, ◌≤◌, [], get_or}
use Rattle.sorted_rows.proofs.PlaceLemmas.{IsCount}
use Rattle.sorted_rows.proofs.seats.count_up_to.Given as goal

abbrev pub invariant-loop-at : goal.invariant-loop-at
invariant-loop-at g l = record {
  within : l.at ≤ l.high;
  count : IsCount (λ (d : g.row.T.Denot) (k : ℕ). g.T.RowEntry.rank (get_or (get_or l.rows.items k []) 0 d)) (l.key + 1) l.count l.at;
}

abbrev pub decreases-loop-at : goal.decreases-loop-at
decreases-loop-at g l = l.high - l.at
