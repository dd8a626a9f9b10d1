use Rattle.std.proofs.Common.{ℕ, ◌-◌, ◌<◌, ◌≤◌, length, get_or}
use Rattle.sorted_rows.proofs.tops.next_heavy.Given as goal

abbrev pub invariant-loop-seat : goal.invariant-loop-seat
invariant-loop-seat l = record {
  from : l.from ≤ l.seat;
  within : l.seat ≤ length l.tops;
  light : (k d : ℕ) → l.from ≤ k → k < l.seat → get_or l.tops k d < l.least;
}

abbrev pub decreases-loop-seat : goal.decreases-loop-seat
decreases-loop-seat l = length l.tops - l.seat
