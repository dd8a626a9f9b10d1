use Rattle.std.proofs.Common.{ℕ, ◌+◌, ◌-◌, ◌*◌, ◌/◌, ◌≤◌, length, get_or}
use Rattle.sorted_rows.proofs.PlaceLemmas.{IsCount}
use Rattle.sorted_rows.proofs.row.blocks_below.Given as goal

-- the keys of the blocks' last entries rise
abbrev pub invariant-loop-at : goal.invariant-loop-at
invariant-loop-at g l = record {
  within : l.at * 8 ≤ length l.items;
  count : IsCount (λ (d : g.row.T.Denot) (k : ℕ). g.T.RowEntry.rank (get_or l.items (k * 8 + 7) d)) l.key l.blocks l.at;
}

abbrev pub decreases-loop-at : goal.decreases-loop-at
decreases-loop-at g l = length l.items / 8 - l.at
