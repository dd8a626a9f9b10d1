use Rattle.std.proofs.Common.{◌≡◌, ◌+◌, ◌-◌, ◌*◌, true, vec_capacity, vec_len}
use Rattle.std.proofs.Math.ListN.{replicate}
use Rattle.slab_layer.specs.Parts.{piece_or_none}
use Rattle.slab_layer.specs.Slab.{stored_row}
use Rattle.slab_layer.proofs.RowLemmas.{placed}
use Rattle.slab_layer.proofs.rows.chop.Given as goal

-- so many chunks lie in the row, and the units behind them are left
abbrev pub invariant-loop-done : goal.invariant-loop-done
invariant-loop-done g l = record {
  row : l.row.items ≡ stored_row (placed l.fn.whole.root l.fn.whole.range.base l.chunk) 0 (replicate l.done true);
  rest : l.rest ≡ piece_or_none l.fn.whole.root (l.fn.whole.range.base + l.done * l.chunk) (l.fn.whole.range.len - l.done * l.chunk);
  len : vec_len l.row ≡ l.done;
  capacity : vec_capacity l.row ≡ vec_capacity l.fn.row;
}
