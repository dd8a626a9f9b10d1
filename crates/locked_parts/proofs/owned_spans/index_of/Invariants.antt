use Rattle.std.proofs.Common.{◌≢◌, ℕ, ◌<◌, slice_index_or}
use Rattle.locked_parts.proofs.owned_spans.index_of.Given as goal

abbrev pub invariant-loop-index : goal.invariant-loop-index
invariant-loop-index g l = (k : ℕ) → k < l.index → slice_index_or l.roots k l.deed ≢ l.deed
