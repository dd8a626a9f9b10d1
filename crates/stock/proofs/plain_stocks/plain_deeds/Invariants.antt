use Rattle.std.proofs.Common.{◌≡◌, ◌≤◌, ◌<◌, ◌++◌, ℕ, take, drop, get_or, length, vec_len, vec_capacity}
use Rattle.arena_tree.specs.declared.limits.TheConstants.{MOST_ARENAS}
use Rattle.arena_tree.specs.Settings.{span_count}
use Rattle.stock.specs.Setups.{deeds_after, numbered_deeds}
use Rattle.stock.proofs.plain_stocks.plain_deeds.Given as goal

abbrev pub invariant-loop-span : goal.invariant-loop-span
invariant-loop-span l = record {
  is : l.deeds.items ++ deeds_after (take l.span-index l.setup.spans) (drop l.span-index l.setup.spans) ≡ numbered_deeds l.setup.spans;
  count : vec_len l.deeds ≡ l.span-index;
  room : length l.setup.spans ≤ vec_capacity l.deeds;
  size : length l.owned ≡ MOST_ARENAS;
  so_far : (k : ℕ) → k < MOST_ARENAS → get_or l.owned k 0 ≡ span_count k (take l.span-index l.setup.spans);
}
