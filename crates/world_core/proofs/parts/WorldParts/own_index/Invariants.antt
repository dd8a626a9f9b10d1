use Rattle.std.proofs.Common.{◌<◌, ℕ}
use Rattle.stock.specs.OwnCaches.{OwnCacheState}
use Rattle.world_core.specs.Moves.{IsOwnFor}
use Rattle.world_core.proofs.parts.WorldParts.own_index.Given as goal

abbrev pub invariant-loop-index : goal.invariant-loop-index
invariant-loop-index g l = (k : ℕ) (o : OwnCacheState) → k < l.index → ¬ IsOwnFor l.fn.self l.cpu l.arena l.cache k o
