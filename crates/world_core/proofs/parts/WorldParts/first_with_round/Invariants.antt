use Rattle.std.proofs.Common.{◌<◌, ℕ}
use Rattle.stock.specs.OwnCaches.{OwnCacheState}
use Rattle.world_core.specs.Moves.{HasRoundAt}
use Rattle.world_core.proofs.parts.WorldParts.first_with_round.Given as goal

abbrev pub invariant-loop-index : goal.invariant-loop-index
invariant-loop-index g l = (k : ℕ) (o : OwnCacheState) → k < l.index → ¬ HasRoundAt l.fn.self l.cpu k o
