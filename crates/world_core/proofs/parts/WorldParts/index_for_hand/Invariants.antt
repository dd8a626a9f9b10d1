use Rattle.std.proofs.Common.{◌<◌, ℕ}
use Rattle.deed_core.specs.Tag.{Tag}
use Rattle.stock.specs.OwnCaches.{OwnCacheState}
use Rattle.world_core.specs.Moves.{TakesHand}
use Rattle.world_core.proofs.parts.WorldParts.index_for_hand.Given as goal

abbrev pub invariant-loop-index : goal.invariant-loop-index
invariant-loop-index g l = (k : ℕ) (o : OwnCacheState) (t : Tag) → k < l.index → ¬ TakesHand l.fn.self l.cpu k o t
