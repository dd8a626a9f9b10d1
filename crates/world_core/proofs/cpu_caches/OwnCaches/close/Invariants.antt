use Rattle.std.proofs.Common.{All, vec_len}
use Rattle.stock.specs.OwnCaches.{HasNoRound}
use Rattle.world_core.proofs.cpu_caches.OwnCaches.close.Given as goal

abbrev pub invariant-loop-own : goal.invariant-loop-own
invariant-loop-own g l = All HasNoRound l.caches.items

abbrev pub decreases-loop-own : goal.decreases-loop-own
decreases-loop-own g l = vec_len l.caches
