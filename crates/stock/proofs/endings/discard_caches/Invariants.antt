use Rattle.std.proofs.Common.{All, vec_len}
use Rattle.stock.specs.Endings.{IsBareCache}
use Rattle.stock.proofs.endings.discard_caches.Given as goal

abbrev pub invariant-loop-cache : goal.invariant-loop-cache
invariant-loop-cache g l = All IsBareCache l.caches.items

abbrev pub decreases-loop-cache : goal.decreases-loop-cache
decreases-loop-cache g l = vec_len l.caches
