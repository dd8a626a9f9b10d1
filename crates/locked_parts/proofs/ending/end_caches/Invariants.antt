use Rattle.std.proofs.Common.{vec_len}
use Rattle.locked_parts.specs.States.{IsFrontOf}
use Rattle.locked_parts.proofs.ending.end_caches.Given as goal

abbrev pub invariant-loop-cache : goal.invariant-loop-cache
invariant-loop-cache g l = IsFrontOf l.fn.caches.items l.caches.items

abbrev pub decreases-loop-cache : goal.decreases-loop-cache
decreases-loop-cache g l = vec_len l.caches
