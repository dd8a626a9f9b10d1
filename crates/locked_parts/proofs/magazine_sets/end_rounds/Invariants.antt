use Rattle.std.proofs.Common.{All, vec_len}
use Rattle.magazine_layer.specs.Magazines.{BothEmpty}
use Rattle.locked_parts.proofs.magazine_sets.end_rounds.Given as goal

abbrev pub invariant-loop-own : goal.invariant-loop-own
invariant-loop-own g l = All (λ r. BothEmpty r.cpu) l.caches.items

abbrev pub decreases-loop-own : goal.decreases-loop-own
decreases-loop-own g l = vec_len l.caches
