use Rattle.std.proofs.Common.{◌≡◌, [], All, deque_len}
use Rattle.slab_layer.specs.Slab.{deeds_in}
use Rattle.slab_layer.proofs.reports.discard_all.Given as goal

abbrev pub invariant-loop-slab : goal.invariant-loop-slab
invariant-loop-slab g l = All (λ s. deeds_in s ≡ []) l.slabs.items

abbrev pub decreases-loop-slab : goal.decreases-loop-slab
decreases-loop-slab g l = deque_len l.slabs
