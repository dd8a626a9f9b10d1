use Rattle.std.proofs.Common.{◌≡◌, None, All, vec_len}
use Rattle.slab_layer.proofs.slabs.Slab.discard.Given as goal

abbrev pub invariant-loop-chunk : goal.invariant-loop-chunk
invariant-loop-chunk g l = All (λ o. o ≡ None) l.home.items

abbrev pub decreases-loop-chunk : goal.decreases-loop-chunk
decreases-loop-chunk g l = vec_len l.home
