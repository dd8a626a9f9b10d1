use Rattle.std.proofs.Common.{◌≡◌, ℕ, ◌<◌, [], get_or}
use Rattle.slab_layer.specs.Slab.{SlabState, deeds_in}
use Rattle.slab_layer.proofs.reports.are_empty.Given as goal

abbrev pub invariant-loop-i : goal.invariant-loop-i
invariant-loop-i g l = (k : ℕ) (d : SlabState) → k < l.i → deeds_in (get_or l.slabs.items k d) ≡ []
