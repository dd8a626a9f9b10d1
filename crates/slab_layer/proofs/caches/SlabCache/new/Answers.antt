use Rattle.slab_layer.proofs.SoundLemmas.{sound_empty}
use Rattle.slab_layer.proofs.caches.SlabCache.new.Goals as goal

pub invariant_of-result : goal.invariant_of-result
invariant_of-result g c = sound_empty _ _ _ _ _ c.new.ensures.items c.requires.k c.requires.quantum c.requires.room
