use Rattle.std.proofs.Common.{ap}
use Rattle.slab_layer.specs.Bases.{SlabListState}
use Rattle.slab_layer.proofs.slab_lists.SlabList.find_chunk.Goals as goal

pub find_chunk-requires-clause-slabs : goal.find_chunk-requires-clause-slabs
find_chunk-requires-clause-slabs g c =
    let items = ap (λ (l : SlabListState). l.items) c.self.view_is in
    rw items c.requires
