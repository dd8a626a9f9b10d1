use Rattle.std.proofs.Common.{ap}
use Rattle.slab_layer.specs.Bases.{SlabListState}
use Rattle.slab_layer.proofs.slab_lists.SlabList.overlaps.Goals as goal

pub returns : goal.returns
returns g c =
    let items = ap (λ (l : SlabListState). l.items) c.self.view_is in
    let said = rw items at c.overlaps.ensures in
    said
