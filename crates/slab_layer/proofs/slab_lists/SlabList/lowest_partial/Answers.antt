use Rattle.std.proofs.Common.{◌∙◌, ap}
use Rattle.slab_layer.specs.Slab.{IsPartial}
use Rattle.slab_layer.specs.Standings.{lists_partial}
use Rattle.slab_layer.specs.Bases.{SlabListState}
use Rattle.slab_layer.proofs.CountLemmas.{partial_true, partial_is, lowest_of}
use Rattle.slab_layer.proofs.slab_lists.SlabList.lowest_partial.Goals as goal

pub returns : goal.returns
returns g c =
    let items = ap (λ (l : SlabListState). l.items) c.self.view_is in
    let listed = c.partial.ensures ∙ c.self.invariant.listed.partial in
    let lowest = rw items at (c.lowest.ensures lists_partial listed) in
    lowest_of lists_partial IsPartial c.args.self.now.items c.lowest.result partial_true partial_is lowest
