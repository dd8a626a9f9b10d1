use Rattle.std.proofs.Common.{◌∙◌, ap}
use Rattle.slab_layer.specs.Slab.{IsComplete}
use Rattle.slab_layer.specs.Standings.{lists_complete}
use Rattle.slab_layer.specs.Bases.{SlabListState}
use Rattle.slab_layer.proofs.CountLemmas.{complete_true, complete_is, lowest_of}
use Rattle.slab_layer.proofs.slab_lists.SlabList.lowest_complete.Goals as goal

pub returns : goal.returns
returns g c =
    let items = ap (λ (l : SlabListState). l.items) c.self.view_is in
    let listed = c.complete.ensures ∙ c.self.invariant.listed.complete in
    let lowest = rw items at (c.lowest.ensures lists_complete listed) in
    lowest_of lists_complete IsComplete c.args.self.now.items c.lowest.result complete_true complete_is lowest
