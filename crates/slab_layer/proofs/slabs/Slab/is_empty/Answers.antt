use Rattle.std.proofs.Common.{subst, sym}
use Rattle.slab_layer.specs.Slab.{SlabState, PartsAreStored}
use Rattle.slab_layer.proofs.SlabLemmas.{empty_is}
use Rattle.slab_layer.proofs.slabs.Slab.is_empty.Goals as goal

pub returns : goal.returns
returns g c =
    let held = subst (λ (s : SlabState). PartsAreStored s c.self.inside.gap c.self.inside.home.items c.self.inside.tail) c.self.view_is c.self.invariant.parts in
    empty_is c.args.self.now c.self.inside.gap c.self.inside.tail c.self.inside.home.items c.first_idle.result c.is_none.result held (sym c.if-is_some.ensures) (sym c.if-is_some-2.ensures) c.is_none.ensures c.first_idle.ensures
