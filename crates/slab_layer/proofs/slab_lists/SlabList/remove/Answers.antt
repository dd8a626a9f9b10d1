use Rattle.std.proofs.Common.{◌≡◌, ◌<◌, suc, length, take, drop, List, sym, ◌∙◌, ap, subst}
use Rattle.deed_core.specs.Extent.{Extent}
use Rattle.slab_layer.specs.Slab.{SlabState}
use Rattle.slab_layer.specs.Bases.{SlabListState, AreBeside, ListsAt}
use Rattle.slab_layer.proofs.ListedLemmas.{base_of, beside_slab, lists_slab, room_beside, listed_remove}
use Rattle.slab_layer.proofs.SumLemmas.{remove_fits, taken_out}
use Rattle.slab_layer.proofs.slab_lists.SlabList.remove.Goals as goal

pub relist-requires : goal.relist-requires
relist-requires g c =
    let slabs = c.self.inside.slabs.items in
    let s = c.unwrap-slab.result in
    let within : c.args.i < length c.self.inside.slabs.items = subst (λ (l : SlabListState). c.args.i < length l.items) (sym c.self.view_is) c.requires in
    let is = rw c.unwrap-slab.ensures at c.remove.ensures.value in
    let base : c.base.result ≡ base_of s = c.base.ensures.value ∙ ap (λ (e : Extent). e.base) c.span.ensures.value in
    let low : List SlabState = take c.args.i slabs in
    let high : List SlabState = drop (suc c.args.i) slabs in
    let beside : AreBeside low c.base.result high = rw base (beside_slab slabs c.args.i s c.self.invariant.listed.ascending c.self.invariant.listed.some within is) in
    let lists : ListsAt low c.base.result c.standing.result high c.self.inside.idle = rw (base, c.standing.ensures) (lists_slab slabs c.self.inside.idle c.args.i s c.self.invariant.listed within is) in
    record { place = (low, high, beside, lists, room_beside slabs c.args.i c.self.inside.idle.room within c.self.invariant.listed.room) }

pub subtract-requires : goal.subtract-requires
subtract-requires g c =
    let within : c.args.i < length c.self.inside.slabs.items = subst (λ (l : SlabListState). c.args.i < length l.items) (sym c.self.view_is) c.requires in
    let is = rw c.unwrap-slab.ensures at c.remove.ensures.value in
    let fits = remove_fits c.self.inside.slabs.items c.self.inside.idle c.self.inside.sums c.args.i c.unwrap-slab.result c.self.invariant within is in
    record { idle = fits.idle; gap = fits.gap; tail = fits.tail }

pub invariant_of-self : goal.invariant_of-self
invariant_of-self g c =
    let slabs = c.self.inside.slabs.items in
    let s = c.unwrap-slab.result in
    let within : c.args.i < length c.self.inside.slabs.items = subst (λ (l : SlabListState). c.args.i < length l.items) (sym c.self.view_is) c.requires in
    let is = rw c.unwrap-slab.ensures at c.remove.ensures.value in
    let base : c.base.result ≡ base_of s = c.base.ensures.value ∙ ap (λ (e : Extent). e.base) c.span.ensures.value in
    let low : List SlabState = take c.args.i slabs in
    let high : List SlabState = drop (suc c.args.i) slabs in
    let beside : AreBeside low c.base.result high = rw base (beside_slab slabs c.args.i s c.self.invariant.listed.ascending c.self.invariant.listed.some within is) in
    let lists : ListsAt low c.base.result c.standing.result high c.self.inside.idle = rw (base, c.standing.ensures) (lists_slab slabs c.self.inside.idle c.args.i s c.self.invariant.listed within is) in
    let left = rw c.unwrap-slab.ensures at c.remove.ensures.items in
    let listed = listed_remove slabs c.self.inside.idle c.relist.new.self c.args.i c.base.result c.self.invariant.listed within (c.relist.ensures.lists low high beside lists) c.relist.ensures.room in
    rw left (taken_out slabs c.self.inside.idle c.self.inside.sums c.args.i s c.self.invariant within is c.relist.new.self c.subtract.new.self c.subtract.ensures.idle c.subtract.ensures.gap c.subtract.ensures.tail listed)
