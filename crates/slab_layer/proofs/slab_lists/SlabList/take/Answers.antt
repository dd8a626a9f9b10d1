use Rattle.std.proofs.Common.{◌≡◌, ◌<◌, suc, true, false, length, get_or, take, drop, List, refl, sym, ◌∙◌, ap, arith, subst}
use Rattle.deed_core.specs.Extent.{Extent}
use Rattle.slab_layer.specs.Slab.{SlabState}
use Rattle.slab_layer.specs.Standings.{standing_of}
use Rattle.slab_layer.specs.Bases.{SlabListState, AreBeside, ListsAt}
use Rattle.slab_layer.proofs.ListedLemmas.{base_of, beside_slab, lists_slab, room_beside, listed_set}
use Rattle.slab_layer.proofs.SumLemmas.{chunk_there, idle_taken, moved, take_fits}
use Rattle.slab_layer.proofs.slab_lists.SlabList.take.Goals as goal

pub overflow_sub-self : goal.overflow_sub-self
overflow_sub-self g c =
    let slabs = c.self.inside.slabs.items in
    let s = c.index_mut-slab.result.now in
    let is = c.index_mut-slab.ensures.value in
    let within : c.args.i < length c.self.inside.slabs.items = subst (λ (l : SlabListState). c.args.i < length l.items) (sym c.self.view_is) c.requires.1.within in
    let asked = c.requires in
    let same = is ∙ ap (λ (l : SlabListState). get_or l.items c.args.i s) c.self.view_is in
    let there = chunk_there c.args.i c.args.j true s c.args.self.now.items (asked.0, asked.1, asked.2, asked.3) same in
    let chunk = c.chunk.ensures ∙ ap (λ (r : SlabState). r.chunk) c.take-deed.ensures.after in
    let fits = take_fits slabs c.self.inside.idle c.self.inside.sums c.args.i c.args.j s c.self.invariant within is there.0 there.1 in
    omega (arith, chunk, fits)

pub relist-requires : goal.relist-requires
relist-requires g c =
    let slabs = c.self.inside.slabs.items in
    let s = c.index_mut-slab.result.now in
    let is = c.index_mut-slab.ensures.value in
    let within : c.args.i < length c.self.inside.slabs.items = subst (λ (l : SlabListState). c.args.i < length l.items) (sym c.self.view_is) c.requires.1.within in
    let base : c.base.result ≡ base_of s = c.base.ensures.value ∙ ap (λ (e : Extent). e.base) c.span.ensures.value ∙ ap (λ (r : SlabState). base_of r) c.take-deed.ensures.after in
    let low : List SlabState = take c.args.i slabs in
    let high : List SlabState = drop (suc c.args.i) slabs in
    let beside : AreBeside low c.base.result high = rw base (beside_slab slabs c.args.i s c.self.invariant.listed.ascending c.self.invariant.listed.some within is) in
    let lists : ListsAt low c.base.result c.standing-was.result high c.self.inside.idle = rw (base, c.standing-was.ensures) (lists_slab slabs c.self.inside.idle c.args.i s c.self.invariant.listed within is) in
    record { place = (low, high, beside, lists, room_beside slabs c.args.i c.self.inside.idle.room within c.self.invariant.listed.room) }

pub invariant_of-self : goal.invariant_of-self
invariant_of-self g c =
    let slabs = c.self.inside.slabs.items in
    let s = c.index_mut-slab.result.now in
    let is = c.index_mut-slab.ensures.value in
    let within : c.args.i < length c.self.inside.slabs.items = subst (λ (l : SlabListState). c.args.i < length l.items) (sym c.self.view_is) c.requires.1.within in
    let base : c.base.result ≡ base_of s = c.base.ensures.value ∙ ap (λ (e : Extent). e.base) c.span.ensures.value ∙ ap (λ (r : SlabState). base_of r) c.take-deed.ensures.after in
    let low : List SlabState = take c.args.i slabs in
    let high : List SlabState = drop (suc c.args.i) slabs in
    let beside : AreBeside low c.base.result high = rw base (beside_slab slabs c.args.i s c.self.invariant.listed.ascending c.self.invariant.listed.some within is) in
    let lists : ListsAt low c.base.result c.standing-was.result high c.self.inside.idle = rw (base, c.standing-was.ensures) (lists_slab slabs c.self.inside.idle c.args.i s c.self.invariant.listed within is) in
    let span = ap (λ (r : SlabState). r.span) c.take-deed.ensures.after in
    let base' : c.base.result ≡ base_of c.take-deed.new.self = base ∙ sym (ap (λ (r : SlabState). base_of r) c.take-deed.ensures.after) in
    let new : ListsAt low (base_of c.take-deed.new.self) (standing_of c.take-deed.new.self) high c.relist.new.self = rw (← base', ← c.standing.ensures) (c.relist.ensures.lists low high beside lists) in
    let listed = listed_set slabs c.self.inside.idle c.relist.new.self c.args.i s c.take-deed.new.self c.self.invariant.listed within is span new c.relist.ensures.room in
    let asked = c.requires in
    let same = is ∙ ap (λ (l : SlabListState). get_or l.items c.args.i s) c.self.view_is in
    let there = chunk_there c.args.i c.args.j true s c.args.self.now.items (asked.0, asked.1, asked.2, asked.3) same in
    let chunk = c.chunk.ensures ∙ ap (λ (r : SlabState). r.chunk) c.take-deed.ensures.after in
    let fits = take_fits slabs c.self.inside.idle c.self.inside.sums c.args.i c.args.j s c.self.invariant within is there.0 there.1 in
    moved slabs c.self.inside.idle c.self.inside.sums c.args.i c.args.j s c.self.invariant within is false c.take-deed.new.self c.relist.new.self _ c.take-deed.ensures.after (omega (arith, chunk, fits, idle_taken s c.args.j there.0 there.1)) refl refl listed
