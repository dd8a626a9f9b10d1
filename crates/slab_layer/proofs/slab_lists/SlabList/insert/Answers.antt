use Rattle.std.proofs.Common.{◌≡◌, ◌<◌, ◌≤◌, ◌^◌, length, take, drop, All, List, arith, sym, ◌∙◌, ap, subst}
use Rattle.deed_core.specs.Extent.{Extent, end_of}
use Rattle.slab_layer.specs.declared.standings.Standing.TheVariants.{AllOut}
use Rattle.slab_layer.specs.Slab.{SlabState}
use Rattle.slab_layer.specs.Standings.{standing_of}
use Rattle.slab_layer.specs.Bases.{SlabListState, AreBeside, ListsAt}
use Rattle.slab_layer.proofs.ListedLemmas.{base_of, beside_gap, lists_gap, room_in_gap, listed_insert}
use Rattle.slab_layer.proofs.SumLemmas.{insert_fits, put_in}
use Rattle.slab_layer.proofs.slab_lists.SlabList.insert.Goals as goal

pub relist-requires : goal.relist-requires
relist-requires g c =
    let slabs = c.self.inside.slabs.items in
    let v = c.args.slab in
    let base : c.base.result ≡ base_of v = c.base.ensures.value ∙ ap (λ (e : Extent). e.base) c.span.ensures.value in
    let units : 0 < v.span.range.len = subst (λ (e : Extent). 0 < e.len) c.span.ensures.value c.span.ensures.range.some in
    let below = subst (λ (l : SlabListState). All (λ (s : SlabState). end_of s.span.range ≤ c.args.slab.span.range.base) (take c.args.place l.items)) (sym c.self.view_is) c.requires.below in
    let above = subst (λ (l : SlabListState). All (λ (s : SlabState). end_of c.args.slab.span.range ≤ s.span.range.base) (drop c.args.place l.items)) (sym c.self.view_is) c.requires.above in
    let room = subst (λ (l : SlabListState). length l.items < l.room) (sym c.self.view_is) c.requires.room in
    let more : length c.self.inside.slabs.items < c.self.inside.idle.room = omega (arith, room) in
    let low : List SlabState = take c.args.place slabs in
    let high : List SlabState = drop c.args.place slabs in
    let beside : AreBeside low c.base.result high = rw base (beside_gap slabs c.args.place v c.self.invariant.listed.some units below above) in
    let lists : ListsAt low c.base.result AllOut high c.self.inside.idle = lists_gap slabs c.self.inside.idle c.args.place c.base.result c.self.invariant.listed in
    record { place = (low, high, beside, lists, room_in_gap slabs c.args.place c.self.inside.idle.room more) }

pub add-requires : goal.add-requires
add-requires g c =
    let below = subst (λ (l : SlabListState). All (λ (s : SlabState). end_of s.span.range ≤ c.args.slab.span.range.base) (take c.args.place l.items)) (sym c.self.view_is) c.requires.below in
    let above = subst (λ (l : SlabListState). All (λ (s : SlabState). end_of c.args.slab.span.range ≤ s.span.range.base) (drop c.args.place l.items)) (sym c.self.view_is) c.requires.above in
    let end = subst (λ (e : Extent). end_of e ≤ 2 ^ 62) c.span.ensures.value c.span.ensures.range.below in
    let fits = insert_fits c.self.inside.slabs.items c.self.inside.idle c.self.inside.sums c.args.place c.args.slab c.self.invariant c.span.ensures.shape end below above in
    record { idle = fits.idle; gap = fits.gap; tail = fits.tail }

pub invariant_of-self : goal.invariant_of-self
invariant_of-self g c =
    let slabs = c.self.inside.slabs.items in
    let v = c.args.slab in
    let base : c.base.result ≡ base_of v = c.base.ensures.value ∙ ap (λ (e : Extent). e.base) c.span.ensures.value in
    let units : 0 < v.span.range.len = subst (λ (e : Extent). 0 < e.len) c.span.ensures.value c.span.ensures.range.some in
    let below = subst (λ (l : SlabListState). All (λ (s : SlabState). end_of s.span.range ≤ c.args.slab.span.range.base) (take c.args.place l.items)) (sym c.self.view_is) c.requires.below in
    let above = subst (λ (l : SlabListState). All (λ (s : SlabState). end_of c.args.slab.span.range ≤ s.span.range.base) (drop c.args.place l.items)) (sym c.self.view_is) c.requires.above in
    let room = subst (λ (l : SlabListState). length l.items < l.room) (sym c.self.view_is) c.requires.room in
    let more : length c.self.inside.slabs.items < c.self.inside.idle.room = omega (arith, room) in
    let low : List SlabState = take c.args.place slabs in
    let high : List SlabState = drop c.args.place slabs in
    let beside : AreBeside low c.base.result high = rw base (beside_gap slabs c.args.place v c.self.invariant.listed.some units below above) in
    let lists : ListsAt low c.base.result AllOut high c.self.inside.idle = lists_gap slabs c.self.inside.idle c.args.place c.base.result c.self.invariant.listed in
    let within = subst (λ (l : SlabListState). c.args.place ≤ length l.items) (sym c.self.view_is) c.requires.within in
    let new : ListsAt low (base_of v) (standing_of v) high c.relist.new.self = rw (← base, ← c.standing.ensures) (c.relist.ensures.lists low high beside lists) in
    let listed = listed_insert slabs c.self.inside.idle c.relist.new.self c.args.place v c.self.invariant.listed within more units below above new c.relist.ensures.room in
    let end = subst (λ (e : Extent). end_of e ≤ 2 ^ 62) c.span.ensures.value c.span.ensures.range.below in
    rw c.in-Ok.ensures.items (put_in slabs c.self.inside.idle c.self.inside.sums c.args.place v c.self.invariant c.span.ensures.shape end c.relist.new.self c.add.new.self c.add.ensures.idle c.add.ensures.gap c.add.ensures.tail listed)
