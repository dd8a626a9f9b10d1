use Rattle.std.proofs.Common.{◌≡◌, ◌/◌, ◌<◌, ◌≤◌, ℕ, get_or, true, false, refl, ◌∙◌, ap, sym, subst}
use Rattle.std.specs.Prelude.{Any}
use Rattle.deed_core.specs.Extent.{Extent, Overlap, end_of}
use Rattle.deed_core.specs.Holding.{Holding}
use Rattle.deed_core.specs.Tag.{Tag}
use Rattle.deed_core.specs.declared.segments.Route.TheVariants.{Direct, Cached}
use Rattle.slab_layer.specs.Slab.{SlabState, chunk_at, new_slab, with_chunk}
use Rattle.slab_layer.specs.Cache.{SlabCacheState, chunk_of}
use Rattle.slab_layer.proofs.SoundLemmas.{IsPlaced, placed_at, made_adds, sound_adds, some_chunk}
use Rattle.slab_layer.proofs.MoveLemmas.{fresh_first, fresh_is_slab, adds_out, adds_kept, adds_spans}
use Rattle.slab_layer.proofs.ChunkLemmas.{alike, adds_chunk}
use Rattle.slab_layer.proofs.caches.SlabCache.add.Goals as goal
use Rattle.slab_layer.proofs.caches.SlabCache.add.Given as given

pub returns-then-overlaps-clause-added : goal.returns-then-overlaps-clause-added
returns-then-overlaps-clause-added g c =
    let size : c.args.span.holding.range.len ≡ c.args.self.now.slab_size =
    sym (c.len.ensures.value ∙ ap (λ (e : Extent). e.len) c.range-range.ensures.value) ∙ c.if-len-self.false ∙ ap (λ (x : SlabCacheState). x.slab_size) c.self.view_is in
    let any = c.overlaps.ensures.0 c.if-overlaps.true in
    let here = subst (λ (x : SlabCacheState). Any (λ s. Overlap s.span.range c.range-range.result) x.slabs) c.self.view_is any in
    let over = subst (λ (r : Extent). Any (λ s. Overlap s.span.range r) c.args.self.now.slabs) c.range-range.ensures.value here in
    (size, over, record { handed_back = refl; unchanged = refl })

pub new-requires-clause-chunks : goal.new-requires-clause-chunks
new-requires-clause-chunks g c =
    let size : c.args.span.holding.range.len ≡ c.args.self.now.slab_size =
    sym (c.len.ensures.value ∙ ap (λ (e : Extent). e.len) c.range-range.ensures.value) ∙ c.if-len-self.false ∙ ap (λ (x : SlabCacheState). x.slab_size) c.self.view_is in
    let deed = c.new-deed.ensures ∙ c.into_deed.ensures in
    rw (deed, size, c.chunk-chunk.ensures.value) (some_chunk c.args.self.now c.chunk-chunk.ensures.sound)

pub take-first-requires-clause-idle : goal.take-first-requires-clause-idle
take-first-requires-clause-idle g c =
    let size : c.args.span.holding.range.len ≡ c.args.self.now.slab_size =
    sym (c.len.ensures.value ∙ ap (λ (e : Extent). e.len) c.range-range.ensures.value) ∙ c.if-len-self.false ∙ ap (λ (x : SlabCacheState). x.slab_size) c.self.view_is in
    let deed = c.new-deed.ensures ∙ c.into_deed.ensures in
    let some : 0 < c.new-deed.result.range.len / c.chunk-chunk.result = rw (deed, size, c.chunk-chunk.ensures.value) (some_chunk c.args.self.now c.chunk-chunk.ensures.sound) in
    subst (λ (s : SlabState). get_or s.home 0 false ≡ true) (sym c.in-Ok-new.ensures.ok) (fresh_first c.new-deed.result c.self.inside.colour c.chunk-chunk.result some)

-- it stands between the slabs below it and those above
placed : (g : given.Over) (c : goal.After-insert-arg-1 g) → IsPlaced c.index_for-place.result c.take-first.new.self.span.range c.reserve.new.self.items
placed g c =
    let slabs = c.in-Ok.ensures.items in
    let apart : Any (λ (s : SlabState). Overlap s.span.range c.range-range.result) c.self.inside.slabs.items → ⊥ = λ any. let e : c.overlaps.result ≡ true = c.overlaps.ensures.1 any in let f = c.if-overlaps.false in cc in
    let within = rw slabs at c.index_for-place.ensures.within in
    let below = rw (slabs, c.base.ensures.value) at c.index_for-place.ensures.below in
    let above = rw (slabs, c.base.ensures.value) at c.index_for-place.ensures.above in
    let at = placed_at c.index_for-place.result c.range-range.result _ c.self.invariant c.range-range.ensures.range.some apart within below above in
    let span = ap (λ (s : SlabState). s.span.range) (c.take-first.ensures.after ∙ ap (λ (s : SlabState). with_chunk s 0 false) c.in-Ok-new.ensures.ok) ∙ ap (λ (h : Holding). h.range) (c.new-deed.ensures ∙ c.into_deed.ensures) in
    rw (slabs, span, ← c.range-range.ensures.value) at

pub insert-requires-clause-below : goal.insert-requires-clause-below
insert-requires-clause-below g c = (placed g c).below

pub insert-requires-clause-above : goal.insert-requires-clause-above
insert-requires-clause-above g c = (placed g c).above

pub returns-clause-added : goal.returns-clause-added
returns-clause-added g c =
    let deed = c.new-deed.ensures ∙ c.into_deed.ensures in
    let size : c.args.span.holding.range.len ≡ c.self.inside.slab_size =
    sym (c.len.ensures.value ∙ ap (λ (e : Extent). e.len) c.range-range.ensures.value) ∙ c.if-len-self.false in
    let chunk = c.chunk-chunk.ensures.value ∙ ap chunk_of (sym c.self.view_is) in
    let slab = c.in-Ok-new.ensures.ok ∙ ap (λ (h : Holding). new_slab h c.self.inside.colour c.chunk-chunk.result) deed ∙ ap (λ (n : ℕ). new_slab c.args.span.holding c.self.inside.colour n) chunk in
    let after = c.take-first.ensures.after ∙ ap (λ (s : SlabState). with_chunk s 0 false) slab in
    let apart : Any (λ (s : SlabState). Overlap s.span.range c.range-range.result) c.self.inside.slabs.items → ⊥ = λ any. let e : c.overlaps.result ≡ true = c.overlaps.ensures.1 any in let f = c.if-overlaps.false in cc in
    let slabs = c.in-Ok.ensures.items in
    let within = rw slabs at c.index_for-place.ensures.within in
    let below = rw (slabs, c.base.ensures.value) at c.index_for-place.ensures.below in
    let above = rw (slabs, c.base.ensures.value) at c.index_for-place.ensures.above in
    let put = rw slabs at c.insert.ensures.items in
    let tag = c.new-2.ensures
    ∙ ap (λ (h : Holding). let t : Tag = record { arena = c.self.inside.arena; route = Cached c.self.inside.k; holding = h } in t) (c.into_deed-2.ensures ∙ c.take-first.ensures.chunk ∙ ap (λ (s : SlabState). chunk_at s 0) slab) in (
      c.index_for-place.result,
      made_adds c.index_for-place.result c.next_colour-next.result c.take-first.new.self c.insert.new.self.items _ _ c.args.span _ c.range-range.result c.self.view_is c.chunk-chunk.ensures.sound
          c.range-range.ensures.value c.range-range.ensures.range.some apart within below above after size put c.next_colour-next.ensures tag,
    )

pub invariant_of-self-2 : goal.invariant_of-self-2
invariant_of-self-2 g c =
    let adds = returns-clause-added g c in
    let end = subst (λ (e : Extent). end_of e ≤ 4611686018427387904) c.range-range.ensures.value c.range-range.ensures.range.below in
    sound_adds _ _ _ _ _ adds.1 end c.requires.span.grid c.chunk-chunk.ensures.sound

pub returns-clause-sound : goal.returns-clause-sound
returns-clause-sound g c = invariant_of-self-2 g c

pub returns-clause-alike : goal.returns-clause-alike
returns-clause-alike g c = let adds = returns-clause-added g c in alike _ _ _ _ adds.1.after

pub returns-clause-chunk : goal.returns-clause-chunk
returns-clause-chunk g c =
    let adds = returns-clause-added g c in
    let end = subst (λ (e : Extent). end_of e ≤ 4611686018427387904) c.range-range.ensures.value c.range-range.ensures.range.below in
    adds_chunk _ _ _ _ _ adds.1 end c.requires.span.grid c.chunk-chunk.ensures.sound

pub returns-clause-out : goal.returns-clause-out
returns-clause-out g c =
    let adds = returns-clause-added g c in
    adds_out _ _ _ _ _ adds.1 (rw adds.1.size (some_chunk c.args.self.now c.chunk-chunk.ensures.sound))

pub returns-clause-deeds : goal.returns-clause-deeds
returns-clause-deeds g c =
    let adds = returns-clause-added g c in
    let sound = c.chunk-chunk.ensures.sound in
    adds_kept _ _ _ _ _ adds.1 (rw adds.1.size (some_chunk c.args.self.now sound)) (fresh_is_slab _ _ _ _ sound.some adds.1.size sound.colour)

pub returns-clause-spans : goal.returns-clause-spans
returns-clause-spans g c =
    let adds = returns-clause-added g c in
    let direct : ◌≡◌ {A = Tag} c.args.span (record { arena = c.args.self.now.arena; route = Direct; holding = c.args.span.holding }) = λ n. record { arena = c.requires.span.arena n; route = c.requires.span.route n; holding = c.args.span.holding } in
    adds_spans _ _ _ _ _ adds.1 direct
