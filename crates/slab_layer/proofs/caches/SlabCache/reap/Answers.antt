use Rattle.std.proofs.Common.{◌∙◌, All, ap, sym, refl, subst}
use Rattle.deed_core.specs.Holding.{Holding}
use Rattle.deed_core.specs.Tag.{Tag}
use Rattle.deed_core.specs.declared.segments.Route.TheVariants.{Direct}
use Rattle.slab_layer.specs.Slab.{SlabState, IsComplete}
use Rattle.slab_layer.specs.Cache.{SlabCacheState, IsSoundCache}
use Rattle.slab_layer.proofs.SearchLemmas.{same_slab}
use Rattle.slab_layer.proofs.SoundLemmas.{of_size, made_reaps, sound_reaps}
use Rattle.slab_layer.proofs.MoveLemmas.{slab_of_size, reaps_out, reaps_kept, reaps_spans}
use Rattle.slab_layer.proofs.ChunkLemmas.{alike, reaps_span}
use Rattle.slab_layer.proofs.caches.SlabCache.reap.Goals as goal

pub into_span-requires : goal.into_span-requires
into_span-requires g c =
    let lowest = c.in_ok-i.ensures in
    let same = same_slab c.in_ok-i.i lowest.0 c.remove-slab.result c.self.inside.slabs.items lowest.1.stands c.remove-slab.ensures.slab in
    subst (λ (s : SlabState). IsComplete s) (sym same) lowest.1.so

pub returns-clause-reaped : goal.returns-clause-reaped
returns-clause-reaped g c =
    let lowest = c.in_ok-i.ensures in
    let tag = c.new.ensures ∙ ap (λ (h : Holding). let t : Tag = record { arena = c.self.inside.arena; route = Direct; holding = h } in t) (c.into_deed.ensures ∙ c.into_span.ensures) in
    (c.in_ok-i.i, lowest.0, made_reaps c.in_ok-i.i lowest.0 c.remove-slab.result c.remove-slab.new.self.items _ _ _ c.self.view_is lowest.1 c.remove-slab.ensures.slab c.remove-slab.ensures.items tag)

pub invariant_of-self : goal.invariant_of-self
invariant_of-self g c =
    let reaps = returns-clause-reaped g c in
    sound_reaps _ _ _ _ _ reaps.2 (subst (λ (x : SlabCacheState). IsSoundCache x) c.self.view_is c.self.invariant)

pub returns-clause-sound : goal.returns-clause-sound
returns-clause-sound g c = invariant_of-self g c

pub returns-in_err-i-clause-reaped : goal.returns-in_err-i-clause-reaped
returns-in_err-i-clause-reaped g c =
    let none = c.in_err-i.ensures in
    let here = subst (λ (x : SlabCacheState). All (λ s. IsComplete s → ⊥) x.slabs) c.self.view_is none in
    rw c.from_residual.ensures (here, refl)

pub returns-clause-alike : goal.returns-clause-alike
returns-clause-alike g c = let reaps = returns-clause-reaped g c in alike _ _ _ _ reaps.2.after

pub returns-clause-span : goal.returns-clause-span
returns-clause-span g c =
    let reaps = returns-clause-reaped g c in
    reaps_span _ _ _ _ _ reaps.2 (subst (λ (x : SlabCacheState). IsSoundCache x) c.self.view_is c.self.invariant)

pub returns-clause-out : goal.returns-clause-out
returns-clause-out g c = let reaps = returns-clause-reaped g c in reaps_out _ _ _ _ _ reaps.2

pub returns-clause-deeds : goal.returns-clause-deeds
returns-clause-deeds g c =
    let reaps = returns-clause-reaped g c in
    let sound = subst (λ (x : SlabCacheState). IsSoundCache x) c.self.view_is c.self.invariant in
    reaps_kept _ _ _ _ _ reaps.2 (slab_of_size _ _ sound (of_size _ _ _ sound reaps.2.lowest.stands))

pub returns-clause-spans : goal.returns-clause-spans
returns-clause-spans g c = let reaps = returns-clause-reaped g c in reaps_spans _ _ _ _ _ reaps.2
