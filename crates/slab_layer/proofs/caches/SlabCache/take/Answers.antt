use Rattle.std.proofs.Common.{◌∙◌, ap, subst}
use Rattle.deed_core.specs.Holding.{Holding}
use Rattle.deed_core.specs.Tag.{Tag}
use Rattle.deed_core.specs.declared.segments.Route.TheVariants.{Cached}
use Rattle.slab_layer.specs.Cache.{SlabCacheState, IsSoundCache}
use Rattle.slab_layer.proofs.SearchLemmas.{next_stands}
use Rattle.slab_layer.proofs.SoundLemmas.{made_takes, sound_takes}
use Rattle.slab_layer.proofs.MoveLemmas.{takes_out, takes_kept, takes_spans}
use Rattle.slab_layer.proofs.ChunkLemmas.{alike, takes_chunk}
use Rattle.slab_layer.proofs.caches.SlabCache.take.Goals as goal

pub take-deed-requires : goal.take-deed-requires
take-deed-requires g c =
    let next = c.in_ok-i.ensures in
    (next.0, next_stands c.in_ok-i.i next.0 _ next.1, next.2.within, next.2.idle)

pub returns-clause-taken : goal.returns-clause-taken
returns-clause-taken g c =
    let next = c.in_ok-i.ensures in
    let stands = next_stands c.in_ok-i.i next.0 _ next.1 in
    let tag = c.new.ensures ∙ ap (λ (h : Holding). let t : Tag = record { arena = c.self.inside.arena; route = Cached c.self.inside.k; holding = h } in t) (c.into_deed.ensures ∙ c.take-deed.ensures.chunk next.0 stands) in
    (c.in_ok-i.i, c.in_ok-i.j, next.0, made_takes c.in_ok-i.i c.in_ok-i.j next.0 c.take-deed.new.self.items _ _ _ c.self.view_is next.1 next.2 (c.take-deed.ensures.items next.0 stands) tag)

pub invariant_of-self : goal.invariant_of-self
invariant_of-self g c =
    let takes = returns-clause-taken g c in
    sound_takes _ _ _ _ _ _ takes.3 (subst (λ (x : SlabCacheState). IsSoundCache x) c.self.view_is c.self.invariant)

pub returns-clause-sound : goal.returns-clause-sound
returns-clause-sound g c = invariant_of-self g c

pub returns-clause-alike : goal.returns-clause-alike
returns-clause-alike g c = let takes = returns-clause-taken g c in alike _ _ _ _ takes.3.after

pub returns-clause-chunk : goal.returns-clause-chunk
returns-clause-chunk g c =
    let takes = returns-clause-taken g c in
    takes_chunk _ _ _ _ _ _ takes.3 (subst (λ (x : SlabCacheState). IsSoundCache x) c.self.view_is c.self.invariant)

pub returns-clause-out : goal.returns-clause-out
returns-clause-out g c = let takes = returns-clause-taken g c in takes_out _ _ _ _ _ _ takes.3

pub returns-clause-deeds : goal.returns-clause-deeds
returns-clause-deeds g c = let takes = returns-clause-taken g c in takes_kept _ _ _ _ _ _ takes.3

pub returns-clause-spans : goal.returns-clause-spans
returns-clause-spans g c = let takes = returns-clause-taken g c in takes_spans _ _ _ _ _ _ takes.3
