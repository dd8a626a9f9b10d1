use Rattle.std.proofs.Common.{◌≡◌, ◌∙◌, List, ap, refl, subst}
use Rattle.magazine_layer.specs.Magazines.{BothFull, empty_magazine}
use Rattle.locked_parts.specs.Kinds.{OwnCacheState}
use Rattle.locked_parts.specs.Owns.{IsOwnAt}
use Rattle.locked_parts.proofs.Owns.{fresh_did, fresh_kept, kinds_stay, same_read, stayed}
use Rattle.locked_parts.proofs.own_events.swap_fresh_in.Goals as goal

pub returns-in-Ok-reach_depot-clause-does : goal.returns-in-Ok-reach_depot-clause-does
returns-in-Ok-reach_depot-clause-does g c =
    let h = subst (λ (l : List OwnCacheState). (o : OwnCacheState) × IsOwnAt c.args.parts.now.arenas c.args.arena c.args.cache l c.in-Some.own o) c.deref.ensures.value c.in-Some.ensures.at in
    let again = same_read _ _ _ _ _ h c.index_mut.result.now c.index_mut.ensures.value c.index-2.result.now c.index-2.ensures in
    fresh_did _ _ _ _ _ h c.index_mut.result.now c.index_mut.ensures.value _ _ c.swap_fresh.new.cpu c.swap_fresh.ensures.kind c.in-Ok.magazine (c.in-Ok.ensures ∙ ap empty_magazine c.size-size.ensures.value ∙ ap (λ (o : OwnCacheState). empty_magazine o.cpu.size) again) c.swap_fresh.result _ c.wrap.ensures.word c.swap_fresh.ensures.event

pub returns-in-Ok-reach_depot-clause-kinds : goal.returns-in-Ok-reach_depot-clause-kinds
returns-in-Ok-reach_depot-clause-kinds g c =
    let h = subst (λ (l : List OwnCacheState). (o : OwnCacheState) × IsOwnAt c.args.parts.now.arenas c.args.arena c.args.cache l c.in-Some.own o) c.deref.ensures.value c.in-Some.ensures.at in
    kinds_stay _ _ _ _ _ h c.index_mut.result.now c.index_mut.ensures.value c.swap_fresh.new.cpu c.swap_fresh.ensures.kind

pub returns-in_default-new-clause-does : goal.returns-in_default-new-clause-does
returns-in_default-new-clause-does g c =
    let h = subst (λ (l : List OwnCacheState). (o : OwnCacheState) × IsOwnAt c.args.parts.now.arenas c.args.arena c.args.cache l c.in-Some.own o) c.deref.ensures.value c.in-Some.ensures.at in
    stayed _ _ _ _ _ h c.index.result.now c.index.ensures (λ o o'. BothFull o.cpu × (o' ≡ o)) (c.if-not-is_full.ensures.0 refl, refl)

pub returns-in-Ok-reach_depot-clause-unchanged : goal.returns-in-Ok-reach_depot-clause-unchanged
returns-in-Ok-reach_depot-clause-unchanged g c =
    let h = subst (λ (l : List OwnCacheState). (o : OwnCacheState) × IsOwnAt c.args.parts.now.arenas c.args.arena c.args.cache l c.in-Some.own o) c.deref.ensures.value c.in-Some.ensures.at in
    fresh_kept _ _ _ _ _ h c.index_mut.result.now c.index_mut.ensures.value _ _ c.swap_fresh.new.cpu c.swap_fresh.ensures.kind _ c.swap_fresh.result _ c.wrap.ensures.word c.swap_fresh.ensures.event
