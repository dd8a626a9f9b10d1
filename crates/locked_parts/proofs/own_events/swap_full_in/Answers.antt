use Rattle.std.proofs.Common.{List, subst}
use Rattle.locked_parts.specs.Kinds.{OwnCacheState}
use Rattle.locked_parts.specs.Owns.{IsOwnAt}
use Rattle.locked_parts.proofs.Owns.{full_did, full_kept, kinds_stay}
use Rattle.locked_parts.proofs.own_events.swap_full_in.Goals as goal

pub returns-in-Ok-clause-does : goal.returns-in-Ok-clause-does
returns-in-Ok-clause-does g c =
    let h = subst (λ (l : List OwnCacheState). (o : OwnCacheState) × IsOwnAt c.args.parts.now.arenas c.args.arena c.args.cache l c.in-Some.own o) c.deref.ensures.value c.in-Some.ensures.at in
    full_did _ _ _ _ _ h c.index_mut.result.now c.index_mut.ensures.value _ _ c.swap_full.new.cpu c.swap_full.ensures.kind c.swap_full.result _ c.wrap.ensures.word c.swap_full.ensures.event

pub returns-in-Ok-clause-kinds : goal.returns-in-Ok-clause-kinds
returns-in-Ok-clause-kinds g c =
    let h = subst (λ (l : List OwnCacheState). (o : OwnCacheState) × IsOwnAt c.args.parts.now.arenas c.args.arena c.args.cache l c.in-Some.own o) c.deref.ensures.value c.in-Some.ensures.at in
    kinds_stay _ _ _ _ _ h c.index_mut.result.now c.index_mut.ensures.value c.swap_full.new.cpu c.swap_full.ensures.kind

pub returns-in-Ok-clause-unchanged : goal.returns-in-Ok-clause-unchanged
returns-in-Ok-clause-unchanged g c =
    let h = subst (λ (l : List OwnCacheState). (o : OwnCacheState) × IsOwnAt c.args.parts.now.arenas c.args.arena c.args.cache l c.in-Some.own o) c.deref.ensures.value c.in-Some.ensures.at in
    full_kept _ _ _ _ _ h c.index_mut.result.now c.index_mut.ensures.value _ _ c.swap_full.new.cpu c.swap_full.ensures.kind c.swap_full.result _ c.wrap.ensures.word c.swap_full.ensures.event
