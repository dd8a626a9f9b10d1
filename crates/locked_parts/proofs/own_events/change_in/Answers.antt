use Rattle.std.proofs.Common.{List, subst, inl, Ok, Err}
use Rattle.locked_parts.specs.Kinds.{OwnCacheState}
use Rattle.locked_parts.specs.Owns.{IsOwnAt, DoesChange}
use Rattle.locked_parts.proofs.Owns.{did, kinds_stay}
use Rattle.locked_parts.proofs.own_events.change_in.Goals as goal

pub returns-in-Ok-clause-does : goal.returns-in-Ok-clause-does
returns-in-Ok-clause-does g c =
    let h = subst (λ (l : List OwnCacheState). (o : OwnCacheState) × IsOwnAt c.args.parts.now.arenas c.args.arena c.args.cache l c.in-Some.index o) c.deref.ensures.value c.in-Some.ensures.at in
    did _ _ _ _ _ h c.index_mut-own.result.now c.index_mut-own.ensures.value (DoesChange c.args.size (Ok tt)) c.change.new.self c.in-Ok.ensures.changed c.change.ensures.kind

pub returns-in-Ok-clause-kinds : goal.returns-in-Ok-clause-kinds
returns-in-Ok-clause-kinds g c =
    let h = subst (λ (l : List OwnCacheState). (o : OwnCacheState) × IsOwnAt c.args.parts.now.arenas c.args.arena c.args.cache l c.in-Some.index o) c.deref.ensures.value c.in-Some.ensures.at in
    kinds_stay _ _ _ _ _ h c.index_mut-own.result.now c.index_mut-own.ensures.value c.change.new.self c.change.ensures.kind

pub returns-in-Err-clause-does : goal.returns-in-Err-clause-does
returns-in-Err-clause-does g c =
    let h = subst (λ (l : List OwnCacheState). (o : OwnCacheState) × IsOwnAt c.args.parts.now.arenas c.args.arena c.args.cache l c.in-Some.index o) c.deref.ensures.value c.in-Some.ensures.at in
    inl (did _ _ _ _ _ h c.index_mut-own.result.now c.index_mut-own.ensures.value (DoesChange c.args.size (Err c.in-Err.fault)) c.change.new.self c.in-Err.ensures.changed c.change.ensures.kind)

pub returns-in-Err-clause-kinds : goal.returns-in-Err-clause-kinds
returns-in-Err-clause-kinds g c =
    let h = subst (λ (l : List OwnCacheState). (o : OwnCacheState) × IsOwnAt c.args.parts.now.arenas c.args.arena c.args.cache l c.in-Some.index o) c.deref.ensures.value c.in-Some.ensures.at in
    kinds_stay _ _ _ _ _ h c.index_mut-own.result.now c.index_mut-own.ensures.value c.change.new.self c.change.ensures.kind
