use Rattle.std.proofs.Common.{List, subst, inl, Ok, Err}
use Rattle.locked_parts.specs.Kinds.{OwnCacheState}
use Rattle.locked_parts.specs.Owns.{IsOwnAt, DoesPush}
use Rattle.locked_parts.proofs.Owns.{did, kinds_stay}
use Rattle.locked_parts.proofs.own_events.push_in.Goals as goal

pub returns-in-Ok-clause-does : goal.returns-in-Ok-clause-does
returns-in-Ok-clause-does g c =
    let h = subst (λ (l : List OwnCacheState). (o : OwnCacheState) × IsOwnAt c.args.parts.now.arenas c.args.arena c.args.cache l c.in-Some.index o) c.deref.ensures.value c.in-Some.ensures.at in
    did _ _ _ _ _ h c.index_mut-own.result.now c.index_mut-own.ensures.value (DoesPush c.args.segment (Ok tt)) c.push.new.self c.in-Ok.ensures.pushed c.push.ensures.kind

pub returns-in-Ok-clause-kinds : goal.returns-in-Ok-clause-kinds
returns-in-Ok-clause-kinds g c =
    let h = subst (λ (l : List OwnCacheState). (o : OwnCacheState) × IsOwnAt c.args.parts.now.arenas c.args.arena c.args.cache l c.in-Some.index o) c.deref.ensures.value c.in-Some.ensures.at in
    kinds_stay _ _ _ _ _ h c.index_mut-own.result.now c.index_mut-own.ensures.value c.push.new.self c.push.ensures.kind

pub returns-in-Err-clause-does : goal.returns-in-Err-clause-does
returns-in-Err-clause-does g c =
    let h = subst (λ (l : List OwnCacheState). (o : OwnCacheState) × IsOwnAt c.args.parts.now.arenas c.args.arena c.args.cache l c.in-Some.index o) c.deref.ensures.value c.in-Some.ensures.at in
    inl (did _ _ _ _ _ h c.index_mut-own.result.now c.index_mut-own.ensures.value (DoesPush c.args.segment (Err c.in-Err.segment)) c.push.new.self c.in-Err.ensures.pushed c.push.ensures.kind)

pub returns-in-Err-clause-kinds : goal.returns-in-Err-clause-kinds
returns-in-Err-clause-kinds g c =
    let h = subst (λ (l : List OwnCacheState). (o : OwnCacheState) × IsOwnAt c.args.parts.now.arenas c.args.arena c.args.cache l c.in-Some.index o) c.deref.ensures.value c.in-Some.ensures.at in
    kinds_stay _ _ _ _ _ h c.index_mut-own.result.now c.index_mut-own.ensures.value c.push.new.self c.push.ensures.kind
