use Rattle.std.proofs.Common.{List, subst, refl, inl}
use Rattle.magazine_layer.specs.Calls.{PopOf}
use Rattle.arena_tree.specs.Trees.{nodes_of}
use Rattle.locked_parts.specs.Kinds.{OwnCacheState}
use Rattle.locked_parts.specs.Owns.{IsOwnAt}
use Rattle.locked_parts.proofs.Owns.{did, found_kind, kinds_stay}
use Rattle.locked_parts.proofs.Sounds.{cached_given}
use Rattle.locked_parts.proofs.own_events.pop_in.Goals as goal

pub returns-clause-does : goal.returns-clause-does
returns-clause-does g c =
    let h = subst (λ (l : List OwnCacheState). (o : OwnCacheState) × IsOwnAt c.args.parts.now.arenas c.args.arena c.args.cache l c.in-Some.index o) c.deref.ensures.value c.in-Some.ensures.at in
    inl (did _ _ _ _ _ h c.index_mut-own.result.now c.index_mut-own.ensures.value (λ o o'. PopOf o.cpu c.pop.result o'.cpu) c.pop.new.self c.pop.ensures.popped c.pop.ensures.kind)

pub returns-clause-sound : goal.returns-clause-sound
returns-clause-sound g c =
    let h = subst (λ (l : List OwnCacheState). (o : OwnCacheState) × IsOwnAt c.args.parts.now.arenas c.args.arena c.args.cache l c.in-Some.index o) c.deref.ensures.value c.in-Some.ensures.at in
    let kind = found_kind _ _ _ _ _ h c.index_mut-own.result.now c.index_mut-own.ensures.value c.pop.ensures.quantum in
    (cached_given (nodes_of c.args.parts.now.arenas) c.args.arena c.args.cache c.index_mut-own.result.now.kind c.pop.result kind c.pop.ensures.chunk, refl)

pub returns-clause-kinds : goal.returns-clause-kinds
returns-clause-kinds g c =
    let h = subst (λ (l : List OwnCacheState). (o : OwnCacheState) × IsOwnAt c.args.parts.now.arenas c.args.arena c.args.cache l c.in-Some.index o) c.deref.ensures.value c.in-Some.ensures.at in
    kinds_stay _ _ _ _ _ h c.index_mut-own.result.now c.index_mut-own.ensures.value c.pop.new.self c.pop.ensures.kind
