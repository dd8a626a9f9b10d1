use Rattle.std.proofs.Common.{◌≡◌, ◌++◌, ◌∷◌, [], refl, subst, sym, arith}
use Rattle.deed_core.specs.Extent.{Extent}
use Rattle.deed_core.specs.Holding.{Holding}
use Rattle.tag_arena.specs.ArenaState.{ArenaState, OnQuantum}
use Rattle.tag_arena.specs.Calls.{IsClear}
use Rattle.tag_arena.proofs.Adding.{pushed, same_range}
use Rattle.tag_arena.proofs.Sounding.{the_state}
use Rattle.tag_arena.proofs.Using.{added_sound}
use Rattle.plain_arena.proofs.arenas.PlainArena.add_span.Goals as goal

pub invariant_of-self-2 : goal.invariant_of-self-2
invariant_of-self-2 g c =
    let a = the_state c.self.invariant.0 in
    let h : Holding = c.new-stored.result in
    let range : c.range-range.result ≡ h.range = same_range _ h _ c.range-range.ensures.value c.new-stored.ensures in
    let owned : c.push_reserved.new.self.items ≡ a.owned ++ h ∷ [] = pushed _ _ _ _ _ c.push_reserved.ensures.items c.reserve.ensures.items c.held_range_of.ensures.value in
    let free : c.push_reserved-2.new.self.items ≡ a.free ++ h ∷ [] = pushed _ _ _ _ _ c.push_reserved-2.ensures.items c.reserve_free.ensures.items refl in
    let clear = subst (λ (s : ArenaState). IsClear s c.range-range.result × OnQuantum s.quantum c.range-range.result) (sym c.self.view_is) (c.if-has_overlap.ensures.clear, c.if-not-is_aligned.ensures.0 refl) in (
      rw (owned, free) (added_sound a c.self.invariant.0 h c.held_range_of.ensures.range (subst (λ (e : Extent). OnQuantum c.self.inside.quantum e) range clear.1) (subst (λ (e : Extent). IsClear a e) range clear.0)),
      omega (arith, c.push_reserved-2.ensures.len, c.push_reserved-2.ensures.capacity, c.in-Ok-reserve_free.ensures.room),
    )

pub returns-clause-sound : goal.returns-clause-sound
returns-clause-sound g c =
    let a = the_state c.self.invariant.0 in
    let h : Holding = c.new-stored.result in
    let range : c.range-range.result ≡ h.range = same_range _ h _ c.range-range.ensures.value c.new-stored.ensures in
    let owned : c.push_reserved.new.self.items ≡ a.owned ++ h ∷ [] = pushed _ _ _ _ _ c.push_reserved.ensures.items c.reserve.ensures.items c.held_range_of.ensures.value in
    let free : c.push_reserved-2.new.self.items ≡ a.free ++ h ∷ [] = pushed _ _ _ _ _ c.push_reserved-2.ensures.items c.reserve_free.ensures.items refl in
    let clear = subst (λ (s : ArenaState). IsClear s c.range-range.result × OnQuantum s.quantum c.range-range.result) (sym c.self.view_is) (c.if-has_overlap.ensures.clear, c.if-not-is_aligned.ensures.0 refl) in
    rw (owned, free) (added_sound a c.self.invariant.0 h c.held_range_of.ensures.range (subst (λ (e : Extent). OnQuantum c.self.inside.quantum e) range clear.1) (subst (λ (e : Extent). IsClear a e) range clear.0))
