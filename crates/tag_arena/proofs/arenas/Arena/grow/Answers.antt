use Rattle.std.proofs.Common.{◌≡◌, ℕ, ◌++◌, ◌∷◌, [], List, All, ◌≢◌, refl, subst, sym, ap, ◌∙◌, arith}
use Rattle.std.proofs.lemmas.List.Elements.{Contains-append_left}
use Rattle.deed_core.specs.Extent.{Extent, end_of}
use Rattle.deed_core.specs.Holding.{Holding, Apart}
use Rattle.deed_core.specs.Tag.{Tag}
use Rattle.tag_arena.specs.ArenaState.{ArenaState, OnQuantum}
use Rattle.tag_arena.specs.Calls.{IsClear}
use Rattle.tag_arena.proofs.Adding.{pushed, same_range}
use Rattle.tag_arena.proofs.Sounding.{the_state}
use Rattle.tag_arena.proofs.Using.{added_sound}
use Rattle.tag_arena.proofs.Certifying.{backed_told}
use Rattle.tag_arena.proofs.Backing.{backed_insert}
use Rattle.tag_arena.specs.Spanned.{holdings_of}
use Rattle.tag_arena.proofs.Granted.{clear_inside, ends_alone, held_more}
use Rattle.tag_arena.proofs.arenas.Arena.grow.Goals as goal

pub insert-slot-requires-clause-clear : goal.insert-slot-requires-clause-clear
insert-slot-requires-clause-clear g c =
    let a = the_state c.self.invariant.0 in
    let h : Holding = c.new-stored.result in
    let range : c.args.range ≡ h.range = same_range _ h _ (sym c.in-Ok.ensures.range) c.new-stored.ensures in
    let clear = subst (λ (s : ArenaState). IsClear s c.args.range × OnQuantum s.quantum c.args.range) (sym c.self.view_is) (c.requires.admitted.clear, c.requires.admitted.aligned) in
    let sound = added_sound a c.self.invariant.0 h c.held_range_of.ensures.range (subst (λ (e : Extent). OnQuantum c.self.inside.quantum e) range clear.1) (subst (λ (e : Extent). IsClear a e) range clear.0) in
    subst (λ (xs : List Holding). All (Apart h) xs) (sym (ap (λ v. v.ranges) c.room_for_span.ensures.rest))
    (clear_inside a.free h h sound.divided.whole.free_apart (record { from = omega arith; to = omega arith }))

pub invariant_of-self-2 : goal.invariant_of-self-2
invariant_of-self-2 g c =
    let a = the_state c.self.invariant.0 in
    let h : Holding = c.new-stored.result in
    let range : c.args.range ≡ h.range = same_range _ h _ (sym c.in-Ok.ensures.range) c.new-stored.ensures in
    let owned : holdings_of c.put.new.self.items ≡ a.owned ++ h ∷ [] = held_more _ _ _ _ h c.put.ensures c.room_for_span.ensures.spans (ap (λ (t : Tag). t.holding) c.new.ensures ∙ c.held_range_of.ensures.value) in
    let tags : c.tell.new.tags ≡ c.self.inside.tags = c.tell.ensures.tags ∙ c.room_for_span.ensures.tags in
    let free : c.tell.new.free.ranges ≡ a.free ++ h ∷ [] = ap (λ v. v.ranges) c.tell.ensures.free ∙ pushed _ _ _ _ _ c.insert-slot.ensures.ranges (ap (λ v. v.ranges) c.room_for_span.ensures.rest) refl in
    let clear = subst (λ (s : ArenaState). IsClear s c.args.range × OnQuantum s.quantum c.args.range) (sym c.self.view_is) (c.requires.admitted.clear, c.requires.admitted.aligned) in (
      rw (owned, free, tags) (added_sound a c.self.invariant.0 h c.held_range_of.ensures.range (subst (λ (e : Extent). OnQuantum c.self.inside.quantum e) range clear.1) (subst (λ (e : Extent). IsClear a e) range clear.0)),
      backed_told c.self.inside.policy _ _ _ _ c.tell.ensures.free tags (backed_insert c.self.inside.policy c.self.inside.free c.room_for_span.new.free c.room_for_span.ensures.rest c.insert-slot.new.self h _ c.in_ok-cell.ensures.room c.in_ok-cell.ensures.ticks c.insert-slot.ensures.ranges c.insert-slot.ensures.policy c.insert-slot.ensures.room c.insert-slot.ensures.ticks c.self.invariant.1),
    )

pub returns-clause-sound : goal.returns-clause-sound
returns-clause-sound g c =
    let a = the_state c.self.invariant.0 in
    let h : Holding = c.new-stored.result in
    let range : c.args.range ≡ h.range = same_range _ h _ (sym c.in-Ok.ensures.range) c.new-stored.ensures in
    let owned : holdings_of c.put.new.self.items ≡ a.owned ++ h ∷ [] = held_more _ _ _ _ h c.put.ensures c.room_for_span.ensures.spans (ap (λ (t : Tag). t.holding) c.new.ensures ∙ c.held_range_of.ensures.value) in
    let tags : c.tell.new.tags ≡ c.self.inside.tags = c.tell.ensures.tags ∙ c.room_for_span.ensures.tags in
    let free : c.tell.new.free.ranges ≡ a.free ++ h ∷ [] = ap (λ v. v.ranges) c.tell.ensures.free ∙ pushed _ _ _ _ _ c.insert-slot.ensures.ranges (ap (λ v. v.ranges) c.room_for_span.ensures.rest) refl in
    let clear = subst (λ (s : ArenaState). IsClear s c.args.range × OnQuantum s.quantum c.args.range) (sym c.self.view_is) (c.requires.admitted.clear, c.requires.admitted.aligned) in
    rw (owned, free, tags) (added_sound a c.self.invariant.0 h c.held_range_of.ensures.range (subst (λ (e : Extent). OnQuantum c.self.inside.quantum e) range clear.1) (subst (λ (e : Extent). IsClear a e) range clear.0))

pub put-requires-clause-absent : goal.put-requires-clause-absent
put-requires-clause-absent g c =
    let a = the_state c.self.invariant.0 in
    let h : Holding = c.new-stored.result in
    let range : c.args.range ≡ h.range = same_range _ h _ (sym c.in-Ok.ensures.range) c.new-stored.ensures in
    let clear = subst (λ (s : ArenaState). IsClear s c.args.range) (sym c.self.view_is) c.requires.admitted.clear in
    let alone = ends_alone a h c.self.inside.owned.items c.self.invariant.0.divided c.held_range_of.ensures.range (subst (λ (e : Extent). IsClear a e) range clear) (λ s in-s. Contains-append_left a.owned (holdings_of a.imported) s in-s) in
    let end = ap (λ (t : Tag). end_of t.holding.range) c.new.ensures ∙ ap (λ (x : Holding). end_of x.range) c.held_range_of.ensures.value in
    subst (λ (n : ℕ). All (λ t. end_of t.holding.range ≢ n) c.room_for_span.new.spans.items) (sym end) (subst (λ (ts : List Tag). All (λ t. end_of t.holding.range ≢ end_of h.range) ts) (sym c.room_for_span.ensures.spans) alone)
