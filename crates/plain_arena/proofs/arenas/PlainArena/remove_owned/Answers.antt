use Rattle.std.proofs.Common.{◌≡◌, List, length, Some, Contains, All, refl, sym, subst, ap, ◌∙◌, arith}
use Rattle.deed_core.specs.Holding.{Holding}
use Rattle.deed_core.specs.Weights.{Loses}
use Rattle.plain_arena.specs.declared.whole_spans.Whole.{Whole}
use Rattle.plain_arena.specs.Found.{LowestSoFar}
use Rattle.tag_arena.specs.ArenaState.{ArenaState, IsDivided}
use Rattle.tag_arena.specs.Calls.{IsLowestWhole, after_remove}
use Rattle.tag_arena.proofs.Taking.{lowest, removed_is, removed_is_sound, owned_loses, free_loses}
use Rattle.tag_arena.proofs.Sounding.{the_state}
use Rattle.plain_arena.proofs.Scanned.{whole_at}
use Rattle.plain_arena.proofs.arenas.PlainArena.remove_owned.Goals as goal

pub returns-in_default-clause-removed : goal.returns-in_default-clause-removed
returns-in_default-clause-removed g c =
    let a = the_state c.self.invariant.0 in
    let none : All (λ s. ¬ Contains a.free s) a.owned = λ k d below. (rw (c.deref.ensures.value, c.deref-2.ensures.value) at c.in_default.ensures) k d (omega arith) below in
    (subst (λ (s : ArenaState). All (λ x. ¬ Contains s.free x) s.owned) c.self.view_is none, refl)

pub invariant_of-self : goal.invariant_of-self
invariant_of-self g c =
    let a = the_state c.self.invariant.0 in
    let sound : IsDivided a = c.self.invariant.0.divided in
    let w : Whole = c.in-Some.whole in
    let so : LowestSoFar a.owned a.free (length a.owned) (Some w) = rw (c.deref.ensures.value, c.deref-2.ensures.value) at c.in-Some.ensures in
    let after = removed_is a sound (whole_at w) so _ _ c.remove.ensures.items c.remove-2.ensures.items in
    let room = c.self.invariant.1 in
    (removed_is_sound a sound (whole_at w) so c.self.invariant.0 _ after, omega (arith, room, c.remove-2.ensures.len, c.remove-2.ensures.capacity))

pub returns-clause-sound : goal.returns-clause-sound
returns-clause-sound g c =
    let a = the_state c.self.invariant.0 in
    let sound : IsDivided a = c.self.invariant.0.divided in
    let w : Whole = c.in-Some.whole in
    let so : LowestSoFar a.owned a.free (length a.owned) (Some w) = rw (c.deref.ensures.value, c.deref-2.ensures.value) at c.in-Some.ensures in
    let after = removed_is a sound (whole_at w) so _ _ c.remove.ensures.items c.remove-2.ensures.items in
    removed_is_sound a sound (whole_at w) so c.self.invariant.0 _ after

pub returns-clause-removed : goal.returns-clause-removed
returns-clause-removed g c =
    let a = the_state c.self.invariant.0 in
    let sound : IsDivided a = c.self.invariant.0.divided in
    let w : Whole = c.in-Some.whole in
    let so : LowestSoFar a.owned a.free (length a.owned) (Some w) = rw (c.deref.ensures.value, c.deref-2.ensures.value) at c.in-Some.ensures in
    let deed_is : c.remove-2.result ≡ w.span = c.remove-2.ensures.value ∙ so.3 c.remove-2.result in
    let out_is = c.into_deed.ensures ∙ deed_is in
    let after = removed_is a sound (whole_at w) so _ _ c.remove.ensures.items c.remove-2.ensures.items in
    rw out_is (subst (λ (s : ArenaState). IsLowestWhole s w.span) c.self.view_is (lowest a sound (whole_at w) so), after ∙ ap (λ (s : ArenaState). after_remove s w.span) c.self.view_is)

pub returns-clause-loses : goal.returns-clause-loses
returns-clause-loses g c =
    let a = the_state c.self.invariant.0 in
    let sound : IsDivided a = c.self.invariant.0.divided in
    let w : Whole = c.in-Some.whole in
    let so : LowestSoFar a.owned a.free (length a.owned) (Some w) = rw (c.deref.ensures.value, c.deref-2.ensures.value) at c.in-Some.ensures in
    let deed_is : c.remove-2.result ≡ w.span = c.remove-2.ensures.value ∙ so.3 c.remove-2.result in
    let out_is = c.into_deed.ensures ∙ deed_is in
    let loses : Loses a.owned c.remove.new.self.items w.span = subst (λ (xs : List Holding). Loses a.owned xs w.span) (sym c.remove.ensures.items) (owned_loses a sound (whole_at w) so) in
    rw out_is (subst (λ (s : ArenaState). Loses s.owned c.remove.new.self.items w.span) c.self.view_is loses)

pub returns-clause-covering : goal.returns-clause-covering
returns-clause-covering g c =
    let a = the_state c.self.invariant.0 in
    let sound : IsDivided a = c.self.invariant.0.divided in
    let w : Whole = c.in-Some.whole in
    let so : LowestSoFar a.owned a.free (length a.owned) (Some w) = rw (c.deref.ensures.value, c.deref-2.ensures.value) at c.in-Some.ensures in
    let deed_is : c.remove-2.result ≡ w.span = c.remove-2.ensures.value ∙ so.3 c.remove-2.result in
    let out_is = c.into_deed.ensures ∙ deed_is in
    let loses : Loses a.free c.remove-2.new.self.items w.span = subst (λ (xs : List Holding). Loses a.free xs w.span) (sym c.remove-2.ensures.items) (free_loses a sound (whole_at w) so) in
    rw out_is (subst (λ (s : ArenaState). Loses s.free c.remove-2.new.self.items w.span) c.self.view_is loses)
