use Rattle.std.proofs.Common.{◌≡◌, List, Some, Contains, All, AllPairs, HoldsAt, refl, sym, subst, ap, ◌∙◌}
use Rattle.std.specs.FinMap as finmap
use Rattle.deed_core.specs.Holding.{Holding, Apart}
use Rattle.deed_core.specs.Tag.{Tag}
use Rattle.deed_core.specs.Weights.{Loses}
use Rattle.tag_arena.specs.ArenaState.{ArenaState, IsDivided, IsSoundArena}
use Rattle.tag_arena.specs.Calls.{IsLowestWhole, after_remove}
use Rattle.tag_arena.specs.FreeRanges.{IsBacked}
use Rattle.tag_arena.specs.Neighbors.{Without}
use Rattle.tag_arena.proofs.Taking.{WholeAt, lowest, removed_is, removed_is_sound, owned_loses, free_loses}
use Rattle.tag_arena.proofs.Sounding.{the_state}
use Rattle.tag_arena.specs.Spanned.{holdings_of, IsLowestFree}
use Rattle.tag_arena.proofs.Certifying.{backed_told}
use Rattle.tag_arena.proofs.Backing.{backed_take}
use Rattle.tag_arena.proofs.Coming.{without_map}
use Rattle.tag_arena.proofs.Granted.{disjoint_owned, lowest_at}
use Rattle.tag_arena.proofs.Rejoining.{fewer_without}
use Rattle.tag_arena.proofs.arenas.Arena.remove_owned.Goals as goal

pub keep_sizes-requires : goal.keep_sizes-requires
keep_sizes-requires g c = record { apart = c.self.invariant.0.divided.whole.free_apart }

pub lowest_whole-requires-clause-apart : goal.lowest_whole-requires-clause-apart
lowest_whole-requires-clause-apart g c = subst (λ v. AllPairs Apart v.ranges) (sym c.keep_sizes.ensures.unchanged) c.self.invariant.0.divided.whole.free_apart

pub lowest_whole-requires-clause-disjoint : goal.lowest_whole-requires-clause-disjoint
lowest_whole-requires-clause-disjoint g c = disjoint_owned (the_state c.self.invariant.0) c.self.invariant.0.divided

pub invariant_of-self : goal.invariant_of-self
invariant_of-self g c =
    let a = the_state c.self.invariant.0 in
    subst (λ v. IsSoundArena (record a { free = v.ranges }) × IsBacked c.self.inside.policy v (finmap.len c.self.inside.tags)) (sym c.keep_sizes.ensures.unchanged) c.self.invariant

pub returns-in_default-clause-removed : goal.returns-in_default-clause-removed
returns-in_default-clause-removed g c =
    let a = the_state c.self.invariant.0 in
    let kept = c.keep_sizes.ensures.unchanged in
    let none : All (λ s. ¬ Contains a.free s) a.owned = subst (λ v. All (λ s. ¬ Contains v.ranges s) a.owned) kept c.in_default.ensures in
    (subst (λ (s : ArenaState). All (λ x. ¬ Contains s.free x) s.owned) c.self.view_is none, ap (λ v. record a { free = v.ranges }) kept ∙ c.self.view_is)

pub take-requires-clause-disjoint : goal.take-requires-clause-disjoint
take-requires-clause-disjoint g c = disjoint_owned (the_state c.self.invariant.0) c.self.invariant.0.divided

pub take-deed-requires : goal.take-deed-requires
take-deed-requires g c =
    let a = the_state c.self.invariant.0 in
    let sound : IsDivided a = c.self.invariant.0.divided in
    let w : Holding = c.in-Some.whole.range in
    let kept = c.keep_sizes.ensures.unchanged in
    let so : IsLowestFree a.owned a.free (Some w) = subst (λ v. IsLowestFree a.owned v.ranges (Some w)) kept c.in-Some.ensures in
    record { present = subst (λ v. Contains v.ranges w) (sym kept) so.1 }

pub invariant_of-self-2 : goal.invariant_of-self-2
invariant_of-self-2 g c =
    let a = the_state c.self.invariant.0 in
    let sound : IsDivided a = c.self.invariant.0.divided in
    let w : Holding = c.in-Some.whole.range in
    let kept = c.keep_sizes.ensures.unchanged in
    let so : IsLowestFree a.owned a.free (Some w) = subst (λ v. IsLowestFree a.owned v.ranges (Some w)) kept c.in-Some.ensures in
    let o = c.take.ensures.items in
    let own = without_map (λ (t : Tag). t.holding) c.self.inside.owned.items c.take.new.self.items c.take.result o.0 o.1 o.2 o.3 in
    let here : HoldsAt (λ s. s ≡ w) a.owned o.0 = subst (λ (h : Holding). HoldsAt (λ s. s ≡ h) a.owned o.0) c.take.ensures.span own.1 in
    let deed_is : c.take-deed.result ≡ w = c.take-deed.ensures.value in
    let out : Without a.free w c.take-deed.new.self.ranges = subst (λ v. Without v.ranges w c.take-deed.new.self.ranges) kept c.take-deed.ensures.ranges in
    let p : WholeAt = record { at = o.0; free_at = out.0; span = w } in
    let low = lowest_at a.owned a.free c.take-deed.new.self.ranges w o.0 own.0 here so out in
    let after = removed_is a sound p low _ _ own.2 out.3 in (
      rw c.vacate.ensures.unchanged (removed_is_sound a sound p low c.self.invariant.0 _ after),
      backed_told c.self.inside.policy _ _ _ _ refl c.vacate.ensures.unchanged (backed_take c.self.inside.policy c.self.inside.free c.take-deed.new.self _ (fewer_without a.free c.take-deed.new.self.ranges w out) (ap (λ v. v.policy) c.take-deed.ensures.rest ∙ ap (λ v. v.policy) kept) (ap (λ v. v.room) c.take-deed.ensures.rest ∙ ap (λ v. v.room) kept) (ap (λ v. v.ticks) c.take-deed.ensures.rest ∙ ap (λ v. v.ticks) kept) c.self.invariant.1),
    )

pub returns-clause-sound : goal.returns-clause-sound
returns-clause-sound g c =
    let a = the_state c.self.invariant.0 in
    let sound : IsDivided a = c.self.invariant.0.divided in
    let w : Holding = c.in-Some.whole.range in
    let kept = c.keep_sizes.ensures.unchanged in
    let so : IsLowestFree a.owned a.free (Some w) = subst (λ v. IsLowestFree a.owned v.ranges (Some w)) kept c.in-Some.ensures in
    let o = c.take.ensures.items in
    let own = without_map (λ (t : Tag). t.holding) c.self.inside.owned.items c.take.new.self.items c.take.result o.0 o.1 o.2 o.3 in
    let here : HoldsAt (λ s. s ≡ w) a.owned o.0 = subst (λ (h : Holding). HoldsAt (λ s. s ≡ h) a.owned o.0) c.take.ensures.span own.1 in
    let deed_is : c.take-deed.result ≡ w = c.take-deed.ensures.value in
    let out : Without a.free w c.take-deed.new.self.ranges = subst (λ v. Without v.ranges w c.take-deed.new.self.ranges) kept c.take-deed.ensures.ranges in
    let p : WholeAt = record { at = o.0; free_at = out.0; span = w } in
    let low = lowest_at a.owned a.free c.take-deed.new.self.ranges w o.0 own.0 here so out in
    let after = removed_is a sound p low _ _ own.2 out.3 in
    rw c.vacate.ensures.unchanged (removed_is_sound a sound p low c.self.invariant.0 _ after)

pub returns-clause-removed : goal.returns-clause-removed
returns-clause-removed g c =
    let a = the_state c.self.invariant.0 in
    let sound : IsDivided a = c.self.invariant.0.divided in
    let w : Holding = c.in-Some.whole.range in
    let kept = c.keep_sizes.ensures.unchanged in
    let so : IsLowestFree a.owned a.free (Some w) = subst (λ v. IsLowestFree a.owned v.ranges (Some w)) kept c.in-Some.ensures in
    let o = c.take.ensures.items in
    let own = without_map (λ (t : Tag). t.holding) c.self.inside.owned.items c.take.new.self.items c.take.result o.0 o.1 o.2 o.3 in
    let here : HoldsAt (λ s. s ≡ w) a.owned o.0 = subst (λ (h : Holding). HoldsAt (λ s. s ≡ h) a.owned o.0) c.take.ensures.span own.1 in
    let deed_is : c.take-deed.result ≡ w = c.take-deed.ensures.value in
    let out : Without a.free w c.take-deed.new.self.ranges = subst (λ v. Without v.ranges w c.take-deed.new.self.ranges) kept c.take-deed.ensures.ranges in
    let p : WholeAt = record { at = o.0; free_at = out.0; span = w } in
    let low = lowest_at a.owned a.free c.take-deed.new.self.ranges w o.0 own.0 here so out in
    let out_is = c.into_deed.ensures ∙ deed_is in
    let after = removed_is a sound p low _ _ own.2 out.3 in
    rw (c.vacate.ensures.unchanged, out_is) (subst (λ (s : ArenaState). IsLowestWhole s w) c.self.view_is (lowest a sound p low), after ∙ ap (λ (s : ArenaState). after_remove s w) c.self.view_is)

pub returns-clause-loses : goal.returns-clause-loses
returns-clause-loses g c =
    let a = the_state c.self.invariant.0 in
    let sound : IsDivided a = c.self.invariant.0.divided in
    let w : Holding = c.in-Some.whole.range in
    let kept = c.keep_sizes.ensures.unchanged in
    let so : IsLowestFree a.owned a.free (Some w) = subst (λ v. IsLowestFree a.owned v.ranges (Some w)) kept c.in-Some.ensures in
    let o = c.take.ensures.items in
    let own = without_map (λ (t : Tag). t.holding) c.self.inside.owned.items c.take.new.self.items c.take.result o.0 o.1 o.2 o.3 in
    let here : HoldsAt (λ s. s ≡ w) a.owned o.0 = subst (λ (h : Holding). HoldsAt (λ s. s ≡ h) a.owned o.0) c.take.ensures.span own.1 in
    let deed_is : c.take-deed.result ≡ w = c.take-deed.ensures.value in
    let out : Without a.free w c.take-deed.new.self.ranges = subst (λ v. Without v.ranges w c.take-deed.new.self.ranges) kept c.take-deed.ensures.ranges in
    let p : WholeAt = record { at = o.0; free_at = out.0; span = w } in
    let low = lowest_at a.owned a.free c.take-deed.new.self.ranges w o.0 own.0 here so out in
    let out_is = c.into_deed.ensures ∙ deed_is in
    let left = holdings_of c.take.new.self.items in
    let loses : Loses a.owned left w = subst (λ (xs : List Holding). Loses a.owned xs w) (sym own.2) (owned_loses a sound p low) in
    rw out_is (subst (λ (s : ArenaState). Loses s.owned left w) c.self.view_is loses)

pub returns-clause-covering : goal.returns-clause-covering
returns-clause-covering g c =
    let a = the_state c.self.invariant.0 in
    let sound : IsDivided a = c.self.invariant.0.divided in
    let w : Holding = c.in-Some.whole.range in
    let kept = c.keep_sizes.ensures.unchanged in
    let so : IsLowestFree a.owned a.free (Some w) = subst (λ v. IsLowestFree a.owned v.ranges (Some w)) kept c.in-Some.ensures in
    let o = c.take.ensures.items in
    let own = without_map (λ (t : Tag). t.holding) c.self.inside.owned.items c.take.new.self.items c.take.result o.0 o.1 o.2 o.3 in
    let here : HoldsAt (λ s. s ≡ w) a.owned o.0 = subst (λ (h : Holding). HoldsAt (λ s. s ≡ h) a.owned o.0) c.take.ensures.span own.1 in
    let deed_is : c.take-deed.result ≡ w = c.take-deed.ensures.value in
    let out : Without a.free w c.take-deed.new.self.ranges = subst (λ v. Without v.ranges w c.take-deed.new.self.ranges) kept c.take-deed.ensures.ranges in
    let p : WholeAt = record { at = o.0; free_at = out.0; span = w } in
    let low = lowest_at a.owned a.free c.take-deed.new.self.ranges w o.0 own.0 here so out in
    let out_is = c.into_deed.ensures ∙ deed_is in
    let loses : Loses a.free c.take-deed.new.self.ranges w = subst (λ (xs : List Holding). Loses a.free xs w) (sym out.3) (free_loses a sound p low) in
    rw out_is (subst (λ (s : ArenaState). Loses s.free c.take-deed.new.self.ranges w) c.self.view_is loses)
