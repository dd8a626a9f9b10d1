-- Looks, at most so many.
use Rattle.std.proofs.Common.{◌≡◌, ℕ, ◌+◌, ◌-◌, ◌<◌, zero, suc, List, Some, None, Ok, Err, subst, arith}
use Rattle.deed_core.specs.Tag.{Tag}
use Rattle.arena_tree.specs.Chains.{Node}
use Rattle.arena_tree.specs.Events.{Event, AnswerTo}
use Rattle.arena_tree.specs.Plans.{Plan, Done, Ran}
use Rattle.arena_tree.proofs.LawProofs.{ran_then, ran_done}
use Rattle.quantum_cache.specs.declared.emptying_faults.EmptyingFault.{EmptyingFault}
use Rattle.quantum_cache.specs.declared.reaps.Reaping.{Reaping}
use Rattle.quantum_cache.specs.Reaps.{LookEnd, ReapEnd, looks_in_turn, on_look}

-- what is left, and the units
abbrev reaped : ℕ → ℕ → Reaping
reaped left units = record { left = left; units = units }

module _ {S : Type 0} (step : S → (e : Event) → AnswerTo e → S → Type 0) (tree : S → List Node) (count : S → ℕ) (rounds : S → ℕ) (p : Plan LookEnd) where
  pub up_to_end : (left units : ℕ) (s : S) → left ≡ 0 → Ran step tree count rounds (looks_in_turn p left units) s s (Ok (record { left = left; units = units }))
  up_to_end zero units s none = ran_done step tree count rounds s (Ok (reaped 0 units))
  up_to_end (suc n) units s none = absurd (omega (arith, none))

  pub up_to_again : (left units more : ℕ) (s m t : S) (a : ReapEnd) → 0 < left → Ran step tree count rounds p s m (Ok (Some more)) → Ran step tree count rounds (looks_in_turn p (left - 1) (units + more)) m t a → Ran step tree count rounds (looks_in_turn p left units) s t a
  up_to_again zero units more s m t a some d q = absurd (omega (arith, some))
  up_to_again (suc n) units more s m t a some d q =
      let here : suc n - 1 ≡ n = omega arith in
      ran_then step tree count rounds p (on_look (looks_in_turn p n) n units) s m t (Ok (Some more)) a d (subst (λ (k : ℕ). Ran step tree count rounds (looks_in_turn p k (units + more)) m t a) here q)

  pub up_to_none : (left units : ℕ) (s m : S) → 0 < left → Ran step tree count rounds p s m (Ok None) → Ran step tree count rounds (looks_in_turn p left units) s m (Ok (record { left = left - 1; units = units }))
  up_to_none zero units s m some d = absurd (omega (arith, some))
  up_to_none (suc n) units s m some d =
      let here : suc n - 1 ≡ n = omega arith in
      let ended : ReapEnd = Ok (reaped (suc n - 1) units) in
      ran_then step tree count rounds p (on_look (looks_in_turn p n) n units) s m m (Ok None) ended d (subst (λ (k : ℕ). Ran step tree count rounds (Done (Ok (reaped k units))) m m ended) here (ran_done step tree count rounds m ended))

  pub up_to_fault : (left units : ℕ) (f : EmptyingFault Tag) (s m : S) → 0 < left → Ran step tree count rounds p s m (Err f) → Ran step tree count rounds (looks_in_turn p left units) s m (Err (record { reaping = record { left = left - 1; units = units }; cause = f }))
  up_to_fault zero units f s m some d = absurd (omega (arith, some))
  up_to_fault (suc n) units f s m some d =
      let here : suc n - 1 ≡ n = omega arith in
      let ended : ReapEnd = Err (record { reaping = reaped (suc n - 1) units; cause = f }) in
      ran_then step tree count rounds p (on_look (looks_in_turn p n) n units) s m m (Err f) ended d (subst (λ (k : ℕ). Ran step tree count rounds (Done (Err (record { reaping = reaped k units; cause = f }))) m m ended) here (ran_done step tree count rounds m ended))
