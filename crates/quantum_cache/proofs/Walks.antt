-- Caches and arenas one after another.
use Rattle.std.proofs.Common.{◌≡◌, ℕ, ◌+◌, ◌-◌, ◌<◌, ◌≤◌, zero, suc, List, Result, Ok, Err, subst, arith}
use Rattle.arena_tree.specs.Chains.{Node}
use Rattle.arena_tree.specs.Events.{Event, AnswerTo}
use Rattle.arena_tree.specs.Plans.{Plan, Ran}
use Rattle.arena_tree.proofs.LawProofs.{ran_then, ran_done}
use Rattle.quantum_cache.specs.Caches.{if_ok, over_caches, over_arenas}

module _ {S : Type 0} (step : S → (e : Event) → AnswerTo e → S → Type 0) (tree : S → List Node) (count : S → ℕ) (rounds : S → ℕ) {X F : Type 0} (each : ℕ → X → Plan (Result X F)) where
  -- the first of the caches that are left, and the others
  pub caches_go : (all left : ℕ) (x y : X) (s m t : S) (r : Result X F) → 0 < left → left ≤ all → Ran step tree count rounds (each (all - left + 1) x) s m (Ok y) → Ran step tree count rounds (over_caches each all (left - 1) y) m t r → Ran step tree count rounds (over_caches each all left x) s t r
  caches_go all zero x y s m t r some le d q = absurd (omega (arith, some))
  caches_go all (suc n) x y s m t r some le d q =
      let here : all - suc n + 1 ≡ all - n = omega (arith, le) in
      let next : suc n - 1 ≡ n = omega arith in
      ran_then step tree count rounds (each (all - n) x) (if_ok (over_caches each all n)) s m t (Ok y) r (subst (λ (k : ℕ). Ran step tree count rounds (each k x) s m (Ok y)) here d) (subst (λ (k : ℕ). Ran step tree count rounds (over_caches each all k y) m t r) next q)

  pub caches_end : (all left : ℕ) (x : X) (s m : S) (f : F) → 0 < left → left ≤ all → Ran step tree count rounds (each (all - left + 1) x) s m (Err f) → Ran step tree count rounds (over_caches each all left x) s m (Err f)
  caches_end all zero x s m f some le d = absurd (omega (arith, some))
  caches_end all (suc n) x s m f some le d =
      let here : all - suc n + 1 ≡ all - n = omega (arith, le) in
      ran_then step tree count rounds (each (all - n) x) (if_ok (over_caches each all n)) s m m (Err f) (Err f) (subst (λ (k : ℕ). Ran step tree count rounds (each k x) s m (Err f)) here d) (ran_done step tree count rounds m (Err f))

  -- the last arena below this number, and the others
  pub arenas_go : (end : ℕ) (x y : X) (s m t : S) (r : Result X F) → 0 < end → Ran step tree count rounds (each (end - 1) x) s m (Ok y) → Ran step tree count rounds (over_arenas each (end - 1) y) m t r → Ran step tree count rounds (over_arenas each end x) s t r
  arenas_go zero x y s m t r some d q = absurd (omega (arith, some))
  arenas_go (suc n) x y s m t r some d q =
      let here : suc n - 1 ≡ n = omega arith in
      ran_then step tree count rounds (each n x) (if_ok (over_arenas each n)) s m t (Ok y) r (subst (λ (k : ℕ). Ran step tree count rounds (each k x) s m (Ok y)) here d) (subst (λ (k : ℕ). Ran step tree count rounds (over_arenas each k y) m t r) here q)

  pub arenas_end : (end : ℕ) (x : X) (s m : S) (f : F) → 0 < end → Ran step tree count rounds (each (end - 1) x) s m (Err f) → Ran step tree count rounds (over_arenas each end x) s m (Err f)
  arenas_end zero x s m f some d = absurd (omega (arith, some))
  arenas_end (suc n) x s m f some d =
      let here : suc n - 1 ≡ n = omega arith in
      ran_then step tree count rounds (each n x) (if_ok (over_arenas each n)) s m m (Err f) (Err f) (subst (λ (k : ℕ). Ran step tree count rounds (each k x) s m (Err f)) here d) (ran_done step tree count rounds m (Err f))
