-- Sweeps, at most so many.
use Rattle.std.proofs.Common.{◌≡◌, ℕ, ◌-◌, ◌<◌, zero, suc, List, Option, Result, Ok, subst, arith}
use Rattle.deed_core.specs.Tag.{Tag}
use Rattle.lease_terms.specs.Requests.{RequestId}
use Rattle.lease_book.specs.Words.{Greeted}
use Rattle.arena_tree.specs.Chains.{Node}
use Rattle.arena_tree.specs.Events.{Event, AnswerTo}
use Rattle.arena_tree.specs.declared.part_faults.Stopped.{Stopped}
use Rattle.arena_tree.specs.declared.trees.TreeArena.{TreeArena}
use Rattle.lease_call.specs.Calls.{BookCall, AnswerOf, Sweep}
use Rattle.lease_call.specs.CallPlans.{BookStep, CallRan}
use Rattle.lease_call.specs.Greeting.{HelloEnd, on_sweep, sweep_plan}
use Rattle.lease_call.specs.declared.outcomes.Greeting.TheVariants.{Unswept}
use Rattle.lease_call.proofs.CallPaths.{call_done, call_book}

module _ {B P D : Type 0} (part : P → (e : Event) → AnswerTo e → P → Type 0) (tree : P → List Node) (count : P → ℕ) (rounds : P → ℕ) (book : B → P → (c : BookCall) → AnswerOf D c → B → P → Type 0) (arenas : List TreeArena) (taken : Greeted) where
  -- so many were made
  pub swept_up : (left : ℕ) (b : B) (p : P) → left ≡ 0 → CallRan part tree count rounds book (sweep_plan arenas taken left) b p b p (Ok Unswept)
  swept_up zero b p none = call_done part tree count rounds book b p (Ok Unswept)
  swept_up (suc k) b p none = absurd (omega (arith, none))

  -- one, and what comes after its answer
  pub swept_on : (left : ℕ) (b : B) (p : P) (x : Result (Option (RequestId × Tag)) Stopped) (n : B) (m : P) (c : B) (q : P) (a : HelloEnd D) → 0 < left → BookStep book tree count rounds b p (Sweep taken.client) x n m
      → CallRan part tree count rounds book (on_sweep arenas taken (sweep_plan arenas taken (left - 1)) x) n m c q a → CallRan part tree count rounds book (sweep_plan arenas taken left) b p c q a
  swept_on zero b p x n m c q a some d r = absurd (omega (arith, some))
  swept_on (suc k) b p x n m c q a some d r =
      let here : suc k - 1 ≡ k = omega arith in
      call_book part tree count rounds book (Sweep taken.client) (on_sweep arenas taken (sweep_plan arenas taken k)) b p n m c q x a d (subst (λ (z : ℕ). CallRan part tree count rounds book (on_sweep arenas taken (sweep_plan arenas taken z) x) n m c q a) here r)
