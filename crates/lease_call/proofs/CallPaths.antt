-- Paths of events and of calls of the book, put together.
use Rattle.std.proofs.Common.{ℕ, List, refl, sym, subst}
use Rattle.arena_tree.specs.Chains.{Node}
use Rattle.arena_tree.specs.Events.{Event, AnswerTo}
use Rattle.arena_tree.specs.Plans as plans
use Rattle.arena_tree.specs.Plans.{Plan, Path, Step, Ran}
use Rattle.arena_tree.proofs.LawProofs.{ran_then, ran_ask, ran_done}
use Rattle.lease_call.specs.Calls.{BookCall, AnswerOf}
use Rattle.lease_call.specs.CallPlans.{CallPlan, Done, Call, over_parts, BookStep, CallPath, CallRan}

module _ {B P D : Type 0} (part : P → (e : Event) → AnswerTo e → P → Type 0) (book : B → P → (c : BookCall) → AnswerOf D c → B → P → Type 0) where
  pub path_over : {X A : Type 0} (p : Plan X) (next : X → CallPlan D A) (b : B) (s m : P) (c : B) (t : P) (x : X) (a : A) → Path part p s m x → CallPath part book (next x) b m c t a → CallPath part book (over_parts p next) b s c t a
  path_over (plans.Done y) next b s m c t x a d q = subst (λ z. CallPath part book (next z) b s c t a) (sym d.1) (subst (λ z. CallPath part book (next x) b z c t a) (sym d.0) q)
  path_over (plans.Ask e f) next b s m c t x a d q = (d.0, d.1, d.2, path_over (f d.1) next b d.0 m c t x a d.3 q)

  -- the converse: where the list of steps over the parts ended
  pub path_under : {X A : Type 0} (p : Plan X) (next : X → CallPlan D A) (b : B) (s : P) (c : B) (t : P) (a : A) → CallPath part book (over_parts p next) b s c t a → (m : P) × (x : X) × Path part p s m x × CallPath part book (next x) b m c t a
  path_under (plans.Done y) next b s c t a d = (s, y, (refl, refl), d)
  path_under (plans.Ask e f) next b s c t a d = let r = path_under (f d.1) next b d.0 c t a d.3 in (r.0, r.1, (d.0, d.1, d.2, r.2), r.3)

module _ {B P D : Type 0} (part : P → (e : Event) → AnswerTo e → P → Type 0) (tree : P → List Node) (count : P → ℕ) (rounds : P → ℕ) (book : B → P → (c : BookCall) → AnswerOf D c → B → P → Type 0) where
  pub call_done : {A : Type 0} (b : B) (p : P) (a : A) → CallRan part tree count rounds book (Done a) b p b p a
  call_done b p a = record { path = (refl, refl, refl) }

  pub call_book : {A : Type 0} (k : BookCall) (f : AnswerOf D k → CallPlan D A) (b : B) (p : P) (n : B) (m : P) (c : B) (q : P) (x : AnswerOf D k) (a : A) → BookStep book tree count rounds b p k x n m → CallRan part tree count rounds book (f x) n m c q a → CallRan part tree count rounds book (Call k f) b p c q a
  call_book k f b p n m c q x a d r = record { path = (n, m, x, d, r.path) }

  pub call_over : {X A : Type 0} (p : Plan X) (next : X → CallPlan D A) (b : B) (s m : P) (c : B) (t : P) (x : X) (a : A) → Ran part tree count rounds p s m x → CallRan part tree count rounds book (next x) b m c t a → CallRan part tree count rounds book (over_parts p next) b s c t a
  call_over p next b s m c t x a r q = record { path = path_over (Step part tree count rounds) (BookStep book tree count rounds) p next b s m c t x a r.path q.path }

-- a list of steps goes on as the code does
pub ruleset goes_on = (call_over, call_book, call_done)

-- a list of steps over the parts alone
pub ruleset parts_go_on = (ran_then, ran_ask, ran_done)
