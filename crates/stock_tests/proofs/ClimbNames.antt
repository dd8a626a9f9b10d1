-- What no step of a list of steps changes stays the same.
use Rattle.std.proofs.Common.{◌≡◌, ℕ, ◌+◌, ◌<◌, sym, ap, ◌∙◌, List, arith}
use Rattle.arena_tree.specs.Chains.{Node}
use Rattle.arena_tree.specs.Events.{Event, AnswerTo}
use Rattle.arena_tree.specs.Plans.{Plan, Done, Ask, Path, Step, Ran}

path_leaves : {S A G : Type 0} (step : S → (e : Event) → AnswerTo e → S → Type 0) (see : S → G) → ((s : S) (e : Event) (x : AnswerTo e) (t : S) → step s e x t → see t ≡ see s) → (p : Plan A) (s t : S) (a : A) → Path step p s t a → see t ≡ see s
path_leaves step see keeps (Done b) s t a d = sym (ap see d.0)
path_leaves step see keeps (Ask e f) s t a d = path_leaves step see keeps (f d.1) d.0 t a d.3 ∙ keeps s e d.1 d.0 d.2

pub ran_leaves : {S A G : Type 0} (step : S → (e : Event) → AnswerTo e → S → Type 0) (tree : S → List Node) (count rounds : S → ℕ) (see : S → G) → ((s : S) (e : Event) (x : AnswerTo e) (t : S) → step s e x t → see t ≡ see s) → (p : Plan A) (s t : S) (a : A) → Ran step tree count rounds p s t a → see t ≡ see s
ran_leaves step tree count rounds see keeps p s t a ran = path_leaves (Step step tree count rounds) see (λ u e x v d. keeps u e x v d.does) p s t a ran.path

-- of a list of steps that is said for any number of turns above this one
pub turns_leave : {S A G : Type 0} (step : S → (e : Event) → AnswerTo e → S → Type 0) (tree : S → List Node) (count rounds : S → ℕ) (see : S → G) → ((s : S) (e : Event) (x : AnswerTo e) (t : S) → step s e x t → see t ≡ see s) → (n : ℕ) (p : ℕ → Plan A) (s t : S) (a : A) → ((turns : ℕ) → n < turns → Ran step tree count rounds (p turns) s t a) → see t ≡ see s
turns_leave step tree count rounds see keeps n p s t a ran = ran_leaves step tree count rounds see keeps (p (n + 1)) s t a (ran (n + 1) (omega arith))
