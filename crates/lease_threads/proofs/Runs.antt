-- What a list of steps of a running system leaves.
use Rattle.std.proofs.Common.{◌≡◌, ◌∙◌, ℕ, List, Bool, true, false, refl, sym, ap}
use Rattle.arena_tree.specs.Chains.{Node}
use Rattle.arena_tree.specs.Events.{Event, AnswerTo}
use Rattle.arena_tree.specs.Plans.{Plan, Done, Ask, Step, Path, Ran}

pub not_true : (b : Bool) → (b ≡ true → ⊥) → b ≡ false
not_true true never = absurd (never refl)
not_true false never = refl

pub not_both : (b : Bool) → b ≡ true → b ≡ false → ⊥
not_both b is none = (let x : true ≡ false = sym is ∙ none in cc)

path_leaves : {S A G : Type 0} (step : S → (e : Event) → AnswerTo e → S → Type 0) (see : S → G) → ((s t : S) (e : Event) (x : AnswerTo e) → step s e x t → see t ≡ see s) → (p : Plan A) (s t : S) (a : A) → Path step p s t a → see t ≡ see s
path_leaves step see keeps (Done b) s t a d = sym (ap see d.0)
path_leaves step see keeps (Ask e f) s t a d = path_leaves step see keeps (f d.1) d.0 t a d.3 ∙ keeps s d.0 e d.1 d.2

-- what no step changes is as it was
pub ran_leaves : {S A G : Type 0} (step : S → (e : Event) → AnswerTo e → S → Type 0) (tree : S → List Node) (count rounds : S → ℕ) (see : S → G) → ((s t : S) (e : Event) (x : AnswerTo e) → step s e x t → see t ≡ see s) → (p : Plan A) (s t : S) (a : A) → Ran step tree count rounds p s t a → see t ≡ see s
ran_leaves step tree count rounds see keeps p s t a ran = path_leaves (Step step tree count rounds) see (λ u v e x d. keeps u v e x d.does) p s t a ran.path
