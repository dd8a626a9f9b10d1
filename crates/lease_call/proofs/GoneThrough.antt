-- What a list of steps over a book and parts leaves, and what its answers lead to.
use Rattle.std.proofs.Common.{List, ◌≡◌, refl, subst, Result, Ok, Err, Some, None}
use Rattle.deed_core.specs.Tag.{Tag}
use Rattle.arena_tree.specs.Events.{Event, AnswerTo}
use Rattle.arena_tree.specs.Plans as plans
use Rattle.arena_tree.specs.Chains.{Node}
use Rattle.arena_tree.specs.Plans.{Plan, Gives}
use Rattle.arena_tree.specs.Sound.{Sound}
use Rattle.lease_call.specs.Answered.{GoneThrough, EndsWell, AnsweredStep, EndsTold, answers_along}
use Rattle.lease_call.specs.Calls.{BookCall, AnswerOf}
use Rattle.lease_call.specs.CallPlans.{CallPlan, Done, Part, Call, over_parts, CallPath}
use Rattle.lease_call.specs.CallTags.{tag_end}
use Rattle.lease_call.specs.declared.call_faults.CallFault.{CallFault}
use Rattle.lease_call.specs.declared.call_faults.CallFault.TheVariants as calling

-- what each step keeps is so at the end, and each answer is such as the steps have it
pub gone_through : {B P D A : Type 0} (part : P → (e : Event) → AnswerTo e → P → Type 0) (book : B → P → (k : BookCall) → AnswerOf D k → B → P → Type 0) (sound : (e : Event) → AnswerTo e → Type 0) (known : (k : BookCall) → AnswerOf D k → Type 0) (keep : P → Type 0)
    → ((s t : P) (e : Event) (x : AnswerTo e) → keep s → part s e x t → sound e x × keep t) → ((b c : B) (s t : P) (k : BookCall) (x : AnswerOf D k) → keep s → book b s k x c t → known k x × keep t)
    → (p : CallPlan D A) (b : B) (s : P) (c : B) (t : P) (a : A) → keep s → CallPath part book p b s c t a → GoneThrough sound known p a × keep t
gone_through part book sound known keep parts books (Done y) b s c t a k d = (d.2, subst keep d.1 k)
gone_through part book sound known keep parts books (Part e f) b s c t a k d =
    let here = parts s d.0 e d.1 k d.2 in
    let rest = gone_through part book sound known keep parts books (f d.1) b d.0 c t a here.1 d.3 in
    ((d.1, here.0, rest.0), rest.1)
gone_through part book sound known keep parts books (Call q f) b s c t a k d =
    let here = books b d.0 s d.1 q d.2 k d.3 in
    let rest = gone_through part book sound known keep parts books (f d.2) d.0 d.1 c t a here.1 d.4 in
    ((d.2, here.0, rest.0), rest.1)

pub gone_ends : {D A : Type 0} (sound : (e : Event) → AnswerTo e → Type 0) (known : (k : BookCall) → AnswerOf D k → Type 0) (post : A → Type 0) (p : CallPlan D A) (a : A) → GoneThrough sound known p a → EndsWell sound known post p → post a
gone_ends sound known post (Done y) a d w = subst post d w
gone_ends sound known post (Part e f) a d w = gone_ends sound known post (f d.0) a d.2 (w d.0 d.1)
gone_ends sound known post (Call k f) a d w = gone_ends sound known post (f d.0) a d.2 (w d.0 d.1)

-- what is so whatever such answers come is so of those that came
pub ends_along : {D A : Type 0} (sound part : (e : Event) → AnswerTo e → Type 0) (known book : (k : BookCall) → AnswerOf D k → Type 0) → ((e : Event) (x : AnswerTo e) → part e x → sound e x) → ((k : BookCall) (x : AnswerOf D k) → book k x → known k x)
    → (post : List (AnsweredStep D) → A → Type 0) (p : CallPlan D A) (told : List (AnsweredStep D)) (a : A) (d : GoneThrough part book p a) → EndsTold sound known post p told → post (answers_along part book p a d told) a
ends_along sound part known book is of post (Done y) told a d w = subst (post told) d w
ends_along sound part known book is of post (Part e f) told a d w = ends_along sound part known book is of post (f d.0) _ a d.2 (w d.0 (is e d.0 d.1))
ends_along sound part known book is of post (Call k f) told a d w = ends_along sound part known book is of post (f d.0) _ a d.2 (w d.0 (of k d.0 d.1))

-- whatever the parts answer
pub ends_over : {D X A : Type 0} (sound : (e : Event) → AnswerTo e → Type 0) (known : (k : BookCall) → AnswerOf D k → Type 0) (post : A → Type 0) (p : Plan X) (next : X → CallPlan D A) → ((x : X) → EndsWell sound known post (next x)) → EndsWell sound known post (over_parts p next)
ends_over sound known post (plans.Done x) next w = w x
ends_over sound known post (plans.Ask e f) next w = λ x _. ends_over sound known post (f x) next w

-- where each answer of the parts is sound
pub ends_gives : {D X A : Type 0} (nodes : List Node) (sound : (e : Event) → AnswerTo e → Type 0) → ((e : Event) (x : AnswerTo e) → sound e x → Sound nodes e x) → (given : X → Type 0) (known : (k : BookCall) → AnswerOf D k → Type 0) (post : A → Type 0) (p : Plan X) (next : X → CallPlan D A)
    → Gives nodes given p → ((x : X) → given x → EndsWell sound known post (next x)) → EndsWell sound known post (over_parts p next)
ends_gives nodes sound is given known post (plans.Done x) next g w = w x g
ends_gives nodes sound is given known post (plans.Ask e f) next g w = λ x s. ends_gives nodes sound is given known post (f x) next (g x (is e x s)) w

-- a segment is known by itself
pub end_same : {A : Type 0} (r : Result A (CallFault Tag)) → tag_end (λ (t : Tag). t) r ≡ r
end_same (Ok o) = refl
end_same (Err (calling.Stuck t)) = refl
end_same (Err (calling.Stopped None)) = refl
end_same (Err (calling.Stopped (Some t))) = refl
