-- Lists of steps: what is asked next, by what was answered.
use Rattle.std.specs.Prelude.{◌≡◌, ℕ, ◌+◌, ◌≤◌, List, [], ◌∷◌, Option, Some, None, true}
use Rattle.deed_core.specs.Tag.{Tag}
use Rattle.arena_tree.specs.Chains.{Node}
use Rattle.arena_tree.specs.Events.{Event, AnswerTo, BeginsWith, hand_after, locks}
use Rattle.arena_tree.specs.Sound.{Sound, KeepsRounds}
use Rattle.arena_tree.specs.Stops.{is_stopped, Counts}

-- a list of steps that ends with an A
pub data Plan (A : Type 0) : Type 0 where
  Done : (answer : A) → Plan A
  Ask : (event : Event) (next : AnswerTo event → Plan A) → Plan A

-- one list of steps, and then the next, by what the first ended with
abbrev pub then : {A B : Type 0} → Plan A → (A → Plan B) → Plan B
then (Done a) next = next a
then (Ask e f) next = Ask e (λ a. then (f a) next)

-- ends with what a stage ended with, if that is something
abbrev pub or_else : {A : Type 0} → Plan A → Option A → Plan A
or_else last None = last
or_else last (Some a) = Done a

-- the stages one after another, up to the first that ends with something; then the last
abbrev pub first_that_gives : {A : Type 0} → List (Plan (Option A)) → Plan A → Plan A
first_that_gives [] last = last
first_that_gives (p ∷ ps) last = then p (or_else (first_that_gives ps last))

-- one event, its answer, and what is known of it; one that is stopped moves no round
pub record Step {S : Type 0} (step : S → (e : Event) → AnswerTo e → S → Type 0)
    (tree : S → List Node) (count rounds : S → ℕ)
    (old : S) (event : Event) (answer : AnswerTo event) (new : S) : Type 0 where
  pub does : step old event answer new
  pub sound : Sound (tree old) event answer
  pub same_tree : tree new ≡ tree old
  pub counted : Counts (is_stopped event answer) (locks event) (count old) (count new)
  pub moved : KeepsRounds event answer (rounds old) (rounds new)
  pub stayed : is_stopped event answer ≡ true → rounds new ≡ rounds old

-- the events of a list of steps lead from s to t, and it ends with a
abbrev pub Path : {S A : Type 0} → (S → (e : Event) → AnswerTo e → S → Type 0) → Plan A → S → S → A
    → Type 0
Path step (Done b) s t a = (s ≡ t) × (b ≡ a)
Path {S} step (Ask e f) s t a = (m : S) × (x : AnswerTo e) × step s e x m × Path step (f x) m t a

-- the list of steps was gone through, with what is known of each event, and ended with a
pub record Ran {S A : Type 0} (step : S → (e : Event) → AnswerTo e → S → Type 0)
    (tree : S → List Node) (count rounds : S → ℕ)
    (plan : Plan A) (s t : S) (a : A) : Type 0 where
  pub path : Path (Step step tree count rounds) plan s t a

-- after so many locks, there are at most so many in all, by what it ends with
abbrev pub Within : {A : Type 0} → (A → ℕ) → Plan A → ℕ → Type 0
Within most (Done a) n = n ≤ most a
Within most (Ask e f) n = (x : AnswerTo e) → Within most (f x) (n + locks e)

-- each event is asked with the hand that it needs, and at the end the hand is as said
abbrev pub Handles : {A : Type 0} → (A → Option Tag) → Plan A → Option Tag → Type 0
Handles left (Done a) hand = hand ≡ left a
Handles left (Ask e f) hand = BeginsWith e hand
    × ((x : AnswerTo e) → Handles left (f x) (hand_after e x hand))

-- a list of steps is repeated until it ends with something
pub data Loops {S A : Type 0} (path : S → S → Option A → Type 0) (t : S) (a : A) : S → Type 0 where
  ends : (s : S) → path s t (Some a) → Loops path t a s
  again : (s m : S) → path s m None → Loops path t a m → Loops path t a s

-- what it ends with is as said, where each answer is sound
abbrev pub Gives : {A : Type 0} → List Node → (A → Type 0) → Plan A → Type 0
Gives nodes post (Done a) = post a
Gives nodes post (Ask e f) = (x : AnswerTo e) → Sound nodes e x → Gives nodes post (f x)
