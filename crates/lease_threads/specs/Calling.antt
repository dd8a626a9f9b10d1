-- What a line's list of steps comes to in a running system.
use Rattle.std.specs.Prelude.{◌≡◌, ◌⊎◌, ◌+◌, ◌-◌, ◌^◌, ℕ, Bool, true, false, List, [], ◌∷◌, Option}
use Rattle.std.specs.Prelude.{None, Result, length, min}
use Rattle.std.specs.Prelude.{Ok, Err, IsTrue, ◌↔◌}
use Rattle.deed_core.specs.Tag.{Tag}
use Rattle.lease_terms.specs.Requests.{RequestId}
use Rattle.arena_tree.specs.Sound.{Sound}
use Rattle.arena_tree.specs.Stops.{is_stopped}
use Rattle.arena_tree.specs.Trees.{nodes_of}
use Rattle.arena_tree.specs.declared.trees.TreeArena.{TreeArena}
use Rattle.lease_book.specs.Receipts.{ReceiptState}
use Rattle.lease_book.specs.declared.books.TheConstants.{MOST_LEASES}
use Rattle.lease_proto.specs.declared.lines.HelloLine.{HelloLine}
use Rattle.lease_proto.specs.declared.lines.Line.{Line}
use Rattle.lease_proto.specs.declared.lines.Line.TheVariants as lines
use Rattle.lease_proto.specs.declared.replies.Reply.{Reply}
use Rattle.lease_call.specs.Answered.{AnsweredStep, GoneThrough, OfBook, OfPart, answers_along}
use Rattle.lease_call.specs.CallPlans.{CallPlan}
use Rattle.lease_call.specs.Calls.{BookCall, AnswerOf, Look, Settle, Refuse, Release, Hello, Sweep}
use Rattle.lease_call.specs.Greeting.{HelloEnd, hello_plan}
use Rattle.lease_call.specs.Kept.{call_left}
use Rattle.lease_call.specs.Releasing.{CallEnd}
use Rattle.lease_call.specs.Requesting.{request_plan}
use Rattle.lease_call.specs.Stopping.{StoppedCall, call_stopped, is_stopped_call}
use Rattle.lease_call.specs.declared.call_faults.CallFault.{CallFault}
use Rattle.lease_call.specs.declared.call_faults.CallFault.TheVariants as calling
use Rattle.locked_parts.specs.Answers.{AnswersSoundly}
use Rattle.locked_parts.specs.Gates.{CountsStep, step_after, step_named}
use Rattle.locked_parts.specs.declared.gates.EventName.{EventName}
use Rattle.locked_parts.specs.declared.gates.EventName.TheVariants as step
use Rattle.locked_parts.specs.declared.gates.NextStep.{NextStep}
use Rattle.locked_parts.specs.declared.gates.RequestStopped.{RequestStopped}
use Rattle.locked_parts.specs.declared.gates.StepCount.{StepCount}
use Rattle.shared_book.specs.Calls.{IsLockedCall}
use Rattle.shared_book.specs.Outcomes.{TellsEnd, end_receipt, greeting_end}
use Rattle.shared_book.specs.Settling.{TellsNew}

-- the call was an event of some book that entries give, or nothing was done
abbrev pub IsCallOrStop : (D : Type 0) → (k : BookCall) → AnswerOf D k → Type 0
IsCallOrStop D k a = StoppedCall D k a ⊎ IsLockedCall D k a

-- that a Stop was said is noted, and nothing else is
abbrev pub IsLockedAnswer : (D : Type 0) → (k : BookCall) → AnswerOf D k → (noted now : Bool)
    → Type 0
IsLockedAnswer D k a noted now =
    (StoppedCall D k a × (now ≡ true)) ⊎ (IsLockedCall D k a × (now ≡ noted))

-- the name that a call has as a step: a hello is told to the book by one that looks
abbrev pub step_called : BookCall → EventName
step_called (Look id) = step.Look
step_called (Settle id given terms) = step.Settle
step_called (Refuse id why) = step.Settle
step_called (Release id arena base) = step.Release
step_called (Hello client incarnation protocol) = step.Look
step_called (Sweep client) = step.Sweep

-- the gate was asked about that step before, and said Stop to what was stopped, and to nothing else
abbrev pub IsAskedCall : {X : Type 0} → (D : Type 0) → (may passed : X → NextStep → Type 0) → X
    → (k : BookCall) → AnswerOf D k → (old new : StepCount) → Type 0
IsAskedCall D may passed gate k a old new = CountsStep old new
    × ((StoppedCall D k a × may gate (step_after old (step_called k)))
    ⊎ (IsLockedCall D k a × passed gate (step_after old (step_called k))))

-- the name of a step that was answered
abbrev pub step_of : {D : Type 0} → AnsweredStep D → EventName
step_of (OfPart answered) = step_named answered.event
step_of (OfBook call answer) = step_called call

-- the turn of the next step, after so many; it stays at the greatest number
abbrev pub turn_after : ℕ → ℕ
turn_after count = min count (2 ^ 64 - 1)

-- of each of these steps, the last first, this is so, at its turn as one of this CPU's
abbrev pub AreAsked : {D : Type 0} → (asked : AnsweredStep D → NextStep → Type 0) → (cpu : ℕ)
    → List (AnsweredStep D) → Type 0
AreAsked asked cpu [] = Unit {0}
AreAsked asked cpu (s ∷ before) =
    asked s (record { cpu = cpu; turn = turn_after (length before); event = step_of s })
    × AreAsked asked cpu before

-- what is known of a gate that was asked about a step: it may say Stop to it, or let it come
abbrev pub Says : (may passed : NextStep → Type 0) → (stopped : Bool) → NextStep → Type 0
Says may passed true next = may next
Says may passed false next = passed next

-- the same by the step's answer
abbrev pub SaysSo : {D : Type 0} → (may passed : NextStep → Type 0) → AnsweredStep D → NextStep
    → Type 0
SaysSo may passed (OfPart x) next = Says may passed (is_stopped x.event x.answer) next
SaysSo {D = D} may passed (OfBook call answer) next =
    Says may passed (is_stopped_call D call answer) next

-- the gate let each of them come
abbrev pub AreLetCome : {D : Type 0} → (passed : NextStep → Type 0) → (cpu : ℕ)
    → List (AnsweredStep D) → Type 0
AreLetCome passed cpu steps = AreAsked (λ _ next. passed next) cpu steps

-- The list of steps was gone through, each event of a part answered soundly, each call of the book
-- as that was found under its lock, and none of them by a Stop; and each step was let come.
pub record WentThrough {D A : Type 0} (arenas : List TreeArena) (passed : NextStep → Type 0)
    (cpu : ℕ) (plan : CallPlan D A) (a : A) : Type 0 where
  pub gone : GoneThrough (AnswersSoundly (nodes_of arenas)) (IsLockedCall D) plan a
  pub let_come : AreLetCome passed cpu
      (answers_along (AnswersSoundly (nodes_of arenas)) (IsLockedCall D) plan a gone [])

-- the list of steps was gone through, the hand has what it left, and the line is answered by what
-- it ended with
pub record AnswersBy {D : Type 0} (arenas : List TreeArena) (passed : NextStep → Type 0)
    (cpu : ℕ) (id : RequestId) (plan : CallPlan D (CallEnd D)) (hand : Option Tag) (r : Reply)
    (w : Option ReceiptState) : Type 0 where
  pub ended : CallEnd D
  pub went : WentThrough arenas passed cpu plan ended
  pub left : hand ≡ call_left ended
  pub told : TellsEnd arenas id ended r w

-- and as new just where the request was settled on that way
pub record AnswersNewly {D : Type 0} (arenas : List TreeArena) (passed : NextStep → Type 0)
    (cpu : ℕ) (id : RequestId) (plan : CallPlan D (CallEnd D)) (hand : Option Tag) (r : Reply)
    (w : Option ReceiptState) (is_new : Bool) : Type 0 where
  pub answers : AnswersBy arenas passed cpu id plan hand r w
  pub newly : IsTrue is_new ↔ TellsNew (end_receipt answers.ended) w

-- The list of steps was gone through up to a step that was stopped, and the hand has what it left.
-- The gate may say Stop to that one (it is the last, by `stop_laws`), and let those before it come.
pub record StopsIn {D A : Type 0} (arenas : List TreeArena) (may passed : NextStep → Type 0)
    (cpu : ℕ) (plan : CallPlan D (Result A (CallFault Tag))) (hand : Option Tag) : Type 0 where
  pub gone : GoneThrough (Sound (nodes_of arenas)) (IsCallOrStop D) plan
      (Err (calling.Stopped hand))
  pub asked : AreAsked (SaysSo may passed) cpu (answers_along (Sound (nodes_of arenas))
      (IsCallOrStop D) plan (Err (calling.Stopped hand)) gone [])

-- a list of steps that ended is told on, but for a stop, of which the hand has what it left
abbrev pub StopsOrEnds : {A : Type 0} → Result A (CallFault Tag)
    → Result (Result A (CallFault Tag)) RequestStopped → Option Tag → Type 0
StopsOrEnds ended (Ok e) hand = (e ≡ ended) × (call_stopped ended ≡ false) × (hand ≡ None)
StopsOrEnds ended (Err stopped) hand = ended ≡ Err (calling.Stopped hand)

-- a hello's list of steps, with a sweep for each lease that a client may have and one more
abbrev pub greeting_plan : (D : Type 0) → List TreeArena → Option Tag → HelloLine
    → CallPlan D (HelloEnd D)
greeting_plan D arenas hand h = hello_plan arenas hand h (MOST_LEASES + 1)

-- it was gone through, the hand has what it left, and the hello is answered by what it ended with
pub record GreetsBy (D : Type 0) (arenas : List TreeArena) (passed : NextStep → Type 0)
    (cpu : ℕ) (h : HelloLine) (plan : CallPlan D (HelloEnd D)) (hand : Option Tag) (r : Reply)
    : Type 0 where
  pub ended : HelloEnd D
  pub went : WentThrough arenas passed cpu plan ended
  pub left : hand ≡ call_left ended
  pub told : r ≡ greeting_end h ended

-- the line's list of steps was gone through, after the hand before it was emptied, each step let
-- come; the line is answered by what it ended with, the hand after it has what that left, and it is
-- told as new just where it was settled on that way
abbrev pub RunsLine : (D : Type 0) → List TreeArena → (passed : NextStep → Type 0) → (cpu : ℕ)
    → (hand : Option Tag) → Line → (after : Option Tag) → Reply → Option ReceiptState
    → (new : Bool) → Type 0
RunsLine D arenas passed cpu hand (lines.Hello h) after r w new =
    GreetsBy D arenas passed cpu h (greeting_plan D arenas hand h) after r × (new ≡ false)
RunsLine D arenas passed cpu hand (lines.Request id o) after r w new =
    AnswersNewly {D = D} arenas passed cpu id (request_plan arenas hand id o) after r w new

-- the same of one that was stopped, which isn't answered
abbrev pub StopsLine : (D : Type 0) → List TreeArena → (may passed : NextStep → Type 0)
    → (cpu : ℕ) → (hand : Option Tag) → Line → (after : Option Tag) → Type 0
StopsLine D arenas may passed cpu hand (lines.Hello h) after =
    StopsIn {D = D} arenas may passed cpu (greeting_plan D arenas hand h) after
StopsLine D arenas may passed cpu hand (lines.Request id o) after =
    StopsIn {D = D} arenas may passed cpu (request_plan arenas hand id o) after
