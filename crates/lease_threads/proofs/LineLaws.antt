-- What is so of the lists of steps of lines is so of those that were gone through.
use Rattle.std.proofs.Common.{◌≡◌, ◌+◌, List, [], Option, Result, Err, sym, subst, inl, inr}
use Rattle.deed_core.specs.Tag.{Tag}
use Rattle.arena_tree.specs.Sound.{Sound}
use Rattle.arena_tree.specs.Trees.{nodes_of}
use Rattle.arena_tree.specs.declared.trees.TreeArena.{TreeArena}
use Rattle.lease_book.specs.declared.books.TheConstants.{MOST_LEASES}
use Rattle.lease_proto.specs.declared.lines.Line.TheVariants as lines
use Rattle.lease_call.specs.Answered.{GoneThrough, EndsTold, answers_along}
use Rattle.lease_call.specs.CallPlans.{CallPlan}
use Rattle.lease_call.specs.Calls.{BookCall, AnswerOf}
use Rattle.lease_call.specs.Kept.{HandsBack, IsAllKept, call_left}
use Rattle.lease_call.specs.Refusing.{AskedAfter, NoFitAfter}
use Rattle.lease_call.specs.Requesting.{request_plan}
use Rattle.lease_call.specs.declared.call_faults.CallFault.{CallFault}
use Rattle.lease_call.specs.declared.call_faults.CallFault.TheVariants as calling
use Rattle.lease_call.proofs.LawProofs.{ends_along, event_hands_back, request_keeps, hello_keeps, no_fit_is_last}
use Rattle.locked_parts.specs.Answers.{AnswersSoundly}
use Rattle.locked_parts.specs.declared.gates.NextStep.{NextStep}
use Rattle.shared_book.specs.Calls.{IsLockedCall}
use Rattle.lease_threads.specs.Calling.{IsCallOrStop, greeting_plan}
use Rattle.lease_threads.specs.LineLaws.{LineKeeps, StoppedLineKeeps, LineNoFit}

module _ (D : Type 0) (arenas : List TreeArena) where
  locked_back : (k : BookCall) (x : AnswerOf D k) → IsLockedCall D k x → HandsBack D k x
  locked_back k x is = event_hands_back D is.old is.new k x is.event

  any_back : (k : BookCall) (x : AnswerOf D k) → IsCallOrStop D k x → HandsBack D k x
  any_back k x (inl stopped) = stopped.1
  any_back k x (inr is) = locked_back k x is

  module _ {A : Type 0} (hand : Option Tag) (p : CallPlan D (Result A (CallFault Tag))) (keeps : EndsTold (Sound (nodes_of arenas)) (HandsBack D) (λ told r. IsAllKept hand (call_left r) told) p []) where
    went_keeps : (after : Option Tag) (a : Result A (CallFault Tag)) (d : GoneThrough (AnswersSoundly (nodes_of arenas)) (IsLockedCall D) p a) → after ≡ call_left a → IsAllKept hand after (answers_along (AnswersSoundly (nodes_of arenas)) (IsLockedCall D) p a d [])
    went_keeps after a d left = subst (λ o. IsAllKept hand o (answers_along (AnswersSoundly (nodes_of arenas)) (IsLockedCall D) p a d [])) (sym left)
        (ends_along (Sound (nodes_of arenas)) (AnswersSoundly (nodes_of arenas)) (HandsBack D) (IsLockedCall D) (λ e x s. s.0) locked_back (λ told r. IsAllKept hand (call_left r) told) p [] a d keeps)

    stops_keeps : (after : Option Tag) (d : GoneThrough (Sound (nodes_of arenas)) (IsCallOrStop D) p (Err (calling.Stopped after))) → IsAllKept hand after (answers_along (Sound (nodes_of arenas)) (IsCallOrStop D) p (Err (calling.Stopped after)) d [])
    stops_keeps after d = ends_along (Sound (nodes_of arenas)) (Sound (nodes_of arenas)) (HandsBack D) (IsCallOrStop D) (λ e x s. s) any_back (λ told r. IsAllKept hand (call_left r) told) p [] (Err (calling.Stopped after)) d keeps

pub line_keeps : {X : Type 0} (D : Type 0) (passed : X → NextStep → Type 0) → LineKeeps D passed
line_keeps D passed arenas gate cpu hand (lines.Hello h) after r w new ran = went_keeps D arenas hand (greeting_plan D arenas hand h) (hello_keeps D arenas hand h (MOST_LEASES + 1)) after ran.0.ended ran.0.went.gone ran.0.left
line_keeps D passed arenas gate cpu hand (lines.Request id o) after r w new ran = went_keeps D arenas hand (request_plan arenas hand id o) (request_keeps D arenas hand id o) after ran.answers.ended ran.answers.went.gone ran.answers.left

pub stopped_line_keeps : {X : Type 0} (D : Type 0) (may passed : X → NextStep → Type 0) → StoppedLineKeeps D may passed
stopped_line_keeps D may passed arenas gate cpu hand (lines.Hello h) after ran = stops_keeps D arenas hand (greeting_plan D arenas hand h) (hello_keeps D arenas hand h (MOST_LEASES + 1)) after ran.gone
stopped_line_keeps D may passed arenas gate cpu hand (lines.Request id o) after ran = stops_keeps D arenas hand (request_plan arenas hand id o) (request_keeps D arenas hand id o) after ran.gone

pub line_no_fit : {X : Type 0} (D : Type 0) (passed : X → NextStep → Type 0) → LineNoFit D passed
line_no_fit D passed arenas gate cpu hand id o after r w new tree ran = ends_along (Sound (nodes_of arenas)) (AnswersSoundly (nodes_of arenas)) (λ k x. Unit {0}) (IsLockedCall D) (λ e x s. s.0) (λ k x is. tt) (λ told a. AskedAfter (NoFitAfter arenas o) told) (request_plan arenas hand id o) [] ran.answers.ended ran.answers.went.gone (no_fit_is_last D arenas hand id o tree)
