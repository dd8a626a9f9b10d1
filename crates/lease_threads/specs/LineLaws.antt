-- Laws of lines that a running system answered, or that were stopped in it.
use Rattle.std.specs.Prelude.{ℕ, List, [], Option, Err, Bool}
use Rattle.deed_core.specs.Tag.{Tag}
use Rattle.lease_terms.specs.Requests.{RequestId}
use Rattle.arena_tree.specs.Sound.{Sound}
use Rattle.arena_tree.specs.Trees.{IsTree, nodes_of}
use Rattle.arena_tree.specs.declared.trees.TreeArena.{TreeArena}
use Rattle.lease_book.specs.Receipts.{ReceiptState}
use Rattle.lease_proto.specs.declared.lines.Line.{Line}
use Rattle.lease_proto.specs.declared.lines.Line.TheVariants as lines
use Rattle.lease_proto.specs.declared.lines.Op.{Op}
use Rattle.lease_proto.specs.declared.replies.Reply.{Reply}
use Rattle.lease_call.specs.Answered.{AnsweredStep, answers_along}
use Rattle.lease_call.specs.Kept.{IsAllKept}
use Rattle.lease_call.specs.Refusing.{AskedAfter, NoFitAfter}
use Rattle.lease_call.specs.Requesting.{request_plan}
use Rattle.lease_call.specs.declared.call_faults.CallFault.TheVariants as calling
use Rattle.locked_parts.specs.Answers.{AnswersSoundly}
use Rattle.locked_parts.specs.declared.gates.NextStep.{NextStep}
use Rattle.shared_book.specs.Calls.{IsLockedCall}
use Rattle.lease_threads.specs.Calling.{IsCallOrStop, RunsLine, StopsLine, greeting_plan}

-- what the parts and the book answered on a line's way, the last first
abbrev pub line_answers : (D : Type 0) (arenas : List TreeArena) (passed : NextStep → Type 0)
    (cpu : ℕ) (hand : Option Tag) (line : Line) (after : Option Tag) (r : Reply)
    (w : Option ReceiptState) (new : Bool)
    → RunsLine D arenas passed cpu hand line after r w new → List (AnsweredStep D)
line_answers D arenas passed cpu hand (lines.Hello h) after r w new ran = answers_along
    (AnswersSoundly (nodes_of arenas)) (IsLockedCall D) (greeting_plan D arenas hand h)
    ran.0.ended ran.0.went.gone []
line_answers D arenas passed cpu hand (lines.Request id o) after r w new ran = answers_along
    (AnswersSoundly (nodes_of arenas)) (IsLockedCall D) (request_plan arenas hand id o)
    ran.answers.ended ran.answers.went.gone []

abbrev pub stopped_answers : (D : Type 0) (arenas : List TreeArena)
    (may passed : NextStep → Type 0) (cpu : ℕ) (hand : Option Tag) (line : Line)
    (after : Option Tag) → StopsLine D arenas may passed cpu hand line after
    → List (AnsweredStep D)
stopped_answers D arenas may passed cpu hand (lines.Hello h) after ran = answers_along
    (Sound (nodes_of arenas)) (IsCallOrStop D) (greeting_plan D arenas hand h)
    (Err (calling.Stopped after)) ran.gone []
stopped_answers D arenas may passed cpu hand (lines.Request id o) after ran = answers_along
    (Sound (nodes_of arenas)) (IsCallOrStop D) (request_plan arenas hand id o)
    (Err (calling.Stopped after)) ran.gone []

-- No line loses a segment: what was in the hand, what the parts gave and what ended leases were of
-- went into parts, or was leased, or is in the hand after it.
abbrev pub LineKeeps : {X : Type 0} → Type 0 → (passed : X → NextStep → Type 0) → Type 0
LineKeeps {X} D passed = (arenas : List TreeArena) (gate : X) (cpu : ℕ) (hand : Option Tag)
    (line : Line) (after : Option Tag) (r : Reply) (w : Option ReceiptState) (new : Bool)
    (ran : RunsLine D arenas (passed gate) cpu hand line after r w new)
    → IsAllKept hand after (line_answers D arenas (passed gate) cpu hand line after r w new ran)

abbrev pub StoppedLineKeeps : {X : Type 0} → Type 0 → (may passed : X → NextStep → Type 0)
    → Type 0
StoppedLineKeeps {X} D may passed = (arenas : List TreeArena) (gate : X) (cpu : ℕ)
    (hand : Option Tag) (line : Line) (after : Option Tag)
    (ran : StopsLine D arenas (may gate) (passed gate) cpu hand line after)
    → IsAllKept hand after
    (stopped_answers D arenas (may gate) (passed gate) cpu hand line after ran)

-- The book was asked to refuse a request for NoFit only after carves that found none.
abbrev pub LineNoFit : {X : Type 0} → Type 0 → (passed : X → NextStep → Type 0) → Type 0
LineNoFit {X} D passed = (arenas : List TreeArena) (gate : X) (cpu : ℕ) (hand : Option Tag)
    (id : RequestId) (o : Op) (after : Option Tag) (r : Reply) (w : Option ReceiptState)
    (new : Bool) → IsTree arenas
    → (ran : RunsLine D arenas (passed gate) cpu hand (lines.Request id o) after r w new)
    → AskedAfter (NoFitAfter arenas o)
    (line_answers D arenas (passed gate) cpu hand (lines.Request id o) after r w new ran)
