-- What a client's line comes to, by its list of steps over a picture.
use Rattle.std.specs.Prelude.{◌≡◌, ◌<◌, ℕ, List, Ok, Err, length}
use Rattle.lease_terms.specs.Requests.{RequestId}
use Rattle.arena_tree.specs.Trees.{nodes_of}
use Rattle.arena_tree.specs.declared.trees.TreeArena.{TreeArena}
use Rattle.lease_book.specs.BookState.{BookState}
use Rattle.lease_book.specs.declared.answers.Answer.{Answer}
use Rattle.lease_book.specs.declared.answers.Answer.TheVariants as answer
use Rattle.lease_book.specs.declared.books.TheConstants.{MOST_LEASES}
use Rattle.lease_proto.specs.declared.lines.Op.{Op}
use Rattle.lease_proto.specs.declared.lines.HelloLine.{HelloLine}
use Rattle.lease_proto.specs.declared.replies.Reply.{Reply}
use Rattle.lease_proto.specs.declared.replies.Reply.TheVariants as reply
use Rattle.lease_proto.specs.Requests.{again_of}
use Rattle.local_parts.specs.States.{LocalState}
use Rattle.local_calls.specs.Runs.{SoundStep}
use Rattle.lease_call.specs.BookEvents.{BookEvent}
use Rattle.lease_call.specs.Calls.{BookCall, AnswerOf}
use Rattle.lease_call.specs.CallPlans.{CallPlan, CallPath}
use Rattle.lease_call.specs.Greeting.{HelloEnd, greet_plan, hello_refusal}
use Rattle.lease_call.specs.Releasing.{CallEnd}
use Rattle.lease_call.specs.Requesting.{op_plan}
use Rattle.lease_call.specs.declared.outcomes.Greeting.TheVariants.{Welcome, Late, Unswept}
use Rattle.lease_call.specs.declared.outcomes.Outcome.{Outcome}
use Rattle.lease_call.specs.declared.outcomes.Outcome.TheVariants.{Settled, Answered, Again}
use Rattle.lease_history.specs.Told.{IsTellable, reply_to, reply_to_answer}
use Rattle.lease_machine.specs.Held.{parts_in, with_parts}
use Rattle.lease_machine.specs.Machine.{RequestStep, HelloStep}
use Rattle.lease_machine.specs.Picture.{Picture, IsPicture, SameSetup}
use Rattle.arena_tree.specs.Trees.{arena_named}

-- a call of the book is its event, and nothing stops; the parts stay
abbrev pub BookDoes : (D : Type 0) → BookState → LocalState → (k : BookCall) → AnswerOf D k
    → BookState → LocalState → Type 0
BookDoes D b s k a c t = BookEvent D b k a c × (t ≡ s)

-- the list of steps was gone through over the parts of the tree and the book, and ended with a
abbrev pub RunsCall : {D A : Type 0} → List TreeArena → CallPlan D A → BookState → LocalState
    → BookState → LocalState → A → Type 0
RunsCall {D = D} arenas plan b s c t a =
    CallPath (SoundStep (nodes_of arenas)) (BookDoes D) plan b s c t a

-- a grant that the answer tells of is of an arena of the tree
abbrev pub CanName : {D : Type 0} → List TreeArena → Answer D → Type 0
CanName tree (answer.Kept r) = IsTellable (length tree) r.reply
CanName tree (answer.Refused r) = IsTellable (length tree) r.reply
CanName tree (answer.Old current) = Unit {0}
CanName tree (answer.Stale greatest) = Unit {0}
CanName tree (answer.Gap low) = Unit {0}
CanName tree answer.Again = Unit {0}

-- or that the request came to
abbrev pub CanTell : {D : Type 0} → List TreeArena → Outcome D → Type 0
CanTell tree (Settled r) = IsTellable (length tree) r.reply
CanTell tree (Answered a) = CanName tree a
CanTell tree Again = Unit {0}

-- the reply to what the request came to
abbrev pub reply_of_outcome : {D : Type 0} → List TreeArena → RequestId → Outcome D → Reply
reply_of_outcome tree id (Settled r) = reply_to (arena_named tree) id r.reply
reply_of_outcome tree id (Answered a) = reply_to_answer (arena_named tree) id a
reply_of_outcome tree id Again = again_of id

-- what the request came to can be told, and that is a step of the lease machine
pub record ComesTo {D : Type 0} (id : RequestId) (op : Op) (old new : Picture) (o : Outcome D)
    : Type 0 where
  pub named : CanTell old.tree o
  pub step : RequestStep id op old new (reply_of_outcome old.tree id o)
  pub picture : IsPicture new
  pub setup : SameSetup old new

-- it isn't stuck, and doesn't stop
abbrev pub AnswersRequest : {D : Type 0} → RequestId → Op → Picture → Picture → CallEnd D → Type 0
AnswersRequest id op old new (Ok o) = ComesTo id op old new o
AnswersRequest id op old new (Err e) = ⊥

-- A request's list of steps over a picture is a step of the lease machine.
abbrev pub RequestRuns : Type 0 → Type 0
RequestRuns D = (d : Picture) (id : RequestId) (op : Op) (b : BookState) (s : LocalState)
    (a : CallEnd D) → IsPicture d
    → RunsCall d.tree (op_plan d.tree id op) d.book (parts_in d) b s a
    → AnswersRequest id op d (with_parts s (record d { book = b })) a

-- so the hello is answered
pub record Greets (h : HelloLine) (old new : Picture) (r : Reply) : Type 0 where
  pub step : HelloStep h old new r
  pub picture : IsPicture new
  pub setup : SameSetup old new

-- no lease of an older incarnation is left, where it is taken
abbrev pub AnswersHello : {D : Type 0} → HelloLine → Picture → Picture → HelloEnd D → Type 0
AnswersHello h old new (Ok (Welcome w)) = Greets h old new (reply.Welcome (record {
  client = h.client;
  incarnation = h.incarnation;
  protocol = w.protocol;
}))
AnswersHello h old new (Ok (Late f)) = Greets h old new (hello_refusal h f)
AnswersHello h old new (Ok Unswept) = ⊥
AnswersHello h old new (Err e) = ⊥

-- A hello's list of steps with turns for all leases that a client may have is a step too.
abbrev pub HelloRuns : Type 0 → Type 0
HelloRuns D = (d : Picture) (h : HelloLine) (turns : ℕ) (b : BookState) (s : LocalState)
    (a : HelloEnd D) → IsPicture d → MOST_LEASES < turns
    → RunsCall {D = D} d.tree (greet_plan d.tree h turns) d.book (parts_in d) b s a
    → AnswersHello h d (with_parts s (record d { book = b })) a
