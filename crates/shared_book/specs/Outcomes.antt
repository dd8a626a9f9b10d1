-- What a line's list of steps ends with, as far as it is the book's, and the reply to that.
use Rattle.std.specs.Prelude.{◌≡◌, List, Option, Some, None, Ok, Err, IfSome}
use Rattle.lease_terms.specs.Requests.{RequestId}
use Rattle.arena_tree.specs.declared.trees.TreeArena.{TreeArena}
use Rattle.lease_book.specs.Receipts.{ReceiptState}
use Rattle.lease_proto.specs.Requests.{again_of, hello_again_of}
use Rattle.lease_proto.specs.declared.lines.HelloLine.{HelloLine}
use Rattle.lease_proto.specs.declared.lines.Op.{Op}
use Rattle.lease_proto.specs.declared.replies.Reply.{Reply}
use Rattle.lease_call.specs.Greeting.{HelloEnd, reply_of_greeting}
use Rattle.lease_call.specs.Releasing.{CallEnd}
use Rattle.lease_call.specs.declared.outcomes.Greeting.{Greeting}
use Rattle.lease_call.specs.declared.outcomes.Greeting.TheVariants.{Welcome, Late, Unswept}
use Rattle.lease_call.specs.declared.outcomes.Outcome.{Outcome}
use Rattle.lease_call.specs.declared.outcomes.Outcome.TheVariants.{Settled, Answered, Again}
use Rattle.shared_book.specs.Replying.{IsReceiptOf, IsBookAnswerTo, IsToldAs, TellsAnswer}
use Rattle.shared_book.specs.Replying.{IsLateHello}
use Rattle.shared_book.specs.Settling.{Settles, new_receipt}

-- what the request comes to is the book's
abbrev pub IsOutcomeOf : {D : Type 0} → RequestId → Outcome D → Type 0
IsOutcomeOf id (Settled v) = IsReceiptOf id v
IsOutcomeOf id (Answered a) = IsBookAnswerTo id a
IsOutcomeOf id Again = Unit {0}

-- the receipt by which the request was settled, if it was
abbrev pub outcome_receipt : {D : Type 0} → Outcome D → Option ReceiptState
outcome_receipt (Settled v) = Some v
outcome_receipt (Answered a) = new_receipt a
outcome_receipt Again = None

abbrev pub end_receipt : {D : Type 0} → CallEnd D → Option ReceiptState
end_receipt (Ok o) = outcome_receipt o
end_receipt (Err e) = None

-- it is the book's, and where the request was settled by it, that was as its words ask
pub record IsOutcomeTo {D : Type 0} (arenas : List TreeArena) (id : RequestId) (o : Op)
    (outcome : Outcome D) : Type 0 where
  pub of_book : IsOutcomeOf id outcome
  pub settles : IfSome (outcome_receipt outcome) (Settles arenas o)

-- what the request comes to is told so
abbrev pub TellsOutcome : {D : Type 0} → List TreeArena → RequestId → Outcome D → Reply
    → Option ReceiptState → Type 0
TellsOutcome arenas id (Settled v) r w = IsToldAs arenas id v r w
TellsOutcome arenas id (Answered a) r w = TellsAnswer arenas id a r w
TellsOutcome arenas id Again r w = (r ≡ again_of id) × (w ≡ None)

-- what the list of steps ended with is told so
abbrev pub TellsEnd : {D : Type 0} → List TreeArena → RequestId → CallEnd D → Reply
    → Option ReceiptState → Type 0
TellsEnd arenas id (Ok o) r w = TellsOutcome arenas id o r w
TellsEnd arenas id (Err e) r w = (r ≡ again_of id) × (w ≡ None)

-- what a hello comes to is the book's
abbrev pub IsGreetedSo : {D : Type 0} → HelloLine → Greeting D → Type 0
IsGreetedSo h (Welcome w) = (w.client ≡ h.client) × (w.incarnation ≡ h.incarnation)
IsGreetedSo h (Late f) = IsLateHello h.incarnation f
IsGreetedSo h Unswept = Unit {0}

-- and is told so
abbrev pub greeting_end : {D : Type 0} → HelloLine → HelloEnd D → Reply
greeting_end h (Ok g) = reply_of_greeting h g
greeting_end h (Err e) = hello_again_of h
