-- What a line may be answered, as far as can be told where nothing is known of the book.
use Rattle.std.specs.Prelude.{◌≡◌, ◌≢◌, ℕ, ◌+◌, ◌<◌, List, Option, Some, None, length}
use Rattle.lease_terms.specs.Requests.{RequestId}
use Rattle.arena_tree.specs.declared.limits.TheConstants.{MOST_ROOTS}
use Rattle.arena_tree.specs.declared.trees.TreeArena.{TreeArena}
use Rattle.arena_tree.specs.Chains.{quantum_in}
use Rattle.arena_tree.specs.Trees.{arena_named, nodes_of}
use Rattle.lease_book.specs.Receipts.{ReceiptState, IsEarned}
use Rattle.lease_book.specs.declared.answers.Answer.{Answer}
use Rattle.lease_book.specs.declared.answers.Answer.TheVariants as answer
use Rattle.lease_book.specs.declared.answers.HelloFault.{HelloFault}
use Rattle.lease_book.specs.declared.answers.HelloFault.TheVariants as fault
use Rattle.lease_book.specs.declared.receipts.KeptReply.{KeptReply}
use Rattle.lease_book.specs.declared.receipts.KeptReply.TheVariants as kept
use Rattle.lease_book.specs.declared.receipts.Terms.{Terms}
use Rattle.lease_proto.specs.Requests.{again_of}
use Rattle.lease_proto.specs.declared.lines.Line.{Line}
use Rattle.lease_proto.specs.declared.lines.Line.TheVariants as lines
use Rattle.lease_proto.specs.declared.lines.HelloLine.{HelloLine}
use Rattle.lease_proto.specs.declared.replies.Reply.{Reply}
use Rattle.lease_proto.specs.declared.replies.Reply.TheVariants as reply
use Rattle.lease_history.specs.Told.{IsTellable, reply_to, reply_to_answer}

-- a receipt of the system's book for this request: a grant meets the request that it was made for
pub record IsReceiptOf (id : RequestId) (v : ReceiptState) : Type 0 where
  pub book : v.book ≡ MOST_ROOTS
  pub request : v.id ≡ id
  pub earned : IsEarned v.reply v.terms

-- the book's answer to the request: a receipt of it, or that it is of another incarnation than the
-- current one, or that its number lies below the greatest settled one, or further above the low one
-- than the next
abbrev pub IsBookAnswerTo : {D : Type 0} → RequestId → Answer D → Type 0
IsBookAnswerTo id (answer.Kept v) = IsReceiptOf id v
IsBookAnswerTo id (answer.Refused v) = IsReceiptOf id v
IsBookAnswerTo id (answer.Old current) = id.incarnation ≢ current
IsBookAnswerTo id (answer.Stale greatest) = id.number < greatest
IsBookAnswerTo id (answer.Gap low) = low + 1 < id.number
IsBookAnswerTo id answer.Again = Unit {0}

-- why a hello of this incarnation isn't taken
abbrev pub IsLateHello : {D : Type 0} → ℕ → HelloFault D → Type 0
IsLateHello incarnation (fault.Old current) = incarnation < current
IsLateHello incarnation fault.NoMemory = Unit {0}

-- the reply to the request says what was settled, by the name of one of these arenas
abbrev pub TellsSettled : List TreeArena → RequestId → KeptReply → Reply → Type 0
TellsSettled arenas id k r =
    IsTellable (length arenas) k × (r ≡ reply_to (arena_named arenas) id k)

-- a grant was made by the quantum of its arena
abbrev pub IsByQuantum : List TreeArena → KeptReply → Option Terms → Type 0
IsByQuantum arenas (kept.Granted arena base len) (Some t) =
    t.quantum ≡ quantum_in (nodes_of arenas) arena
IsByQuantum arenas (kept.Granted arena base len) None = Unit {0}
IsByQuantum arenas (kept.Released arena base) terms = Unit {0}
IsByQuantum arenas (kept.Refused why) terms = Unit {0}

-- nothing was settled, and the reply is to this request
abbrev pub IsUnsettledTo : RequestId → Reply → Type 0
IsUnsettledTo id (reply.Old o) = (o.client ≡ id.client) × (id.incarnation ≢ o.current)
IsUnsettledTo id (reply.Stale o) = (o.id ≡ id) × (id.number < o.last)
IsUnsettledTo id (reply.Gap o) = (o.id ≡ id) × (o.last + 1 < id.number)
IsUnsettledTo id (reply.Again a) =
    (a.client ≡ id.client) × (a.incarnation ≡ id.incarnation) × (a.number ≡ id.number)
IsUnsettledTo id _ = ⊥

-- the reply says what the receipt says; without a receipt nothing was settled
pub record IsSettledBy (arenas : List TreeArena) (id : RequestId) (r : Reply) (v : ReceiptState)
    : Type 0 where
  pub receipt : IsReceiptOf id v
  pub tells : TellsSettled arenas id v.reply r
  pub quantum : IsByQuantum arenas v.reply v.terms

-- a grant that a system of these arenas can't have made: none of them has its number and quantum
abbrev pub IsForeign : List TreeArena → KeptReply → Option Terms → Type 0
IsForeign arenas (kept.Granted arena base len) terms =
    arena < length arenas → ¬ IsByQuantum arenas (kept.Granted arena base len) terms
IsForeign arenas (kept.Released arena base) terms = ⊥
IsForeign arenas (kept.Refused why) terms = ⊥

-- what the request's receipt is told as: by what it says, or, where that is foreign, by `again`
abbrev pub IsToldAs : List TreeArena → RequestId → ReceiptState → Reply → Option ReceiptState
    → Type 0
IsToldAs arenas id v r (Some w) = (w ≡ v) × TellsSettled arenas id v.reply r
IsToldAs arenas id v r None = IsForeign arenas v.reply v.terms × (r ≡ again_of id)

-- what the book's answer to the request is told as; without a receipt by the reply that it is
abbrev pub TellsAnswer : {D : Type 0} → List TreeArena → RequestId → Answer D
    → Reply → Option ReceiptState → Type 0
TellsAnswer arenas id (answer.Kept v) r w = IsToldAs arenas id v r w
TellsAnswer arenas id (answer.Refused v) r w = IsToldAs arenas id v r w
TellsAnswer arenas id a r w = (r ≡ reply_to_answer (arena_named arenas) id a) × (w ≡ None)

abbrev pub IsReplyTo : List TreeArena → RequestId → Reply → Option ReceiptState → Type 0
IsReplyTo arenas id r (Some v) = IsSettledBy arenas id r v
IsReplyTo arenas id r None = IsUnsettledTo id r

-- the reply to a hello, where which protocol stands is the book's to say; of an `again` the number
-- is 0
abbrev pub IsGreeting : HelloLine → Reply → Type 0
IsGreeting h (reply.Welcome w) = (w.client ≡ h.client) × (w.incarnation ≡ h.incarnation)
IsGreeting h (reply.Old o) = (o.client ≡ h.client) × (h.incarnation < o.current)
IsGreeting h (reply.Again a) =
    (a.client ≡ h.client) × (a.incarnation ≡ h.incarnation) × (a.number ≡ 0)
IsGreeting h _ = ⊥

-- what a line is answered, with a receipt just where something was settled
abbrev pub IsAnswerTo : List TreeArena → Line → Reply → Option ReceiptState → Type 0
IsAnswerTo arenas (lines.Hello h) r v = IsGreeting h r × (v ≡ None)
IsAnswerTo arenas (lines.Request id op) r v = IsReplyTo arenas id r v

-- it may be sent once more
abbrev pub IsAgain : Reply → Type 0
IsAgain (reply.Again a) = Unit {0}
IsAgain _ = ⊥
