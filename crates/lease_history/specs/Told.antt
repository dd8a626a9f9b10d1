-- The reply that an answer of a book is, and which replies a book may give.
use Rattle.std.specs.Prelude.{◌≡◌, ℕ, ◌<◌, ◌≤◌, List, Some}
use Rattle.lease_terms.specs.Requests.{RequestId}
use Rattle.lease_proto.specs.declared.replies.Reply.{Reply}
use Rattle.lease_proto.specs.declared.replies.Reply.TheVariants as replies
use Rattle.lease_proto.specs.Requests.{again_of}
use Rattle.lease_book.specs.declared.receipts.KeptReply.{KeptReply}
use Rattle.lease_book.specs.declared.receipts.KeptReply.TheVariants as kept
use Rattle.lease_book.specs.Receipts.{Kept, ReceiptState}
use Rattle.lease_book.specs.BookState.{BookState, account_in}
use Rattle.lease_book.specs.Answers.{IsRepeated, IsOld, IsStale, IsGap}
use Rattle.lease_book.specs.History.{incarnation, first_protocol, outcome_of}
use Rattle.lease_book.specs.declared.answers.Answer.{Answer}
use Rattle.lease_book.specs.declared.answers.Answer.TheVariants as answer
use Rattle.lease_book.specs.Entry.{Entry, Settlement, kept_reply_of}

-- the reply to a request, of the book's reply, where arenas have these names
abbrev pub reply_to : (ℕ → List ℕ) → RequestId → KeptReply → Reply
reply_to names id (kept.Granted arena base len) =
    replies.Granted (record { id = id; arena = names arena; base = base; len = len })
reply_to names id (kept.Released arena base) = replies.Released id
reply_to names id (kept.Refused why) = replies.Refused (record { id = id; refusal = why })

-- it names no arena, or one of so many
abbrev pub IsTellable : ℕ → KeptReply → Type 0
IsTellable count (kept.Granted arena base len) = arena < count
IsTellable count (kept.Released arena base) = Unit {0}
IsTellable count (kept.Refused why) = Unit {0}

-- the reply to a request that is settled so
abbrev pub reply_of_settled : (ℕ → List ℕ) → RequestId → Settlement → Reply
reply_of_settled names id s = reply_to names id (kept_reply_of s)

-- the reply to a request that the book answers so
abbrev pub reply_to_answer : {D : Type 0} → (ℕ → List ℕ) → RequestId → Answer D → Reply
reply_to_answer names id (answer.Kept v) = reply_to names id v.reply
reply_to_answer names id (answer.Refused v) = reply_to names id v.reply
reply_to_answer names id (answer.Old current) =
    replies.Old (record { client = id.client; current = current })
reply_to_answer names id (answer.Stale greatest) =
    replies.Stale (record { id = id; last = greatest })
reply_to_answer names id (answer.Gap low) = replies.Gap (record { id = id; last = low })
reply_to_answer names id answer.Again = again_of id

-- the reply to a number that is settled already
abbrev pub IsKeptReply : (ℕ → List ℕ) → BookState → RequestId → Reply → Type 0
IsKeptReply names book id reply = (r : ReceiptState)
    × IsRepeated book (account_in id.client book) id r × (reply ≡ reply_to names id r.reply)

-- the answer to a number that isn't new
abbrev pub IsKnownReply : (ℕ → List ℕ) → BookState → RequestId → Reply → Type 0
IsKnownReply names book id (replies.Old o) =
    (o.client ≡ id.client) × IsOld (account_in id.client book) id o.current
IsKnownReply names book id (replies.Stale o) =
    (o.id ≡ id) × IsStale (account_in id.client book) id o.last
IsKnownReply names book id (replies.Gap o) =
    (o.id ≡ id) × IsGap (account_in id.client book) id o.last
IsKnownReply names book id reply = IsKeptReply names book id reply

-- the request was settled so
abbrev pub IsOutcome : (ℕ → List ℕ) → List Entry → RequestId → Reply → Type 0
IsOutcome names entries id reply =
    (k : Kept) × (outcome_of id entries ≡ Some k) × (reply ≡ reply_to names id k.reply)

-- the book has these entries, or had them, when it gave the reply: how the request was settled, an
-- incarnation that the client's hello began, or the protocol of the first hello of an incarnation
abbrev pub MayTell : (ℕ → List ℕ) → List Entry → Reply → Type 0
MayTell names entries (replies.Granted g) = IsOutcome names entries g.id (replies.Granted g)
MayTell names entries (replies.Released id) = IsOutcome names entries id (replies.Released id)
MayTell names entries (replies.Refused r) = IsOutcome names entries r.id (replies.Refused r)
MayTell names entries (replies.Old o) = o.current ≤ incarnation o.client entries
MayTell names entries (replies.Welcome w) =
    first_protocol w.client w.incarnation entries ≡ Some w.protocol
MayTell names entries (replies.Stale t) = Unit {0}
MayTell names entries (replies.Gap t) = Unit {0}
MayTell names entries (replies.Again a) = Unit {0}
MayTell names entries (replies.Error e) = Unit {0}
