-- What of the book's a reply rests on.
use Rattle.std.specs.Prelude.{◌≡◌, Option, Some, None}
use Rattle.lease_book.specs.Receipts.{ReceiptState}
use Rattle.lease_proto.specs.declared.replies.Reply.{Reply}
use Rattle.lease_proto.specs.declared.replies.Reply.TheVariants as reply
use Rattle.shared_book.specs.Replying.{IsAgain}
use Rattle.shared_book.specs.declared.replies.BookWord.{BookWord}
use Rattle.shared_book.specs.declared.replies.BookWord.TheVariants as word

-- the reply tells what the book's word says: of a welcome whose it is, and by which protocol, else
-- the number
abbrev pub IsWordOf : {D : Type 0} → BookWord D → Reply → Type 0
IsWordOf (word.Welcome g) (reply.Welcome w) = w
    ≡ record { client = g.client; incarnation = g.incarnation; protocol = g.protocol }
IsWordOf (word.Old current) (reply.Old o) = o.current ≡ current
IsWordOf (word.Stale greatest) (reply.Stale o) = o.last ≡ greatest
IsWordOf (word.Gap low) (reply.Gap o) = o.last ≡ low
IsWordOf w r = ⊥

-- a reply with no receipt is the book's word; with neither it is that the line may be sent again
abbrev pub IsBacked : {D : Type 0} → Reply → Option ReceiptState → Option (BookWord D) → Type 0
IsBacked r (Some v) w = w ≡ None
IsBacked r None (Some w) = IsWordOf w r
IsBacked r None None = IsAgain r
