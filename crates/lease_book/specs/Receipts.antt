-- What contracts see of a settled number and of a receipt.
use Rattle.std.specs.Prelude.{ℕ, Option, Some, None}
use Rattle.deed_core.specs.Request.{Fits}
use Rattle.lease_terms.specs.Requests.{RequestId}
use Rattle.lease_book.specs.declared.receipts.KeptReply.{KeptReply}
use Rattle.lease_book.specs.declared.receipts.KeptReply.TheVariants.{Granted, Released, Refused}
use Rattle.lease_book.specs.declared.receipts.Terms.{Terms}

-- a settled number, its reply, and for a grant what it was made for
pub record Kept : Type 0 where
  pub number : ℕ
  pub reply : KeptReply
  pub terms : Option Terms

-- a grant, and it alone, has terms, and meets them
abbrev pub IsEarned : KeptReply → Option Terms → Type 0
IsEarned (Granted arena base len) (Some t) = Fits t.quantum t.request base len
IsEarned (Granted arena base len) None = ⊥
IsEarned (Released arena base) (Some t) = ⊥
IsEarned (Released arena base) None = Unit {0}
IsEarned (Refused why) (Some t) = ⊥
IsEarned (Refused why) None = Unit {0}

-- a receipt: how the book with this mark settled a request
pub record ReceiptState : Type 0 where
  pub book : ℕ
  pub id : RequestId
  pub reply : KeptReply
  pub terms : Option Terms
