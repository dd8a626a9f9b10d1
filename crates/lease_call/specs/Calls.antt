-- The calls of the book, each with what it can be answered.
use Rattle.std.specs.Prelude.{◌≡◌, ℕ, Option, Result}
use Rattle.deed_core.specs.Tag.{Tag}
use Rattle.lease_terms.specs.Requests.{RequestId}
use Rattle.lease_terms.specs.declared.protocols.Protocol.{Protocol}
use Rattle.lease_terms.specs.declared.refusals.Refusal.{Refusal}
use Rattle.arena_tree.specs.declared.part_faults.Stopped.{Stopped}
use Rattle.lease_book.specs.Receipts.{ReceiptState}
use Rattle.lease_book.specs.Words.{Greeted}
use Rattle.lease_book.specs.declared.answers.Answer.{Answer}
use Rattle.lease_book.specs.declared.receipts.Terms.{Terms}
use Rattle.lease_book.specs.declared.words.SweepEnd.{SweepEnd}
use Rattle.lease_book.specs.declared.words.SweepEnd.TheVariants.{Ended, Welcome}
use Rattle.lease_call.specs.declared.call_faults.NotGreeted.{NotGreeted}
use Rattle.lease_call.specs.declared.call_faults.NotReleased.{NotReleased}
use Rattle.lease_call.specs.declared.call_faults.NotSettled.{NotSettled}

-- each is one event of the book; `given` is the segment in the hand
pub data BookCall : Type 0 where
  Look : (id : RequestId) → BookCall
  Settle : (id : RequestId) (given : Tag) (terms : Terms) → BookCall
  Refuse : (id : RequestId) (why : Refusal) → BookCall
  Release : (id : RequestId) (arena base : ℕ) → BookCall
  Hello : (client incarnation : ℕ) (protocol : Protocol) → BookCall
  Sweep : (client : ℕ) → BookCall

-- what a call of a book of D's can be answered
abbrev pub AnswerOf : Type 0 → BookCall → Type 0
AnswerOf D (Look id) = Result (Option (Answer D)) Stopped
AnswerOf D (Settle id given terms) = Result ReceiptState (NotSettled Tag D)
AnswerOf D (Refuse id why) = Result (Answer D) Stopped
AnswerOf D (Release id arena base) = Result (ReceiptState × Tag) (NotReleased D)
AnswerOf D (Hello client incarnation protocol) = Result Greeted (NotGreeted D)
AnswerOf D (Sweep client) = Result (Option (RequestId × Tag)) Stopped

-- a sweep after the hello that ends no lease makes that hello welcome
abbrev pub IsWelcomeOf : {X D : Type 0} → Greeted → SweepEnd X D → Type 0
IsWelcomeOf taken (Ended id x) = Unit {0}
IsWelcomeOf taken (Welcome w) = w ≡ taken
