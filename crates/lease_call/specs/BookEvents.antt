-- What a call does to a book.
use Rattle.std.specs.Prelude.{◌≡◌, ℕ, ◌<◌, ◌≤◌, length, Some, None, Ok, Err}
use Rattle.std.specs.List.{find}
use Rattle.lease_terms.specs.declared.protocols.Protocol.{Protocol}
use Rattle.lease_terms.specs.declared.refusals.Refusal.TheVariants.{NotYours, Leases}
use Rattle.lease_book.specs.Account.{is_lease}
use Rattle.lease_book.specs.Answers.{IsNew, IsAnswer, IsHelloFault}
use Rattle.lease_book.specs.BookState.{BookState, Enters, account_in, leased_segments}
use Rattle.lease_book.specs.Calls.{IsGranted, IsRefused, IsReleased, IsSwept, IsSweptClean}
use Rattle.lease_book.specs.Entry as entries
use Rattle.lease_book.specs.Words.{Greeted}
use Rattle.lease_book.specs.declared.books.TheConstants.{MOST_LEASES}
use Rattle.lease_call.specs.Calls.{BookCall, AnswerOf, Look, Settle, Refuse, Release, Hello, Sweep}
use Rattle.lease_call.specs.declared.call_faults.NotGreeted.TheVariants as greeting
use Rattle.lease_call.specs.declared.call_faults.NotReleased.TheVariants as releasing
use Rattle.lease_call.specs.declared.call_faults.NotSettled.TheVariants as settling

-- a hello that asks for a protocol is taken; the one that stands for its incarnation is told
pub record IsGreeted (old new : BookState) (client incarnation : ℕ) (asked : Protocol)
    (taken : Greeted) : Type 0 where
  pub current : (account_in client old).incarnation ≤ incarnation
  pub entry : Enters (entries.Hello client incarnation asked) old new
  pub told : taken ≡ record {
    client = client;
    incarnation = incarnation;
    protocol = (account_in client new).protocol;
  }
  pub leases : leased_segments new ≡ leased_segments old

-- by its answer; one that was stopped is no event of the book
abbrev pub BookEvent : (D : Type 0) → BookState → (k : BookCall) → AnswerOf D k → BookState
    → Type 0
BookEvent D b (Look id) (Ok None) c = IsNew (account_in id.client b) id × (c ≡ b)
BookEvent D b (Look id) (Ok (Some a)) c = IsAnswer b c id (λ _. ⊥) ⊥ a
BookEvent D b (Look id) (Err e) c = ⊥
BookEvent D b (Settle id t terms) (Ok r) c = IsGranted b c id t terms r
BookEvent D b (Settle id t terms) (Err (settling.NotLeased n)) c = (n.segment ≡ t)
    × IsAnswer b c id
    (λ v. IsRefused b c id Leases v × (MOST_LEASES ≤ length (account_in id.client b).leases))
    (IsNew (account_in id.client b) id × (length (account_in id.client b).leases < MOST_LEASES))
    n.answer
BookEvent D b (Settle id t terms) (Err (settling.Stopped s)) c = ⊥
BookEvent D b (Refuse id why) (Ok a) c = IsAnswer b c id (IsRefused b c id why) ⊥ a
BookEvent D b (Refuse id why) (Err e) c = ⊥
BookEvent D b (Release id arena base) (Ok r) c = IsReleased b c id arena base r.0 r.1
BookEvent D b (Release id arena base) (Err (releasing.Answered a)) c = IsAnswer b c id
    (λ v. IsRefused b c id NotYours v
    × (find (is_lease id.incarnation arena base) (account_in id.client b).leases ≡ None)) ⊥ a
BookEvent D b (Release id arena base) (Err releasing.Stopped) c = ⊥
BookEvent D b (Hello client incarnation asked) (Ok taken) c =
    IsGreeted b c client incarnation asked taken
BookEvent D b (Hello client incarnation asked) (Err (greeting.Late f)) c =
    IsHelloFault (account_in client b).incarnation incarnation asked f × (c ≡ b)
BookEvent D b (Hello client incarnation asked) (Err greeting.Stopped) c = ⊥
BookEvent D b (Sweep client) (Ok None) c = IsSweptClean b client × (c ≡ b)
BookEvent D b (Sweep client) (Ok (Some r)) c = IsSwept b c client r.0 r.1
BookEvent D b (Sweep client) (Err e) c = ⊥
