-- Receipts of a book whose mark is of this root.
use Rattle.std.proofs.Common.{◌≡◌, ◌∙◌, ◌+◌, ◌<◌, ◌≤◌, ℕ, ap, sym, subst, IfSome, arith}
use Rattle.lease_terms.specs.Requests.{RequestId}
use Rattle.lease_terms.specs.Protocols.{window_of}
use Rattle.lease_terms.specs.declared.protocols.Protocol.{Protocol}
use Rattle.lease_terms.specs.declared.protocols.Protocol.TheVariants.{One, Two}
use Rattle.lease_terms.specs.declared.refusals.Refusal.{Refusal}
use Rattle.deed_core.specs.Tag.{Tag}
use Rattle.deed_core.specs.Request.{Fits}
use Rattle.lease_book.specs.Receipts.{ReceiptState, IsEarned}
use Rattle.lease_book.specs.BookState.{BookState, account_in}
use Rattle.lease_book.specs.Entry.{Settlement, Grant, Return, Refuse, kept_settlement}
use Rattle.lease_book.specs.Account.{Account}
use Rattle.lease_book.specs.Answers.{receipt, IsAnswer, IsRepeated, IsStale, IsGap, IsHelloFault}
use Rattle.lease_book.specs.Calls.{IsGranted, IsRefused, IsReleased}
use Rattle.lease_book.specs.declared.answers.Answer.{Answer}
use Rattle.lease_book.specs.declared.answers.Answer.TheVariants as answer
use Rattle.lease_book.specs.declared.answers.HelloFault.{HelloFault}
use Rattle.lease_book.specs.declared.answers.HelloFault.TheVariants as fault
use Rattle.lease_book.specs.declared.receipts.Terms.{Terms}
use Rattle.arena_tree.specs.declared.limits.TheConstants.{MOST_ROOTS}
use Rattle.shared_book.specs.Replying.{IsReceiptOf, IsBookAnswerTo, IsLateHello}
use Rattle.shared_book.specs.Settling.{new_receipt, IsRefusalReceipt, IsGrantReceipt}

some_window : (p : Protocol) → 1 ≤ window_of p
some_window One = omega arith
some_window Two = omega arith

stale_below : (a : Account) (id : RequestId) (greatest : ℕ) → IsStale a id greatest → id.number < greatest
stale_below a id greatest is = omega (arith, is.below, some_window a.protocol)

gap_above : (a : Account) (id : RequestId) (low : ℕ) → IsGap a id low → low + 1 < id.number
gap_above a id low is = omega (arith, is.above, some_window a.protocol)

module _ (book : BookState) (id : RequestId) (mark : book.mark.root ≡ MOST_ROOTS) where
  pub repeated : (v : ReceiptState) → IsRepeated book (account_in id.client book) id v → IsReceiptOf id v
  repeated v is = record { book = is.of_book ∙ mark; request = is.request; earned = is.earned }

  made : (s : Settlement) (v : ReceiptState) → IsEarned (kept_settlement id.number s).reply (kept_settlement id.number s).terms → v ≡ receipt book id (kept_settlement id.number s) → IsReceiptOf id v
  made s v earned is = record {
    book = ap (λ (r : ReceiptState). r.book) is ∙ mark;
    request = ap (λ (r : ReceiptState). r.id) is;
    earned = subst (λ (r : ReceiptState). IsEarned r.reply r.terms) (sym is) earned;
  }

  pub refused : (now : BookState) (why : Refusal) (v : ReceiptState) → IsRefused book now id why v → IsReceiptOf id v
  refused now why v is = made (Refuse why) v tt is.receipt

  pub granted : (now : BookState) (t : Tag) (terms : Terms) (v : ReceiptState) → Fits terms.quantum terms.request t.holding.range.base t.holding.range.len → IsGranted book now id t terms v → IsReceiptOf id v
  granted now t terms v fits is = made (Grant t terms) v fits is.receipt

  pub released : (now : BookState) (arena base : ℕ) (v : ReceiptState) (t : Tag) → IsReleased book now id arena base v t → IsReceiptOf id v
  released now arena base v t is = made (Return arena base) v tt is.receipt

  pub answered : {D : Type 0} (now : BookState) (why : ReceiptState → Type 0) (again : Type 0) → ((v : ReceiptState) → why v → IsReceiptOf id v) → (a : Answer D) → IsAnswer book now id why again a → IsBookAnswerTo id a
  answered now why again is (answer.Kept v) of = repeated v of.0
  answered now why again is (answer.Refused v) of = is v of
  answered now why again is (answer.Old current) of = λ e. of.0.other (e ∙ of.0.named)
  answered now why again is (answer.Stale greatest) of = stale_below (account_in id.client book) id greatest of.0
  answered now why again is (answer.Gap low) of = gap_above (account_in id.client book) id low of.0
  answered now why again is answer.Again of = tt

-- a hello that isn't taken is of an earlier incarnation than the current one, memory aside
pub late : {D : Type 0} (current incarnation : ℕ) (asked : Protocol) (f : HelloFault D) → IsHelloFault current incarnation asked f → IsLateHello incarnation f
late current incarnation asked (fault.Old v) is = subst (λ n. incarnation < n) (sym is.1) is.0
late current incarnation asked fault.NoMemory is = tt

-- what an answer settles is as the book's refusal says
pub answered_new : {D : Type 0} (book now : BookState) (id : RequestId) (why : ReceiptState → Type 0) (again : Type 0) (P : ReceiptState → Type 0) → ((v : ReceiptState) → why v → P v) → (a : Answer D) → IsAnswer book now id why again a → IfSome (new_receipt a) P
answered_new book now id why again P is (answer.Kept v) of = tt
answered_new book now id why again P is (answer.Refused v) of = is v of
answered_new book now id why again P is (answer.Old current) of = tt
answered_new book now id why again P is (answer.Stale greatest) of = tt
answered_new book now id why again P is (answer.Gap low) of = tt
answered_new book now id why again P is answer.Again of = tt

pub refused_so : (book now : BookState) (id : RequestId) (why : Refusal) (v : ReceiptState) → IsRefused book now id why v → IsRefusalReceipt why v
refused_so book now id why v is = ap (λ (r : ReceiptState). r.reply) is.receipt

pub granted_so : (book now : BookState) (id : RequestId) (t : Tag) (terms : Terms) (v : ReceiptState) → IsGranted book now id t terms v → IsGrantReceipt t terms v
granted_so book now id t terms v is = record {
  reply = ap (λ (r : ReceiptState). r.reply) is.receipt;
  on_terms = ap (λ (r : ReceiptState). r.terms) is.receipt;
}
