-- What the calls of a book do.
use Rattle.std.specs.Prelude.{◌≡◌, ℕ, ◌<◌, ◌≤◌, All, length, Some, slice_get}
use Rattle.std.specs.List.{find}
use Rattle.deed_core.specs.Tag.{Tag}
use Rattle.deed_core.specs.Weights.{Gains, Loses}
use Rattle.lease_terms.specs.Requests.{RequestId}
use Rattle.lease_terms.specs.declared.refusals.Refusal.{Refusal}
use Rattle.lease_terms.specs.declared.refusals.Refusal.TheVariants as refusal
use Rattle.lease_book.specs.Receipts.{ReceiptState}
use Rattle.lease_book.specs.Entry.{Settled, Swept, Grant, Return, Refuse, kept_settlement}
use Rattle.lease_book.specs.Account.{is_lease, lease_of}
use Rattle.lease_book.specs.BookState.{BookState, Enters, account_in, leased_segments}
use Rattle.lease_book.specs.Answers.{receipt, IsNew}
use Rattle.lease_book.specs.declared.books.TheConstants.{MOST_LEASES}
use Rattle.lease_book.specs.declared.receipts.Terms.{Terms}
use Rattle.lease_book.specs.declared.words.SweepEnd.{SweepEnd}
use Rattle.lease_book.specs.declared.words.SweepEnd.TheVariants.{Ended, Welcome}
use Rattle.lease_book.specs.Words.{Greeted}

-- the index of a client's account
pub record IsFound (book : BookState) (c index : ℕ) : Type 0 where
  pub within : index < length book.accounts
  pub at : slice_get book.accounts index ≡ Some (account_in c book)
  pub client : (account_in c book).client ≡ c

-- the new request is settled by a grant
pub record IsGranted (old now : BookState) (id : RequestId) (t : Tag) (terms : Terms)
    (r : ReceiptState) : Type 0 where
  pub new : IsNew (account_in id.client old) id
  pub room : length (account_in id.client old).leases < MOST_LEASES
  pub receipt : r ≡ receipt old id (kept_settlement id.number (Grant t terms))
  pub entry : Enters (Settled id (Grant t terms)) old now
  pub leases : Gains (leased_segments old) (leased_segments now) t

-- the new request is settled by a refusal
pub record IsRefused (old now : BookState) (id : RequestId) (why : Refusal)
    (r : ReceiptState) : Type 0 where
  pub new : IsNew (account_in id.client old) id
  pub receipt : r ≡ receipt old id (kept_settlement id.number (Refuse why))
  pub entry : Enters (Settled id (Refuse why)) old now
  pub leases : leased_segments now ≡ leased_segments old

-- a refusal that the system finds, and not its book
abbrev pub IsSystemRefusal : Refusal → Type 0
IsSystemRefusal refusal.Leases = ⊥
IsSystemRefusal refusal.NotYours = ⊥
IsSystemRefusal why = Unit {0}

-- the new request is settled by the release of a lease, which a request with the number `granted`
-- was granted
pub record IsReleased (old now : BookState) (id : RequestId) (arena base : ℕ)
    (r : ReceiptState) (t : Tag) : Type 0 where
  pub granted : ℕ
  pub new : IsNew (account_in id.client old) id
  pub lease : find (is_lease id.incarnation arena base) (account_in id.client old).leases
      ≡ Some (record { incarnation = id.incarnation; number = granted; segment = t })
  pub of_arena : t.arena ≡ arena
  pub at_base : t.holding.range.base ≡ base
  pub receipt : r ≡ receipt old id (kept_settlement id.number (Return arena base))
  pub entry : Enters (Settled id (Return arena base)) old now
  pub leases : Loses (leased_segments old) (leased_segments now) t

-- the lease that this request was granted ended with no request
pub record IsEnded (old now : BookState) (id : RequestId) (t : Tag) : Type 0 where
  pub lease : find (is_lease id.incarnation t.arena t.holding.range.base)
      (account_in id.client old).leases ≡ Some (lease_of id t)
  pub entry : Enters (Swept id.client id.incarnation t.arena t.holding.range.base) old now
  pub leases : Loses (leased_segments old) (leased_segments now) t

-- a lease of an older incarnation of the client ended
pub record IsSwept (old now : BookState) (c : ℕ) (id : RequestId) (t : Tag) : Type 0 where
  pub client : id.client ≡ c
  pub older : id.incarnation < (account_in c old).incarnation
  pub ended : IsEnded old now id t

-- no lease of an older incarnation of the client is left
abbrev pub IsSweptClean : BookState → ℕ → Type 0
IsSweptClean b c = All (λ l. (account_in c b).incarnation ≤ l.incarnation) (account_in c b).leases

-- a lease of an older incarnation of the hello's client ended, or none is left, and the hello is
-- welcome
abbrev pub IsSweptFor : {D : Type 0} → (old now : BookState) → Greeted → SweepEnd Tag D → Type 0
IsSweptFor old now taken (Ended id t) = IsSwept old now taken.client id t
IsSweptFor old now taken (Welcome w) =
    IsSweptClean old taken.client × (now ≡ old) × (w ≡ taken)
