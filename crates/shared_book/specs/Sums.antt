-- What those who watch a running system are told of its book, as looks under its lock found it.
use Rattle.std.specs.Prelude.{◌≡◌, ℕ, zero, suc, ◌+◌, ◌-◌, ◌*◌, ◌/◌, ◌^◌, min, List, length}
use Rattle.std.specs.Prelude.{slice_get}
use Rattle.std.specs.Prelude.{Option, Some, None}
use Rattle.lease_book.specs.Account.{Account}
use Rattle.lease_book.specs.BookState.{BookState, HasHistory}
use Rattle.shared_book.specs.declared.sums.BookSums.{BookSums}
use Rattle.shared_book.specs.declared.sums.TheConstants.{CLIENTS_A_LOOK}

-- it is so of some book that entries give
abbrev pub OfSomeBook : (BookState → Type 0) → Type 0
OfSomeBook P = (book : BookState) × HasHistory book × P book

-- how many leases the account has, if there is one
abbrev pub leases_of : Option Account → ℕ
leases_of None = 0
leases_of (Some a) = length a.leases

-- and how many the accounts have together at so many indexes from one on
abbrev pub leases_from : List Account → (from count : ℕ) → ℕ
leases_from accounts from zero = 0
leases_from accounts from (suc n) = leases_from accounts from n
    + leases_of (slice_get accounts (from + n))

-- the look with this number counts those of its clients; it stays at the greatest number
abbrev pub LookTells : (look leases : ℕ) → Type 0
LookTells look leases = OfSomeBook (λ b. leases
    ≡ min (leases_from b.accounts (look * CLIENTS_A_LOOK) CLIENTS_A_LOOK) (2 ^ 64 - 1))

-- what so many looks told is added up, each of some book
abbrev pub LooksTell : (looks leases : ℕ) → Type 0
LooksTell zero leases = leases ≡ 0
LooksTell (suc n) leases = (before one : ℕ) × LooksTell n before
    × LookTells n one × (leases ≡ min (before + one) (2 ^ 64 - 1))

-- the sums of the book: its clients at one look, and the leases of these by further ones
pub record AreBookSums (s : BookSums) : Type 0 where
  pub clients : OfSomeBook (λ b. s.clients ≡ length b.accounts)
  pub leases : LooksTell ((s.clients + (CLIENTS_A_LOOK - 1)) / CLIENTS_A_LOOK) s.leases
