-- Accounts as they are stored: what is kept of each client in a map in order of first hello, and
-- beside it its leases.
use Rattle.std.specs.Prelude.{nat_eq, ◌≡◌, ℕ, suc, zero, ◌≤◌, List, [], ◌∷◌, length, All}
use Rattle.std.specs.Map.{keys_of}
use Rattle.std.specs.List.{IsDistinct}
use Rattle.lease_terms.specs.Ranges.{IsClient}
use Rattle.lease_book.specs.Account.{Lease, Account}
use Rattle.lease_book.specs.Receipts.{Kept}
use Rattle.lease_book.specs.Standings.{StandingState, settled_with}
use Rattle.lease_book.specs.Totals.{IsCounted}
use Rattle.lease_book.specs.declared.books.TheConstants.{MOST_LEASES}
use Rattle.lease_book.specs.declared.totals.Total.{Total}
use Rattle.lease_terms.specs.declared.values.TheConstants.{LAST_CLIENT}

-- none of the leases is of an incarnation before the least
abbrev pub NoneBefore : (least : ℕ) → List Lease → Type 0
NoneBefore least leases = All (λ (l : Lease). least ≤ l.incarnation) leases

-- an account, of its parts
abbrev pub account_with : ℕ → StandingState → List Lease → Account
account_with c s leases = record {
  client = c;
  incarnation = s.incarnation;
  protocol = s.protocol;
  low = s.low;
  kept = s.kept;
  leases = leases;
}

-- the accounts, the leases of each client at its index
abbrev pub accounts_of : List (ℕ × StandingState) → List (List Lease) → List Account
accounts_of [] ls = []
accounts_of (e ∷ es) [] = []
accounts_of (e ∷ es) (l ∷ ls) = account_with e.0 e.1 l ∷ accounts_of es ls

-- there are leases at each client's index, of few clients, each standing once, few of each
pub record IsShelf (es : List (ℕ × StandingState)) (ls : List (List Lease)) : Type 0 where
  pub together : length es ≡ length ls
  pub clients : All IsClient (keys_of es)
  pub apart : IsDistinct nat_eq (keys_of es)
  pub few : length es ≤ LAST_CLIENT
  pub limited : All (λ (l : List Lease). length l ≤ MOST_LEASES) ls

-- no client before this index has a lease
abbrev pub IsEmptyBefore : ℕ → List (List Lease) → Type 0
IsEmptyBefore zero ls = Unit {0}
IsEmptyBefore (suc i) [] = Unit {0}
IsEmptyBefore (suc i) (l ∷ ls) = (l ≡ []) × IsEmptyBefore i ls

-- the accounts as they are stored, none before this index with a lease, and the totals of the
-- arenas
pub record IsStored (es : List (ℕ × StandingState)) (ls : List (List Lease)) (empty : ℕ)
    (totals : List Total) : Type 0 where
  pub shelf : IsShelf es ls
  pub before : IsEmptyBefore empty ls
  pub counted : IsCounted ls totals

-- the list with the member at an index changed
abbrev pub update_at : {X : Type 0} → List X → ℕ → (X → X) → List X
update_at [] i f = []
update_at (x ∷ xs) zero f = f x ∷ xs
update_at (x ∷ xs) (suc i) f = x ∷ update_at xs i f

-- what is kept of a client, its leases apart
abbrev pub standing_of : Account → StandingState
standing_of a = record {
  incarnation = a.incarnation;
  protocol = a.protocol;
  low = a.low;
  kept = a.kept;
}

-- the account with this in its place
abbrev pub with_standing : StandingState → Account → Account
with_standing s a = record {
  client = a.client;
  incarnation = s.incarnation;
  protocol = s.protocol;
  low = s.low;
  kept = s.kept;
  leases = a.leases;
}

-- the account after one more of its numbers was settled, its leases apart
abbrev pub with_settled : Kept → Account → Account
with_settled k a = with_standing (settled_with k (standing_of a)) a

-- the account with its leases changed
abbrev pub with_leases : (List Lease → List Lease) → Account → Account
with_leases f a = record {
  client = a.client;
  incarnation = a.incarnation;
  protocol = a.protocol;
  low = a.low;
  kept = a.kept;
  leases = f a.leases;
}
