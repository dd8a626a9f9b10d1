-- How many units of each arena are leased.
use Rattle.std.specs.Prelude.{◌≡◌, ℕ, ◌+◌, ◌==◌, if◌then◌else◌, List, [], ◌∷◌, All, sum_by}
use Rattle.deed_core.specs.Extent.{IsRange}
use Rattle.lease_book.specs.Account.{Lease}
use Rattle.lease_book.specs.BookState.{units_of_lease}
use Rattle.lease_book.specs.declared.totals.Total.{Total}

-- the total of an arena, or 0 where it has none
abbrev pub total_of : ℕ → List Total → ℕ
total_of arena [] = 0
total_of arena (t ∷ totals) = if t.arena == arena then t.units else total_of arena totals

-- these totals count so many units of the arena more than those, and of no other
abbrev pub CountMore : (arena units : ℕ) → (these those : List Total) → Type 0
CountMore arena units these those = (other : ℕ)
    → total_of other these ≡ total_of other those + (if arena == other then units else 0)

-- each of the leases is of a range
abbrev pub AreRanges : List Lease → Type 0
AreRanges leases = All (λ (l : Lease). IsRange l.segment.holding.range) leases

-- the units of the arena in the leases of all clients
abbrev pub units_leased : ℕ → List (List Lease) → ℕ
units_leased arena leases = sum_by (λ l. sum_by (units_of_lease arena) l) leases

-- the totals are those of these leases
pub record IsCounted (leases : List (List Lease)) (totals : List Total) : Type 0 where
  pub ranges : All AreRanges leases
  pub sums : (arena : ℕ) → total_of arena totals ≡ units_leased arena leases
