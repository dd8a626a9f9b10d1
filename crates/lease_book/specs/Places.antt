-- A client's leases in places, and the chains of places by which a lease is found.
use Rattle.std.specs.Prelude.{◌≡◌, ℕ, ◌*◌, ◌/◌, ◌%◌, ◌^◌, ◌<◌, ◌≤◌, Bool, true, false}
use Rattle.std.specs.Prelude.{List, Option, Some, None, length, slice_get, take}
use Rattle.std.specs.Prelude.{filter_map}
use Rattle.lease_book.specs.Account.{Lease, is_lease, is_older}
use Rattle.lease_book.specs.declared.leases.Which.{Which}
use Rattle.lease_book.specs.declared.leases.Which.TheVariants as which
use Rattle.lease_book.specs.declared.places.TheConstants.{SPREAD}

-- a place: its lease, where that wasn't taken out, the number of its chain, and an index that the
-- leases before it on the chain stand before
pub record PlaceState : Type 0 where
  pub lease : Option Lease
  pub chain : ℕ
  pub before : ℕ

-- the places, and for each chain an index that its leases stand before
pub record PlacesState : Type 0 where
  pub places : List PlaceState
  pub ends : List ℕ

-- the leases that stand there, in order
abbrev pub leases_in : List PlaceState → List Lease
leases_in places = filter_map (λ (p : PlaceState). p.lease) places

-- whether a lease is one of those that are asked for
abbrev pub is_asked : Which → Lease → Bool
is_asked (which.At id arena base) l = is_lease id.incarnation arena base l
is_asked (which.Before incarnation) l = is_older incarnation l
is_asked which.Any l = true

-- whether such a lease stands in a place
abbrev pub holds : (Lease → Bool) → Option Lease → Bool
holds test None = false
holds test (Some l) = test l

-- the chain of a base, of so many
abbrev pub chain_of : ℕ → ℕ → ℕ
chain_of base chains = base * SPREAD % 2 ^ 64 / 2 ^ 32 * chains / 2 ^ 32

-- the places on a chain that hold a lease all stand before an index
abbrev pub EndsBefore : (chain end : ℕ) → List PlaceState → Type 0
EndsBefore chain end places = (k : ℕ) (p : PlaceState) (l : Lease)
    → slice_get places k ≡ Some p → p.lease ≡ Some l → p.chain ≡ chain → k < end

-- the places before an index are empty
abbrev pub EmptyBefore : ℕ → List PlaceState → Type 0
EmptyBefore end places = (k : ℕ) (p : PlaceState)
    → slice_get places k ≡ Some p → k < end → p.lease ≡ None

-- each lease is on the chain of its base, and the chains, which end among the places, lead to all
-- their leases
pub record IsChained (s : PlacesState) : Type 0 where
  pub own : (k : ℕ) (p : PlaceState) (l : Lease) → slice_get s.places k ≡ Some p
      → p.lease ≡ Some l → p.chain ≡ chain_of l.segment.holding.range.base (length s.ends)
  pub within : (k : ℕ) (p : PlaceState) → slice_get s.places k ≡ Some p
      → p.chain < length s.ends
  pub inside : (chain end : ℕ) → slice_get s.ends chain ≡ Some end → end ≤ length s.places
  pub ends : (chain end : ℕ) → slice_get s.ends chain ≡ Some end
      → EndsBefore chain end s.places
  pub before : (k : ℕ) (p : PlaceState) → slice_get s.places k ≡ Some p
      → EndsBefore p.chain p.before (take k s.places)
