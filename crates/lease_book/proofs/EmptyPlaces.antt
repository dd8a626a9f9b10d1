-- Places of which the first ones are empty.
use Rattle.std.proofs.Common.{◌≡◌, ℕ, ◌+◌, ◌≤◌, inl, inr, Bool, false, List, [], ◌∷◌, ◌++◌, length, drop, Option, Some, None, is_some, position, refl, sym, ap, ◌∙◌, arith}
use Rattle.std.specs.Option.{option_map}
use Rattle.std.proofs.Math.ListN.{set}
use Rattle.std.proofs.lemmas.List.Quantifiers.{position-Some}
use Rattle.std.proofs.lemmas.Option.{get_or_from_slice_get}
use Rattle.lease_book.proofs.FirstLemmas.{position_behind}
use Rattle.lease_book.proofs.PlaceLemmas.{position-some}
use Rattle.lease_book.proofs.PlacesLemmas.{of_push, of_set, emptied}
use Rattle.lease_book.specs.Account.{Lease}
use Rattle.lease_book.specs.Places.{PlaceState, EmptyBefore}

-- a search for a lease may begin behind places that are empty
pub lease_behind : (test : Option Lease → Bool) (n : ℕ) (places : List PlaceState) → test None ≡ false → EmptyBefore n places
    → position (λ (p : PlaceState). test p.lease) places ≡ option_map (λ i. n + i) (position (λ (p : PlaceState). test p.lease) (drop n places))
lease_behind test n places fails empty = position_behind (λ (p : PlaceState). test p.lease) n places (λ k p stands low. ap test (empty k p stands low) ∙ fails)

-- the places before the first lease are empty
pub before_first : (places : List PlaceState) (n : ℕ) → position (λ (p : PlaceState). is_some p.lease) places ≡ Some n → (n ≤ length places) × EmptyBefore n places
before_first places n at = (
  omega (arith, (position-some (λ (p : PlaceState). is_some p.lease) places n at).1),
  λ k p stands low.
      let fails = (position-Some (λ (q : PlaceState). is_some q.lease) places n p at).2 k low in
      none_of p.lease (ap (λ (q : PlaceState). is_some q.lease) (sym (get_or_from_slice_get places k p p stands)) ∙ fails),
)
  where
    none_of : (o : Option Lease) → is_some o ≡ false → o ≡ None
    none_of None fails = refl
    none_of (Some l) fails = absurd (cc)

-- empty places stay so where one more is put behind them
pub empty_push : (n : ℕ) (places : List PlaceState) (p : PlaceState) → n ≤ length places → EmptyBefore n places → EmptyBefore n (places ++ p ∷ [])
empty_push n places p within empty k q stands low = elim (of_push places p k q stands) [
  | inl old ↦ empty k q old low
  | inr here ↦ absurd (omega (arith, here.0, within, low))
]

-- and where one is emptied
pub empty_take : (n : ℕ) (places : List PlaceState) (i : ℕ) (p : PlaceState) → EmptyBefore n places → EmptyBefore n (set places i (emptied p))
empty_take n places i p empty k q stands low = elim (of_set places i (emptied p) k q stands) [
  | inl old ↦ empty k q old low
  | inr here ↦ sym (ap (λ (r : PlaceState). r.lease) here.1)
]
