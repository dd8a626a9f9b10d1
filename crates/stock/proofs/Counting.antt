-- Sums that are counted one member after another.
use Rattle.std.proofs.Common.{◌≡◌, ℕ, ◌+◌, ◌<◌, ◌≤◌, List, length, get_or, take, Some, sym, ap, ◌∙◌, arith}
use Rattle.std.specs.Prelude.{slice_get, sum_by}
use Rattle.std.proofs.lemmas.Option.{get_or_from_slice_get}
use Rattle.std.proofs.lemmas.List.{take_all}
use Rattle.std.proofs.lemmas.List.Sums.{sum_by_more, sum_by_more_le}
use Rattle.deed_core.proofs.LawProofs.{slice_get_some, slice_get_one}
use Rattle.stock.specs.Spaces.{SpaceState, QuantumCacheState, HasCache}

module _ {X : Type 0} (f : X → ℕ) (xs : List X) (i : ℕ) where
  -- all of them
  pub all_counted : length xs ≤ i → sum_by f (take i xs) ≡ sum_by f xs
  all_counted past = ap (sum_by f) (take_all i xs past)

  -- one more
  module _ (x : X) (within : i < length xs) (at : slice_get xs i ≡ Some x) where
    read : get_or xs i x ≡ x
    read = get_or_from_slice_get xs i x x at

    pub one_more : sum_by f (take (i + 1) xs) ≡ sum_by f (take i xs) + f x
    one_more = sum_by_more f xs i x within ∙ ap (λ y. sum_by f (take i xs) + f y) read

    pub one_fits : sum_by f (take i xs) + f x ≤ sum_by f xs
    one_fits = (let le = sum_by_more_le f xs i x within in omega (arith, le, ap f read))

-- a cache stands at each index of an arena's list
pub cache_stands : (spaces : List SpaceState) (k j : ℕ) (s : SpaceState) → slice_get spaces k ≡ Some s → j < length s.caches → HasCache spaces k j
cache_stands spaces k j s at within = (let c = slice_get_some s.caches j within in (c.0, record { space = s; at = at; among = c.1 }))

-- the caches of an arena, one after another
module _ (spaces : List SpaceState) (k j : ℕ) (f : QuantumCacheState → ℕ) (s : SpaceState) (at : slice_get spaces k ≡ Some s) (within : j < length s.caches) (has : HasCache spaces k j) where
  here : slice_get s.caches j ≡ Some has.0
  here =
      let same : has.1.space ≡ s = slice_get_one spaces k has.1.space s has.1.at at in
      ap (λ (x : SpaceState). slice_get x.caches j) (sym same) ∙ has.1.among

  pub cache_more : sum_by f (take (j + 1) s.caches) ≡ sum_by f (take j s.caches) + f has.0
  cache_more = one_more f s.caches j has.0 within here

  pub cache_fits : sum_by f (take j s.caches) + f has.0 ≤ sum_by f s.caches
  cache_fits = one_fits f s.caches j has.0 within here
