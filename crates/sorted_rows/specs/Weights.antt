-- What entries weigh.
use Rattle.std.specs.Prelude.{ℕ, Bool, List, [], ◌∷◌, Option, drop, max, not, nat_lt}
use Rattle.std.specs.List.{find}
use Rattle.sorted_rows.specs.Order.{place_below}

module _ {X : Type 0} (weight : X → ℕ) where
  -- the greatest weight; 0 where there is none
  unfoldable pub greatest_weight : List X → ℕ
  greatest_weight [] = 0
  greatest_weight (x ∷ xs) = max (weight x) (greatest_weight xs)

  -- whether it weighs as much as `least` or more
  abbrev pub weighs : ℕ → X → Bool
  weighs least x = not (nat_lt (weight x) least)

-- the first entry, from the first at or above the key on, that weighs as much as `least` or more
abbrev pub first_heavy_from : {X : Type 0} (rank weight : X → ℕ) → (key least : ℕ)
    → List X → Option X
first_heavy_from rank weight key least xs =
    find (weighs weight least) (drop (place_below rank key xs) xs)
