-- Facts about lists of any members that std has not.
use Rattle.std.proofs.Common.{◌≡◌, ℕ, ◌-◌, ◌<◌, ◌≤◌, List, [], ◌∷◌, ◌++◌, length, get_or, map, All, AllPairs, refl, arith, length-append}
use Rattle.std.specs.Prelude.{sum_by}
use Rattle.std.specs.List.{flat_map}
use Rattle.std.proofs.lemmas.List.{get_or_append_left, get_or-append_right}
use Rattle.std.proofs.lemmas.List.Sums.{sum_by-cons, sum_by-append}

module _ {X Y : Type 0} where
  -- what a function gives of each member weighs what the members do
  pub sum_by-map : (f : Y → ℕ) (g : X → Y) (xs : List X) → sum_by f (map g xs) ≡ sum_by (λ x. f (g x)) xs
  sum_by-map f g [] = refl
  sum_by-map f g (x ∷ xs) =
      let rest = sum_by-map f g xs in
      omega (arith, rest, sum_by-cons f (g x) (map g xs), sum_by-cons (λ z. f (g z)) x xs)

  -- what lists put end to end weigh
  pub sum_by-flat_map : (f : Y → ℕ) (g : X → List Y) (xs : List X) → sum_by f (flat_map g xs) ≡ sum_by (λ x. sum_by f (g x)) xs
  sum_by-flat_map f g [] = refl
  sum_by-flat_map f g (x ∷ xs) =
      let rest = sum_by-flat_map f g xs in
      omega (arith, rest, sum_by-append f (g x) (flat_map g xs), sum_by-cons (λ z. sum_by f (g z)) x xs)

module _ {X : Type 0} where
  -- what holds of each two members of two lists, and across them, holds of the lists put end to end
  pub AllPairs-append : (R : X → X → Type 0) (xs ys : List X) → AllPairs R xs → AllPairs R ys → All (λ x. All (R x) ys) xs → AllPairs R (xs ++ ys)
  AllPairs-append R xs ys p q cross i j d before within =
      let both : j < length xs → R (get_or xs i d) (get_or xs j d) = p i j d before in
      let neither : length xs ≤ i → j - length xs < length ys → R (get_or ys (i - length xs) d) (get_or ys (j - length xs) d) = λ low below. q (i - length xs) (j - length xs) d (omega arith) below in
      let across : i < length xs → j - length xs < length ys → R (get_or xs i d) (get_or ys (j - length xs) d) = λ left right. cross i d left (j - length xs) d right in
      grind (arith, length-append, get_or_append_left, get_or-append_right, both, neither, across)
