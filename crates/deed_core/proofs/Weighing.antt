-- What lists weigh.
use Rattle.std.proofs.Common.{◌≡◌, ℕ, ◌+◌, ◌≤◌, Bool, true, false, not, List, [], ◌∷◌, refl, ap, arith}
use Rattle.std.specs.Prelude.{filter, sum_by, All}
use Rattle.std.proofs.lemmas.List.Sums.{sum_by-cons, sum_by-le-sum_by}
use Rattle.deed_core.specs.Weights.{weight_where}
use Rattle.deed_core.proofs.Sums.{sum_none, sum_alike}
use Rattle.deed_core.proofs.Places.{all_at}

module _ {X : Type 0} where
  -- the members that pass a test
  pub sum_by-filter : (test : X → Bool) (f : X → ℕ) (xs : List X) → sum_by f (filter test xs) ≡ sum_by (weight_where test f) xs
  sum_by-filter test f [] = refl
  sum_by-filter test f (x ∷ xs) = by (test x) refl (sum_by-filter test f xs)
    where
      by : (b : Bool) → test x ≡ b → sum_by f (filter test xs) ≡ sum_by (weight_where test f) xs → sum_by f (filter test (x ∷ xs)) ≡ sum_by (weight_where test f) (x ∷ xs)
      by true is more =
          let here : weight_where test f x ≡ f x = rw is refl in
          let kept : sum_by f (filter test (x ∷ xs)) ≡ sum_by f (x ∷ filter test xs) = rw is refl in
          omega (arith, here, kept, more, sum_by-cons f x (filter test xs), sum_by-cons (weight_where test f) x xs)
      by false is more =
          let here : weight_where test f x ≡ 0 = rw is refl in
          let kept : sum_by f (filter test (x ∷ xs)) ≡ sum_by f (filter test xs) = rw is refl in
          omega (arith, here, kept, more, sum_by-cons (weight_where test f) x xs)

  -- a smaller weight
  pub sum_by-smaller : (f g : X → ℕ) (xs : List X) → ((x : X) → f x ≤ g x) → sum_by f xs ≤ sum_by g xs
  sum_by-smaller f g xs le = sum_by-le-sum_by f g xs le

  only_true : (test : X → Bool) (f : X → ℕ) (x : X) → test x ≡ true → weight_where test f x ≡ f x
  only_true test f x is = rw is refl

  only_false : (test : X → Bool) (f : X → ℕ) (x : X) → test x ≡ false → weight_where test f x ≡ 0
  only_false test f x is = rw is refl

  -- one member is weighed with those that pass a test or with those that fail it
  only_or_not : (test : X → Bool) (f : X → ℕ) (x : X) → f x ≡ weight_where test f x + weight_where (λ y. not (test y)) f x
  only_or_not test f x = by (test x) refl
    where
      by : (b : Bool) → test x ≡ b → f x ≡ weight_where test f x + weight_where (λ y. not (test y)) f x
      by true is = (let no : not (test x) ≡ false = ap not is in omega (arith, only_true test f x is, only_false (λ y. not (test y)) f x no))
      by false is = (let yes : not (test x) ≡ true = ap not is in omega (arith, only_false test f x is, only_true (λ y. not (test y)) f x yes))

  -- both kinds weigh what all do
  pub sum_by-parts : (test : X → Bool) (f : X → ℕ) (xs : List X) → sum_by f xs ≡ sum_by (weight_where test f) xs + sum_by (weight_where (λ x. not (test x)) f) xs
  sum_by-parts test f [] = omega arith
  sum_by-parts test f (x ∷ xs) =
      let rest = sum_by-parts test f xs in
      let here = only_or_not test f x in
      omega (arith, rest, here, sum_by-cons f x xs, sum_by-cons (weight_where test f) x xs, sum_by-cons (weight_where (λ y. not (test y)) f) x xs)

  -- all pass the test
  pub sum_by-only_all : (test : X → Bool) (f : X → ℕ) (xs : List X) → All (λ x. test x ≡ true) xs → sum_by (weight_where test f) xs ≡ sum_by f xs
  sum_by-only_all test f xs all = sum_alike (weight_where test f) f xs (λ k x at. only_true test f x (all_at (λ y. test y ≡ true) xs k x all at))

  -- none does
  pub sum_by-only_none : (test : X → Bool) (f : X → ℕ) (xs : List X) → All (λ x. test x ≡ false) xs → sum_by (weight_where test f) xs ≡ 0
  sum_by-only_none test f xs none = sum_none (weight_where test f) xs (λ k x at. only_false test f x (all_at (λ y. test y ≡ false) xs k x none at))
