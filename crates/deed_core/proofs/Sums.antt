-- Sums over lists: no member counts, one does, some do, or all do alike.
use Rattle.std.proofs.Common.{◌≡◌, ◌≢◌, ℕ, suc, zero, ◌+◌, ◌<◌, ◌≤◌, ◌↔◌, Bool, true, false, cond, All, Contains, refl, ap, inl, inr, List, [], ◌∷◌, get_or, Some, None, arith}
use Rattle.std.specs.Prelude.{slice_get, sum_by, count_by}
use Rattle.std.proofs.lemmas.Bool.{cases_eq}
use Rattle.std.proofs.lemmas.List.Sums.{sum_by-cons, get_or-le-sum_by}
use Rattle.std.proofs.lemmas.Option.{slice_get_within, get_or_from_slice_get}
use Rattle.deed_core.proofs.Places.{all_at, all_from, contains_at}

module _ {X : Type 0} (f : X → ℕ) where
  -- nothing counts
  pub sum_none : (xs : List X) → ((k : ℕ) (x : X) → slice_get xs k ≡ Some x → f x ≡ 0) → sum_by f xs ≡ 0
  sum_none [] none = refl
  sum_none (x ∷ xs) none =
      let here = none zero x refl in
      let rest = sum_none xs (λ k y at. none (suc k) y at) in
      omega (arith, here, rest, sum_by-cons f x xs)

  -- one member alone does
  pub sum_at : (xs : List X) (k : ℕ) (x : X) → slice_get xs k ≡ Some x → ((j : ℕ) (y : X) → slice_get xs j ≡ Some y → j ≢ k → f y ≡ 0) → sum_by f xs ≡ f x
  sum_at [] k x at none = absurd (let e : None ≡ Some x = at in cc)
  sum_at (z ∷ xs) zero x at none =
      let rest = sum_none xs (λ j y there. none (suc j) y there (λ e. (omega (arith, e)))) in
      let is : z ≡ x = (let e : Some z ≡ Some x = at in cc) in
      omega (arith, rest, ap f is, sum_by-cons f z xs)
  sum_at (z ∷ xs) (suc k) x at none =
      let here = none zero z refl (λ e. (omega (arith, e))) in
      let rest = sum_at xs k x at (λ j y there ne. none (suc j) y there (λ e. ne (omega (arith, e)))) in
      omega (arith, here, rest, sum_by-cons f z xs)

  -- some member does
  pub sum_some : (xs : List X) → 0 < sum_by f xs → (k : ℕ) × (x : X) × (slice_get xs k ≡ Some x) × (0 < f x)
  sum_some [] some = absurd (omega (arith, some))
  sum_some (x ∷ xs) some = elim (cases_eq (f x) 0) [
    | inl none ↦
        let rest = sum_some xs (omega (arith, none, some, sum_by-cons f x xs)) in
        (suc rest.0, rest.1, rest.2, rest.3)
    | inr here ↦ (zero, x, refl, omega (arith, here))
  ]

  pub contained_some : (xs : List X) → 0 < sum_by f xs → (x : X) × Contains xs x × (0 < f x)
  contained_some xs some = let there = sum_some xs some in (there.1, contains_at xs there.0 there.1 there.2, there.3)

  -- each member is part of the sum
  pub part_of_sum : (xs : List X) (k : ℕ) (x : X) → slice_get xs k ≡ Some x → f x ≤ sum_by f xs
  part_of_sum xs k x at =
      let le = get_or-le-sum_by f xs k x (slice_get_within xs k x at) in
      let is : f (get_or xs k x) ≡ f x = ap f (get_or_from_slice_get xs k x x at) in
      omega (arith, le, is)

  pub contained_in_sum : (xs : List X) (x : X) → Contains xs x → f x ≤ sum_by f xs
  contained_in_sum xs x has =
      let le = get_or-le-sum_by f xs has.0 x has.1 in
      let is : f (get_or xs has.0 x) ≡ f x = ap f has.2 in
      omega (arith, le, is)

  -- where the sum is 0, each member weighs nothing
  pub counts_none : (xs : List X) (x : X) → sum_by f xs ≡ 0 → Contains xs x → f x ≡ 0
  counts_none xs x none has = (let le = contained_in_sum xs x has in omega (arith, le, none))

-- two weights that are alike at each member
pub sum_alike : {X : Type 0} (f g : X → ℕ) (xs : List X) → ((k : ℕ) (x : X) → slice_get xs k ≡ Some x → f x ≡ g x) → sum_by f xs ≡ sum_by g xs
sum_alike f g [] same = refl
sum_alike f g (x ∷ xs) same =
    let here = same zero x refl in
    let rest = sum_alike f g xs (λ k y at. same (suc k) y at) in
    omega (arith, here, rest, sum_by-cons f x xs, sum_by-cons g x xs)

-- two weights added
pub sum_add : {X : Type 0} (f g : X → ℕ) (xs : List X) → sum_by (λ x. f x + g x) xs ≡ sum_by f xs + sum_by g xs
sum_add f g [] = omega arith
sum_add f g (x ∷ xs) = let rest = sum_add f g xs in omega (arith, rest, sum_by-cons f x xs, sum_by-cons g x xs, sum_by-cons (λ y. f y + g y) x xs)

-- a sum that is counted or not
pub sum_if : {X : Type 0} (b : Bool) (g : X → ℕ) (xs : List X) → sum_by (λ x. cond b (g x) 0) xs ≡ cond b (sum_by g xs) 0
sum_if true g xs = refl
sum_if false g xs = sum_none (λ x. 0) xs (λ k x at. refl)

-- none is such exactly where such ones count 0
pub count_by-none : {X : Type 0} (test : X → Bool) (xs : List X) → (count_by test xs ≡ 0) ↔ All (λ x. test x ≡ false) xs
count_by-none test xs = (there, back)
  where
    one : (b : Bool) → cond b 1 zero ≡ zero → b ≡ false
    one true e = absurd (let some : 1 ≡ zero = e in omega (arith, some))
    one false e = refl

    there : count_by test xs ≡ 0 → All (λ x. test x ≡ false) xs
    there none = all_from (λ x. test x ≡ false) xs (λ k x at. one (test x) (let le = part_of_sum (λ y. cond (test y) 1 zero) xs k x at in omega (arith, le, none)))

    back : All (λ x. test x ≡ false) xs → count_by test xs ≡ 0
    back all = sum_none (λ x. cond (test x) 1 zero) xs (λ k x at. let no = all_at (λ y. test y ≡ false) xs k x all at in rw no refl)
