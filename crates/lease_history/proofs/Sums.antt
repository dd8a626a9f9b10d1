-- What lists weigh, and what is found in them.
use Rattle.std.proofs.Common.{◌≡◌, ◌⊎◌, inl, inr, ℕ, zero, suc, ◌+◌, ◌≤◌, ◌||◌, Bool, true, false, not, cond, List, [], ◌∷◌, ◌++◌, filter, Some, None, sum_by, refl, ◌∙◌, arith}
use Rattle.std.specs.List.{All, find, list_any}
use Rattle.std.proofs.lemmas.Bool.{false≢true}
use Rattle.std.proofs.lemmas.List.Sums.{sum_by-cons, sum_by-append}
use Rattle.lease_book.specs.Account.{without_first}

pub sum_one : {X : Type 0} (f : X → ℕ) (x : X) → sum_by f (x ∷ []) ≡ f x
sum_one f x = omega arith

pub sum_push : {X : Type 0} (f : X → ℕ) (xs : List X) (x : X) → sum_by f (xs ++ x ∷ []) ≡ sum_by f xs + f x
sum_push f xs x = omega (arith, sum_by-append f xs (x ∷ []), sum_one f x)

pub sum_le : {X : Type 0} (f g : X → ℕ) → ((x : X) → f x ≤ g x) → (xs : List X) → sum_by f xs ≤ sum_by g xs
sum_le f g le [] = omega arith
sum_le f g le (x ∷ xs) = omega (arith, sum_le f g le xs, le x, sum_by-cons f x xs, sum_by-cons g x xs)

-- where each member weighs nothing by one measure, and by the next no more than by the last
pub sum_where : {X : Type 0} (g f h : X → ℕ) → ((x : X) → g x ≡ 0 → f x ≤ h x) → (xs : List X) → sum_by g xs ≡ 0
    → sum_by f xs ≤ sum_by h xs
sum_where g f h le [] none = omega arith
sum_where g f h le (x ∷ xs) none =
    let sum = sum_by-cons g x xs in
    let here : g x ≡ 0 = omega (arith, none, sum) in
    let rest : sum_by g xs ≡ 0 = omega (arith, none, sum) in
    omega (arith, le x here, sum_where g f h le xs rest, sum_by-cons f x xs, sum_by-cons h x xs)

pub sum_zero : {X : Type 0} (f : X → ℕ) → ((x : X) → f x ≡ 0) → (xs : List X) → sum_by f xs ≡ 0
sum_zero f none [] = omega arith
sum_zero f none (x ∷ xs) = omega (arith, none x, sum_zero f none xs, sum_by-cons f x xs)

pub sum_none : {X : Type 0} (P : X → Type 0) (f : X → ℕ) → ((x : X) → P x → f x ≡ 0) → (xs : List X) → All P xs → sum_by f xs ≡ 0
sum_none P f none [] all = omega arith
sum_none P f none (x ∷ xs) all =
    omega (arith, none x (all 0 x (omega arith)), sum_none P f none xs (λ k d low. all (suc k) d (omega (arith, low))), sum_by-cons f x xs)

pub none_or_some : (n : ℕ) → (n ≡ 0) ⊎ (1 ≤ n)
none_or_some zero = inl refl
none_or_some (suc n) = inr (omega arith)

-- What is taken out.

pub without_keeps : {X : Type 0} (f : X → ℕ) (test : X → Bool) (xs : List X) → ((x : X) → test x ≡ true → f x ≡ 0)
    → sum_by f (without_first test xs) ≡ sum_by f xs
without_keeps f test [] none = refl
without_keeps f test (x ∷ xs) none = by (test x) refl (without_keeps f test xs none)
  where
    by : (b : Bool) → test x ≡ b → sum_by f (without_first test xs) ≡ sum_by f xs
        → sum_by f (cond b xs (x ∷ without_first test xs)) ≡ sum_by f (x ∷ xs)
    by true is rest = omega (arith, none x is, sum_by-cons f x xs)
    by false is rest = omega (arith, rest, sum_by-cons f x xs, sum_by-cons f x (without_first test xs))

pub without_less : {X : Type 0} (f : X → ℕ) (test : X → Bool) (xs : List X) → sum_by f (without_first test xs) ≤ sum_by f xs
without_less f test [] = omega arith
without_less f test (x ∷ xs) = by (test x) (without_less f test xs)
  where
    by : (b : Bool) → sum_by f (without_first test xs) ≤ sum_by f xs → sum_by f (cond b xs (x ∷ without_first test xs)) ≤ sum_by f (x ∷ xs)
    by true rest = omega (arith, sum_by-cons f x xs)
    by false rest = omega (arith, rest, sum_by-cons f x xs, sum_by-cons f x (without_first test xs))

-- what is taken out weighs no more than this
pub without_most : {X : Type 0} (f : X → ℕ) (most : ℕ) (test : X → Bool) (xs : List X) → ((x : X) → test x ≡ true → f x ≤ most)
    → sum_by f xs ≤ sum_by f (without_first test xs) + most
without_most f most test [] le = omega arith
without_most f most test (x ∷ xs) le = by (test x) refl (without_most f most test xs le)
  where
    by : (b : Bool) → test x ≡ b → sum_by f xs ≤ sum_by f (without_first test xs) + most
        → sum_by f (x ∷ xs) ≤ sum_by f (cond b xs (x ∷ without_first test xs)) + most
    by true is rest = omega (arith, le x is, sum_by-cons f x xs)
    by false is rest = omega (arith, rest, sum_by-cons f x xs, sum_by-cons f x (without_first test xs))

pub filter_le : {X : Type 0} (f : X → ℕ) (test : X → Bool) (xs : List X) → sum_by f (filter test xs) ≤ sum_by f xs
filter_le f test [] = omega arith
filter_le f test (x ∷ xs) = by (test x) (filter_le f test xs)
  where
    by : (b : Bool) → sum_by f (filter test xs) ≤ sum_by f xs → sum_by f (cond b (x ∷ filter test xs) (filter test xs)) ≤ sum_by f (x ∷ xs)
    by true le = omega (arith, sum_by-cons f x xs, sum_by-cons f x (filter test xs))
    by false le = omega (arith, le, sum_by-cons f x xs)

pub filter_keeps : {X : Type 0} (f : X → ℕ) (test : X → Bool) (xs : List X) → ((x : X) → test x ≡ true → f x ≡ 0)
    → sum_by f (filter (λ x. not (test x)) xs) ≡ sum_by f xs
filter_keeps f test [] none = refl
filter_keeps f test (x ∷ xs) none = by (test x) refl (filter_keeps f test xs none)
  where
    by : (b : Bool) → test x ≡ b → sum_by f (filter (λ y. not (test y)) xs) ≡ sum_by f xs
        → sum_by f (cond (not b) (x ∷ filter (λ y. not (test y)) xs) (filter (λ y. not (test y)) xs)) ≡ sum_by f (x ∷ xs)
    by true is rest = omega (arith, rest, none x is, sum_by-cons f x xs)
    by false is rest = omega (arith, rest, sum_by-cons f x xs, sum_by-cons f x (filter (λ y. not (test y)) xs))

-- at least one is taken out that weighs this
pub filter_gives : {X : Type 0} (f : X → ℕ) (weight : ℕ) (test : X → Bool) (xs : List X) → ((x : X) → test x ≡ true → f x ≡ weight)
    → list_any test xs ≡ true → sum_by f (filter (λ x. not (test x)) xs) + weight ≤ sum_by f xs
filter_gives f weight test [] weighs any = absurd (false≢true any)
filter_gives f weight test (x ∷ xs) weighs any = by (test x) refl any (filter_gives f weight test xs weighs)
  where
    by : (b : Bool) → test x ≡ b → (b || list_any test xs) ≡ true → (list_any test xs ≡ true → sum_by f (filter (λ y. not (test y)) xs) + weight ≤ sum_by f xs)
        → sum_by f (cond (not b) (x ∷ filter (λ y. not (test y)) xs) (filter (λ y. not (test y)) xs)) + weight ≤ sum_by f (x ∷ xs)
    by true is any rest = omega (arith, weighs x is, filter_le f (λ x. not (test x)) xs, sum_by-cons f x xs)
    by false is any rest = omega (arith, rest any, sum_by-cons f x xs, sum_by-cons f x (filter (λ y. not (test y)) xs))

-- What is found.

pub find_kept : {X : Type 0} (test keep : X → Bool) (xs : List X) (x : X) → find test xs ≡ Some x → keep x ≡ true → find test (filter keep xs) ≡ Some x
find_kept test keep [] x found is = absurd cc
find_kept test keep (y ∷ xs) x found is = by (test y) (keep y) refl refl found (find_kept test keep xs x)
  where
    by : (t k : Bool) → test y ≡ t → keep y ≡ k → cond t (Some y) (find test xs) ≡ Some x → (find test xs ≡ Some x → keep x ≡ true → find test (filter keep xs) ≡ Some x)
        → find test (cond k (y ∷ filter keep xs) (filter keep xs)) ≡ Some x
    by true true tests kept found rest = (λ j. cond (tests j) (Some y) (find test (filter keep xs))) ∙ found
    by true false tests kept found rest = absurd (let same : y ≡ x = cc in cc)
    by false true tests kept found rest = (λ j. cond (tests j) (Some y) (find test (filter keep xs))) ∙ rest found is
    by false false tests kept found rest = rest found is

pub find_last : {X : Type 0} (test : X → Bool) (xs : List X) (x : X) → find test xs ≡ None → test x ≡ true → find test (xs ++ x ∷ []) ≡ Some x
find_last test [] x none is = λ j. cond (is j) (Some x) None
find_last test (y ∷ xs) x none is = by (test y) none (find_last test xs x)
  where
    by : (t : Bool) → cond t (Some y) (find test xs) ≡ None → (find test xs ≡ None → test x ≡ true → find test (xs ++ x ∷ []) ≡ Some x)
        → cond t (Some y) (find test (xs ++ x ∷ [])) ≡ Some x
    by true none rest = absurd cc
    by false none rest = rest none is
