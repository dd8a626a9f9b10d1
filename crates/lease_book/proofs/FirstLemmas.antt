-- The first member that passes a test, by its index.
use Rattle.std.proofs.Common.{one-add, ◌≡◌, ℕ, zero, suc, ◌+◌, ◌<◌, Bool, true, false, cond, not, ◌||◌, List, [], ◌∷◌, ◌++◌, length, drop, Some, None, is_some, slice_get, position, refl, sym, ap, ◌∙◌, arith}
use Rattle.std.specs.List.{find, remove, list_any, position_or_len, position_from}
use Rattle.std.specs.Option.{option_map}
use Rattle.std.proofs.lemmas.Iterator.Adapters.{position_from-zero}
use Rattle.std.proofs.lemmas.List.Folds.{find_at}
use Rattle.std.proofs.lemmas.Option.{slice_get_past}
use Rattle.lease_book.specs.Account.{without_first}
use Rattle.lease_book.proofs.PlaceLemmas.{position-some, position-none}

-- the list without its first member that passes
without_place : {X : Type 0} (test : X → Bool) (xs : List X) → position_or_len test xs < length xs → without_first test xs ≡ remove xs (position_or_len test xs)
without_place test [] within = absurd (omega arith)
without_place {X} test (x ∷ xs) within = by (test x) within (without_place test xs)
  where
    by : (b : Bool) → cond (not b) (1 + position_or_len test xs) 0 < length (x ∷ xs) → (position_or_len test xs < length xs → without_first test xs ≡ remove xs (position_or_len test xs))
        → cond b xs (x ∷ without_first test xs) ≡ remove (x ∷ xs) (cond (not b) (1 + position_or_len test xs) 0)
    by true within rest = refl
    by false within rest = rw one-add (ap (λ (ys : List X). x ∷ ys) (rest (omega arith)))

-- what the index of the first that passes tells
pub record IsFirst {X : Type 0} (test : X → Bool) (xs : List X) (k : ℕ) : Type 0 where
  pub found : find test xs ≡ slice_get xs k
  pub left : without_first test xs ≡ remove xs k

pub first_of : {X : Type 0} (test : X → Bool) (xs : List X) (k : ℕ) → position test xs ≡ Some k → IsFirst test xs k
first_of test xs k at =
    let is = position-some test xs k at in
    let less : position_or_len test xs < length xs = omega (arith, is.0, is.1) in
    record {
      found = find_at test xs ∙ ap (slice_get xs) is.0;
      left = without_place test xs less ∙ ap (remove xs) is.0;
    }

pub none_of : {X : Type 0} (test : X → Bool) (xs : List X) → position test xs ≡ None → find test xs ≡ None
none_of test xs at = find_at test xs ∙ slice_get_past xs _ (position-none test xs at)

-- where none is found the list is as it was
pub without_none : {X : Type 0} (test : X → Bool) (xs : List X) → find test xs ≡ None → without_first test xs ≡ xs
without_none test [] none = refl
without_none {X} test (x ∷ xs) none = by (test x) none (without_none test xs)
  where
    by : (b : Bool) → cond b (Some x) (find test xs) ≡ None → (find test xs ≡ None → without_first test xs ≡ xs) → cond b xs (x ∷ without_first test xs) ≡ x ∷ xs
    by true none rest = absurd (cc)
    by false none rest = ap (λ (ys : List X). x ∷ ys) (rest none)

-- in two lists one after the other
pub found_left : {X : Type 0} (test : X → Bool) (xs ys : List X) (x : X) → find test xs ≡ Some x
    → (find test (xs ++ ys) ≡ Some x) × (without_first test (xs ++ ys) ≡ without_first test xs ++ ys)
found_left test [] ys x found = absurd (cc)
found_left {X} test (z ∷ xs) ys x found = by (test z) found (found_left test xs ys x)
  where
    by : (b : Bool) → cond b (Some z) (find test xs) ≡ Some x
        → (find test xs ≡ Some x → (find test (xs ++ ys) ≡ Some x) × (without_first test (xs ++ ys) ≡ without_first test xs ++ ys))
        → (cond b (Some z) (find test (xs ++ ys)) ≡ Some x) × (cond b (xs ++ ys) (z ∷ without_first test (xs ++ ys)) ≡ cond b xs (z ∷ without_first test xs) ++ ys)
    by true found rest = (found, refl)
    by false found rest = ((rest found).0, ap (λ (zs : List X). z ∷ zs) (rest found).1)

pub found_right : {X : Type 0} (test : X → Bool) (xs ys : List X) → find test xs ≡ None
    → (find test (xs ++ ys) ≡ find test ys) × (without_first test (xs ++ ys) ≡ xs ++ without_first test ys)
found_right test [] ys none = (refl, refl)
found_right {X} test (z ∷ xs) ys none = by (test z) none (found_right test xs ys)
  where
    by : (b : Bool) → cond b (Some z) (find test xs) ≡ None
        → (find test xs ≡ None → (find test (xs ++ ys) ≡ find test ys) × (without_first test (xs ++ ys) ≡ xs ++ without_first test ys))
        → (cond b (Some z) (find test (xs ++ ys)) ≡ find test ys) × (cond b (xs ++ ys) (z ∷ without_first test (xs ++ ys)) ≡ z ∷ (xs ++ without_first test ys))
    by true none rest = absurd (cc)
    by false none rest = ((rest none).0, ap (λ (zs : List X). z ∷ zs) (rest none).1)

-- a search finds something just where a member passes
pub any_found : {X : Type 0} (test : X → Bool) (xs : List X) → is_some (position test xs) ≡ list_any test xs
any_found {X} test xs = ap (λ o. is_some o) (position_from-zero test xs) ∙ from 0 xs
  where
    from : (i : ℕ) (ys : List X) → is_some (position_from test i ys) ≡ list_any test ys
    from i [] = refl
    from i (y ∷ ys) = by (test y) (from (i + 1) ys)
      where
        by : (b : Bool) → is_some (position_from test (i + 1) ys) ≡ list_any test ys → is_some (cond b (Some i) (position_from test (i + 1) ys)) ≡ (b || list_any test ys)
        by true rest = refl
        by false rest = rest

-- whether the first n members fail a test
abbrev pub FailBefore : {X : Type 0} → (X → Bool) → ℕ → List X → Type 0
FailBefore {X} test n xs = (k : ℕ) (x : X) → slice_get xs k ≡ Some x → k < n → test x ≡ false

-- a search goes past members that fail
goes_past : {X : Type 0} (test : X → Bool) (n i : ℕ) (xs : List X) → FailBefore test n xs → position_from test i xs ≡ position_from test (i + n) (drop n xs)
goes_past test zero i xs fail = ap (λ j. position_from test j xs) (omega arith)
goes_past test (suc n) i [] fail = refl
goes_past test (suc n) i (x ∷ xs) fail =
    rw (fail 0 x refl (omega arith)) (goes_past test n (i + 1) xs (λ k y at low. fail (suc k) y at (omega arith)) ∙ ap (λ j. position_from test j (drop n xs)) (omega arith))

-- a search that counts from n on finds an index greater by n
counts_on : {X : Type 0} (test : X → Bool) (n i : ℕ) (xs : List X) → position_from test (i + n) xs ≡ option_map (λ j. n + j) (position_from test i xs)
counts_on test n i [] = refl
counts_on test n i (x ∷ xs) = by (test x) (counts_on test n (i + 1) xs)
  where
    by : (b : Bool) → position_from test (i + 1 + n) xs ≡ option_map (λ j. n + j) (position_from test (i + 1) xs)
        → cond b (Some (i + n)) (position_from test (i + n + 1) xs) ≡ option_map (λ j. n + j) (cond b (Some i) (position_from test (i + 1) xs))
    by true rest = ap (λ j. Some j) (omega arith)
    by false rest = ap (λ j. position_from test j xs) (omega arith) ∙ rest

-- where the first n members fail, a search may begin behind them
pub position_behind : {X : Type 0} (test : X → Bool) (n : ℕ) (xs : List X) → FailBefore test n xs → position test xs ≡ option_map (λ i. n + i) (position test (drop n xs))
position_behind test n xs fail =
    position_from-zero test xs ∙ goes_past test n 0 xs fail ∙ counts_on test n 0 (drop n xs)
    ∙ ap (λ o. option_map (λ i. n + i) o) (sym (position_from-zero test (drop n xs)))
