-- What holds of each member of a list.
use Rattle.std.proofs.Common.{◌≡◌, ◌+◌, length, Some, zero, suc, Bool, true, false, cond, List, [], ◌∷◌, ◌++◌, All, arith}
use Rattle.std.specs.List.{AllByRecursion, find}
use Rattle.lease_book.specs.Account.{without_first}

module _ {X : Type 0} (P : X → Type 0) where
  pub each_without : (test : X → Bool) (xs : List X) → AllByRecursion P xs → AllByRecursion P (without_first test xs)
  each_without test [] all = tt
  each_without test (x ∷ xs) all = by (test x) (each_without test xs all.1)
    where
      by : (b : Bool) → AllByRecursion P (without_first test xs) → AllByRecursion P (cond b xs (x ∷ without_first test xs))
      by true rest = all.1
      by false rest = (all.0, rest)

  pub each_push : (xs : List X) (x : X) → AllByRecursion P xs → P x → AllByRecursion P (xs ++ x ∷ [])
  each_push [] x all here = (here, tt)
  each_push (y ∷ xs) x all here = (all.0, each_push xs x all.1 here)

  pub all_of_each : (xs : List X) → AllByRecursion P xs → All P xs
  all_of_each [] all k d within = absurd (omega arith)
  all_of_each (x ∷ xs) all zero d within = all.0
  all_of_each (x ∷ xs) all (suc k) d within = all_of_each xs all.1 k d (omega arith)

  pub each_of_all : (xs : List X) → All P xs → AllByRecursion P xs
  each_of_all [] all = tt
  each_of_all (x ∷ xs) all = (all zero x (omega arith), each_of_all xs (λ k d within. all (suc k) d (omega (arith, within))))

  pub all_without : (test : X → Bool) (xs : List X) → All P xs → All P (without_first test xs)
  all_without test xs all = all_of_each (without_first test xs) (each_without test xs (each_of_all xs all))

pub each_is : {X : Type 0} (P Q : X → Type 0) (xs : List X) → ((x : X) → P x → Q x) → AllByRecursion P xs → AllByRecursion Q xs
each_is P Q [] so all = tt
each_is P Q (x ∷ xs) so all = (so x all.0, each_is P Q xs so all.1)

-- the list without a member that it has is shorter by one
pub shorter : {X : Type 0} (test : X → Bool) (xs : List X) (x : X) → find test xs ≡ Some x → length (without_first test xs) + 1 ≡ length xs
shorter test [] x found = absurd (cc)
shorter {X} test (y ∷ xs) x found = by (test y) found (shorter test xs x)
  where
    by : (b : Bool) → cond b (Some y) (find test xs) ≡ Some x → (find test xs ≡ Some x → length (without_first test xs) + 1 ≡ length xs)
        → length (cond b xs (y ∷ without_first test xs)) + 1 ≡ length (y ∷ xs)
    by true found rest = omega arith
    by false found rest = omega (arith, rest found)
