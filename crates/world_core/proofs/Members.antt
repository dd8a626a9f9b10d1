-- Members of lists, as lists grow and change.
use Rattle.std.proofs.Common.{◌≡◌, ◌≢◌, ℕ, zero, suc, ◌+◌, false, List, [], ◌∷◌, ◌++◌, map, set, take, Some, None, refl, sym, subst, ap, ◌∙◌, inl, inr, arith}
use Rattle.std.specs.Prelude.{slice_get, nat_eq}
use Rattle.std.specs.List.{IsDistinct, AllByRecursion}
use Rattle.std.proofs.lemmas.Bool.Decides.{nat_tests}
use Rattle.std.proofs.lemmas.Map.Keys.{IsDistinct-head, IsDistinct-tail, IsDistinct-cons}
use Rattle.std.proofs.lemmas.List.{map-append}
use Rattle.deed_core.proofs.LawProofs.{written, pushed, slice_get_mapped}
use Rattle.world_core.specs.WorldState.{Each, IsAmong}

module _ {X : Type 0} where
  pub each_written : (P : X → Type 0) (xs : List X) (i : ℕ) (y : X) → Each P xs → P y → Each P (set xs i y)
  each_written P xs i y all here k x at = elim (written xs i k y x at) [
    | inl is ↦ subst P (sym is.1) here
    | inr is ↦ all k x is.1
  ]

  pub each_pushed : (P : X → Type 0) (xs : List X) (y : X) → Each P xs → P y → Each P (xs ++ y ∷ [])
  each_pushed P xs y all here k x at = elim (pushed xs k y x at) [
    | inl is ↦ subst P (sym is.1) here
    | inr there ↦ all k x there
  ]

  pub each_cons : (P : X → Type 0) (y : X) (xs : List X) → P y → Each P xs → Each P (y ∷ xs)
  each_cons P y xs here all zero x at = let same : y ≡ x = cc in subst P same here
  each_cons P y xs here all (suc k) x at = all k x at

  get_more : (xs : List X) (k : ℕ) (x y : X) → slice_get xs k ≡ Some x → slice_get (xs ++ y ∷ []) k ≡ Some x
  get_more [] k x y at = absurd (let e : None ≡ Some x = at in cc)
  get_more (z ∷ xs) zero x y at = at
  get_more (z ∷ xs) (suc k) x y at = get_more xs k x y at

  pub among_more : (xs : List X) (x y : X) → IsAmong x xs → IsAmong x (xs ++ y ∷ [])
  among_more xs x y there = (there.0, get_more xs there.0 x y there.1)

all_at : (P : ℕ → Type 0) (ns : List ℕ) (k n : ℕ) → AllByRecursion P ns → slice_get ns k ≡ Some n → P n
all_at P [] k n all at = absurd (let e : None ≡ Some n = at in cc)
all_at P (m ∷ ns) zero n all at = let same : m ≡ n = cc in subst P same all.0
all_at P (m ∷ ns) (suc k) n all at = all_at P ns k n all.1 at

not_same : (a b : ℕ) → nat_eq a b ≡ false → a ≢ b
not_same a b differ = λ same. grind (arith, nat_tests)

-- no two members have one number
pub one_index : {X : Type 0} (f : X → ℕ) (xs : List X) (j k : ℕ) (x y : X) → IsDistinct nat_eq (map f xs)
    → slice_get xs j ≡ Some x → slice_get xs k ≡ Some y → f x ≡ f y → j ≡ k
one_index f [] j k x y distinct here there same = absurd (let e : None ≡ Some x = here in cc)
one_index f (z ∷ xs) zero zero x y distinct here there same = refl
one_index f (z ∷ xs) zero (suc k) x y distinct here there same =
    let head = all_at (λ n. nat_eq (f z) n ≡ false) (map f xs) k (f y) (IsDistinct-head nat_eq (f z) (map f xs) distinct) (slice_get_mapped f xs k y there) in
    let is : z ≡ x = cc in
    absurd (not_same (f z) (f y) head (ap f is ∙ same))
one_index f (z ∷ xs) (suc j) zero x y distinct here there same =
    let head = all_at (λ n. nat_eq (f z) n ≡ false) (map f xs) j (f x) (IsDistinct-head nat_eq (f z) (map f xs) distinct) (slice_get_mapped f xs j x here) in
    let is : z ≡ y = cc in
    absurd (not_same (f z) (f x) head (ap f is ∙ sym same))
one_index f (z ∷ xs) (suc j) (suc k) x y distinct here there same =
    ap suc (one_index f xs j k x y (IsDistinct-tail nat_eq (f z) (map f xs) distinct) here there same)

take_suc : {X : Type 0} (xs : List X) (i : ℕ) (x : X) → slice_get xs i ≡ Some x → take (suc i) xs ≡ take i xs ++ x ∷ []
take_suc [] i x at = absurd (let e : None ≡ Some x = at in cc)
take_suc (y ∷ xs) zero x at = (let same : y ≡ x = cc in ap (λ z. z ∷ []) same)
take_suc (y ∷ xs) (suc i) x at = ap (λ zs. y ∷ zs) (take_suc xs i x at)

-- one member more of the front of a list
pub take_next : {X : Type 0} (xs : List X) (i : ℕ) (x : X) → slice_get xs i ≡ Some x → take (i + 1) xs ≡ take i xs ++ x ∷ []
take_next xs i x at =
    let more : i + 1 ≡ suc i = omega arith in
    ap (λ n. take n xs) more ∙ take_suc xs i x at

later_differ : (P : ℕ → Type 0) (ns : List ℕ) (n : ℕ) → AllByRecursion P ns → P n → AllByRecursion P (ns ++ n ∷ [])
later_differ P [] n all here = (here, tt)
later_differ P (m ∷ ns) n all here = (all.0, later_differ P ns n all.1 here)

-- one number more that none has yet
pub distinct_more : {X : Type 0} (f : X → ℕ) (xs : List X) (y : X) → IsDistinct nat_eq (map f xs) → Each (λ x. f x ≢ f y) xs → IsDistinct nat_eq (map f (xs ++ y ∷ []))
distinct_more f [] y distinct differ = IsDistinct-cons nat_eq (f y) [] tt distinct
distinct_more f (x ∷ xs) y distinct differ =
    let head = IsDistinct-head nat_eq (f x) (map f xs) distinct in
    let here : nat_eq (f x) (f y) ≡ false = (let no = differ 0 x refl in grind (arith, nat_tests)) in
    let all = later_differ (λ n. nat_eq (f x) n ≡ false) (map f xs) (f y) head here in
    let same : map f (xs ++ y ∷ []) ≡ map f xs ++ f y ∷ [] = map-append f xs (y ∷ []) in
    IsDistinct-cons nat_eq (f x) (map f (xs ++ y ∷ [])) (subst (AllByRecursion (λ n. nat_eq (f x) n ≡ false)) (sym same) all)
    (distinct_more f xs y (IsDistinct-tail nat_eq (f x) (map f xs) distinct) (λ k z at. differ (suc k) z at))
