-- What stands at an index of a list, and a list that one member is written into or put at the end of.
use Rattle.std.proofs.Common.{◌≡◌, ◌≢◌, ◌⊎◌, ℕ, suc, zero, ◌+◌, ◌<◌, All, Contains, refl, sym, subst, ap, ◌∙◌, inl, inr, List, [], ◌∷◌, ◌++◌, map, length, get_or, set, Some, None, arith}
use Rattle.std.specs.Prelude.{slice_get, sum_by}
use Rattle.std.proofs.lemmas.Bool.{cases_eq}
use Rattle.std.proofs.lemmas.Option.{slice_get_within, get_or_from_slice_get, slice_get-get_or}
use Rattle.std.proofs.lemmas.List.{length-set, map-set, set-get_or}
use Rattle.std.proofs.lemmas.List.Sums.{sum_by-set}

module _ {X : Type 0} where
  -- a written member stands where it was written
  pub slice_get-set : (xs : List X) (i : ℕ) (y : X) → i < length xs → slice_get (set xs i y) i ≡ Some y
  slice_get-set [] i y within = absurd (omega (arith, within))
  slice_get-set (x ∷ xs) zero y within = refl
  slice_get-set (x ∷ xs) (suc i) y within = slice_get-set xs i y (omega arith)

  -- the others are what they were
  pub slice_get-set_other : (xs : List X) (i j : ℕ) (y : X) → j ≢ i → slice_get (set xs i y) j ≡ slice_get xs j
  slice_get-set_other [] i j y ne = refl
  slice_get-set_other (x ∷ xs) zero zero y ne = absurd (ne refl)
  slice_get-set_other (x ∷ xs) zero (suc j) y ne = refl
  slice_get-set_other (x ∷ xs) (suc i) zero y ne = refl
  slice_get-set_other (x ∷ xs) (suc i) (suc j) y ne = slice_get-set_other xs i j y (λ e. ne (ap suc e))

  -- a member of the list after a write: what was written, or what stood there before
  pub written : (xs : List X) (i k : ℕ) (y x : X) → slice_get (set xs i y) k ≡ Some x → ((k ≡ i) × (x ≡ y)) ⊎ ((k ≢ i) × (slice_get xs k ≡ Some x))
  written xs i k y x at = elim (cases_eq k i) [
    | inl e ↦
        let within : k < length (set xs i y) = slice_get_within (set xs i y) k x at in
        let here : i < length xs = omega (arith, length-set xs i y) in
        let same : Some x ≡ Some y = sym at ∙ ap (slice_get (set xs i y)) e ∙ slice_get-set xs i y here in
        inl (e, (cc))
    | inr ne ↦ inr (ne, sym (slice_get-set_other xs i k y ne) ∙ at)
  ]

  -- a member of the list with one more: the last, or what stood there before
  pub pushed : (xs : List X) (k : ℕ) (y x : X) → slice_get (xs ++ y ∷ []) k ≡ Some x → ((k ≡ length xs) × (x ≡ y)) ⊎ (slice_get xs k ≡ Some x)
  pushed [] zero y x at = inl (refl, (let e : Some y ≡ Some x = at in cc))
  pushed [] (suc k) y x at = absurd (let e : None ≡ Some x = at in cc)
  pushed (z ∷ xs) zero y x at = inr at
  pushed (z ∷ xs) (suc k) y x at = elim (pushed xs k y x at) [
    | inl is ↦ inl (ap suc is.0, is.1)
    | inr there ↦ inr there
  ]

  -- within the list something stands
  pub slice_get_some : (xs : List X) (k : ℕ) → k < length xs → (x : X) × (slice_get xs k ≡ Some x)
  slice_get_some [] k within = absurd (omega (arith, within))
  slice_get_some (x ∷ xs) zero within = (x, refl)
  slice_get_some (x ∷ xs) (suc k) within = slice_get_some xs k (omega arith)

  -- and one member alone
  pub slice_get_one : (xs : List X) (k : ℕ) (x y : X) → slice_get xs k ≡ Some x → slice_get xs k ≡ Some y → x ≡ y
  slice_get_one xs k x y a b = cc

  -- what all members are
  pub all_at : (P : X → Type 0) (xs : List X) (k : ℕ) (x : X) → All P xs → slice_get xs k ≡ Some x → P x
  all_at P xs k x all at = subst P (get_or_from_slice_get xs k x x at) (all k x (slice_get_within xs k x at))

  pub all_from : (P : X → Type 0) (xs : List X) → ((k : ℕ) (x : X) → slice_get xs k ≡ Some x → P x) → All P xs
  all_from P xs at k d within = at k (get_or xs k d) (slice_get-get_or xs k d within)

  -- what stands somewhere is contained
  pub contains_at : (xs : List X) (k : ℕ) (x : X) → slice_get xs k ≡ Some x → Contains xs x
  contains_at xs k x at = (k, slice_get_within xs k x at, get_or_from_slice_get xs k x x at)

-- what was read at an index where a member stands
pub read_is : {X : Type 0} (xs : List X) (i : ℕ) (r s : X) → r ≡ get_or xs i r → slice_get xs i ≡ Some s → r ≡ s
read_is xs i r s read at = read ∙ get_or_from_slice_get xs i s r at

-- what was read stands there
pub slice_get_here : {X : Type 0} (xs : List X) (i : ℕ) (r : X) → i < length xs → r ≡ get_or xs i r → slice_get xs i ≡ Some r
slice_get_here xs i r within read = slice_get-get_or xs i r within ∙ ap Some (sym read)

-- a sum after a write
pub sum_set : {X : Type 0} (f : X → ℕ) (xs : List X) (i : ℕ) (x y : X) → slice_get xs i ≡ Some x → sum_by f (set xs i y) + f x ≡ sum_by f xs + f y
sum_set f xs i x y at =
    let e = sum_by-set f xs i y x (slice_get_within xs i x at) in
    let is : f (get_or xs i x) ≡ f x = ap f (get_or_from_slice_get xs i x x at) in
    omega (arith, e, is)

-- the same value written back
pub set_same : {X : Type 0} (xs : List X) (i : ℕ) (x : X) → slice_get xs i ≡ Some x → set xs i x ≡ xs
set_same xs i x at = ap (set xs i) (sym (get_or_from_slice_get xs i x x at)) ∙ set-get_or xs i x

-- what a write leaves of each member stays
pub map_set_same : {X Y : Type 0} (f : X → Y) (xs : List X) (i : ℕ) (x y : X) → slice_get xs i ≡ Some x → f y ≡ f x → map f (set xs i y) ≡ map f xs
map_set_same f xs i x y at same =
    map-set f xs i y ∙ ap (set (map f xs) i) same ∙ sym (map-set f xs i x) ∙ ap (map f) (set_same xs i x at)

module _ {X Y : Type 0} (f : X → Y) where
  -- a member of a list that a function gives is what it gives of a member
  pub mapped : (xs : List X) (k : ℕ) (y : Y) → slice_get (map f xs) k ≡ Some y → (x : X) × (slice_get xs k ≡ Some x) × (y ≡ f x)
  mapped [] k y at = absurd (let e : None ≡ Some y = at in cc)
  mapped (x ∷ xs) zero y at = (x, refl, (let e : Some (f x) ≡ Some y = at in cc))
  mapped (x ∷ xs) (suc k) y at = mapped xs k y at

  pub slice_get_mapped : (xs : List X) (k : ℕ) (x : X) → slice_get xs k ≡ Some x → slice_get (map f xs) k ≡ Some (f x)
  slice_get_mapped [] k x at = absurd (let e : None ≡ Some x = at in cc)
  slice_get_mapped (z ∷ xs) zero x at = (let e : Some z ≡ Some x = at in cc)
  slice_get_mapped (z ∷ xs) (suc k) x at = slice_get_mapped xs k x at

  pub contains_mapped : (xs : List X) (x : X) → Contains xs x → Contains (map f xs) (f x)
  contains_mapped xs x has = contains_at (map f xs) has.0 (f x) (slice_get_mapped xs has.0 x (slice_get-get_or xs has.0 x has.1 ∙ ap Some has.2))

  pub mapped_contains : (xs : List X) (y : Y) → Contains (map f xs) y → (x : X) × Contains xs x × (y ≡ f x)
  mapped_contains xs y has =
      let there = mapped xs has.0 y (slice_get-get_or (map f xs) has.0 y has.1 ∙ ap Some has.2) in
      (there.0, contains_at xs has.0 there.0 there.1, there.2)
