-- Lists of which the first members changed, one after another.
use Rattle.std.proofs.Common.{◌≡◌, ℕ, suc, zero, ◌+◌, refl, sym, ap, ◌∙◌, List, [], ◌∷◌, length, map, set, Some, arith}
use Rattle.std.specs.Prelude.{slice_get}

module _ {X : Type 0} where
  -- the first i members changed so
  abbrev pub first_changed : (X → X) → ℕ → List X → List X
  first_changed f zero xs = xs
  first_changed f (suc i) [] = []
  first_changed f (suc i) (x ∷ xs) = f x ∷ first_changed f i xs

  -- the next one is as it was
  pub changed_here : (f : X → X) (i : ℕ) (xs : List X) → slice_get (first_changed f i xs) i ≡ slice_get xs i
  changed_here f zero xs = refl
  changed_here f (suc i) [] = refl
  changed_here f (suc i) (x ∷ xs) = changed_here f i xs

  changed_suc : (f : X → X) (i : ℕ) (xs : List X) (x : X) → slice_get xs i ≡ Some x → set (first_changed f i xs) i (f x) ≡ first_changed f (suc i) xs
  changed_suc f zero [] x at = refl
  changed_suc f zero (y ∷ xs) x at = let e : Some y ≡ Some x = at in let same : y ≡ x = cc in ap (λ z. f z ∷ xs) (sym same)
  changed_suc f (suc i) [] x at = refl
  changed_suc f (suc i) (y ∷ xs) x at = ap (λ zs. f y ∷ zs) (changed_suc f i xs x at)

  -- and with it one more is changed
  pub changed_next : (f : X → X) (i : ℕ) (xs : List X) (x : X) → slice_get xs i ≡ Some x → set (first_changed f i xs) i (f x) ≡ first_changed f (i + 1) xs
  changed_next f i xs x at = let more : suc i ≡ i + 1 = omega arith in changed_suc f i xs x at ∙ ap (λ n. first_changed f n xs) more

  pub changed_length : (f : X → X) (i : ℕ) (xs : List X) → length (first_changed f i xs) ≡ length xs
  changed_length f zero xs = refl
  changed_length f (suc i) [] = refl
  changed_length f (suc i) (x ∷ xs) = ap suc (changed_length f i xs)

  pub changed_all : (f : X → X) (xs : List X) → first_changed f (length xs) xs ≡ map f xs
  changed_all f [] = refl
  changed_all f (x ∷ xs) = ap (λ zs. f x ∷ zs) (changed_all f xs)

  -- nothing changed where each member is as it would become
  pub changed_none : (f : X → X) (xs : List X) → ((j : ℕ) (x : X) → slice_get xs j ≡ Some x → f x ≡ x) → map f xs ≡ xs
  changed_none f [] each = refl
  changed_none f (x ∷ xs) each = ap (λ z. z ∷ map f xs) (each 0 x refl) ∙ ap (λ zs. x ∷ zs) (changed_none f xs (λ j y at. each (suc j) y at))

  -- what was written last
  pub set_twice : (xs : List X) (k : ℕ) (x y : X) → set (set xs k x) k y ≡ set xs k y
  set_twice [] k x y = refl
  set_twice (z ∷ xs) zero x y = refl
  set_twice (z ∷ xs) (suc k) x y = ap (λ zs. z ∷ zs) (set_twice xs k x y)
