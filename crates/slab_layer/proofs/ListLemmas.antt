-- Lists put end to end, and lists in order, after an edit.
use Rattle.std.proofs.Common.{◌≡◌, inl, inr, ℕ, zero, suc, ◌+◌, ◌<◌, List, [], ◌∷◌, ◌++◌, length, get_or, set, take, drop, All, AllPairs, insert, remove, refl, ap, ◌∙◌, arith, subst}
use Rattle.std.specs.Prelude.{sum_by, Contains}
use Rattle.std.specs.List.{flat_map}
use Rattle.std.proofs.lemmas.Bool.{cases_eq}
use Rattle.std.proofs.lemmas.List.{get_or-take, get_or-drop, get_or_default, get_or-set_same, get_or-set_other, length-take, length-drop, length-set}
use Rattle.std.proofs.lemmas.List.Sums.{sum_by-set, sum_by-insert, sum_by-remove}
use Rattle.std.proofs.lemmas.List.Elements.{All-append, All-take, All-drop, All-cons, Contains-append_left, Contains-append_right, Contains-append_cases}
use Rattle.deed_core.proofs.LawProofs.{sum_by-flat_map, AllPairs-append}

module _ {X Y : Type 0} where
  -- what lists put end to end weigh after one of them changed, was put in or taken out
  pub sum_by-flat_map-set : (g : X → ℕ) (h : Y → List X) (ys : List Y) (i : ℕ) (z d : Y) → i < length ys → sum_by g (flat_map h (set ys i z)) + sum_by g (h (get_or ys i d)) ≡ sum_by g (flat_map h ys) + sum_by g (h z)
  sum_by-flat_map-set g h ys i z d within =
      omega (arith, sum_by-flat_map g h ys, sum_by-flat_map g h (set ys i z), sum_by-set (λ y. sum_by g (h y)) ys i z d within)

  pub sum_by-flat_map-insert : (g : X → ℕ) (h : Y → List X) (ys : List Y) (i : ℕ) (z : Y) → sum_by g (flat_map h (insert ys i z)) ≡ sum_by g (flat_map h ys) + sum_by g (h z)
  sum_by-flat_map-insert g h ys i z =
      omega (arith, sum_by-flat_map g h ys, sum_by-flat_map g h (insert ys i z), sum_by-insert (λ y. sum_by g (h y)) ys i z)

  pub sum_by-flat_map-remove : (g : X → ℕ) (h : Y → List X) (ys : List Y) (i : ℕ) (d : Y) → i < length ys → sum_by g (flat_map h (remove ys i)) + sum_by g (h (get_or ys i d)) ≡ sum_by g (flat_map h ys)
  sum_by-flat_map-remove g h ys i d within =
      omega (arith, sum_by-flat_map g h ys, sum_by-flat_map g h (remove ys i), sum_by-remove (λ y. sum_by g (h y)) ys i d within)

  -- what stands in one of them stands in all, and the other way round
  pub contains_part : (h : Y → List X) (ys : List Y) (i : ℕ) (d : Y) (x : X) → i < length ys → Contains (h (get_or ys i d)) x → Contains (flat_map h ys) x
  contains_part h [] i d x within has = absurd (omega arith)
  contains_part h (y ∷ ys) zero d x within has = Contains-append_left (h y) (flat_map h ys) x has
  contains_part h (y ∷ ys) (suc i) d x within has = Contains-append_right (h y) (flat_map h ys) x (contains_part h ys i d x (omega arith) has)

  pub part_contains : (h : Y → List X) (ys : List Y) (d : Y) (x : X) → Contains (flat_map h ys) x → (i : ℕ) × (i < length ys) × Contains (h (get_or ys i d)) x
  part_contains h [] d x has = absurd (omega (arith, has.1))
  part_contains h (y ∷ ys) d x has = elim (Contains-append_cases (h y) (flat_map h ys) x has) [
    | inl here ↦ (0, omega arith, here)
    | inr there ↦ let rest = part_contains h ys d x there in (suc rest.0, omega (arith, rest.1), rest.2)
  ]

module _ {X : Type 0} where
  -- two lists that have nothing put end to end
  pub both_nil : (xs ys : List X) → xs ++ ys ≡ [] → (xs ≡ []) × (ys ≡ [])
  both_nil [] ys e = (refl, e)
  both_nil (x ∷ xs) ys e = cc

  -- what holds of each two members, in part of a list
  pub pairs_take : (R : X → X → Type 0) (n : ℕ) (xs : List X) → AllPairs R xs → AllPairs R (take n xs)
  pairs_take R n xs p i j d before within = grind (arith, length-take, get_or-take, p i j d)

  pub pairs_drop : (R : X → X → Type 0) (n : ℕ) (xs : List X) → AllPairs R xs → AllPairs R (drop n xs)
  pairs_drop R n xs p i j d before within = grind (arith, length-drop, get_or-drop, p (n + i) (n + j) d)

  pub pairs_across : (R : X → X → Type 0) (n : ℕ) (xs : List X) → AllPairs R xs → All (λ x. All (R x) (drop n xs)) (take n xs)
  pairs_across R n xs p i d within j e below =
      let one : i < n → n + j < length xs → R (get_or xs i d) (get_or xs (n + j) d) = λ left right. p i (n + j) d (omega arith) right in
      grind (arith, length-take, length-drop, get_or-take, get_or-drop, get_or_default, one)

  -- one put in where it belongs
  pub pairs_insert : (R : X → X → Type 0) (xs : List X) (i : ℕ) (y : X) → AllPairs R xs → All (λ x. R x y) (take i xs) → All (R y) (drop i xs) → AllPairs R (insert xs i y)
  pairs_insert R xs i y p left right =
      let behind : AllPairs R (y ∷ drop i xs) = AllPairs-append R (y ∷ []) (drop i xs) (λ a b d before within. absurd (omega arith)) (pairs_drop R i xs p) (All-cons (λ x. All (R x) (drop i xs)) y [] right (λ k d within. absurd (omega arith))) in
      AllPairs-append R (take i xs) (y ∷ drop i xs) (pairs_take R i xs p) behind
      (λ k d within. All-cons (R (get_or (take i xs) k d)) y (drop i xs) (left k d within) (pairs_across R i xs p k d within))

  pub all_insert : (P : X → Type 0) (xs : List X) (i : ℕ) (y : X) → All P xs → P y → All P (insert xs i y)
  all_insert P xs i y all here = All-append P (take i xs) (y ∷ drop i xs) (All-take P i xs all) (All-cons P y (drop i xs) here (All-drop P i xs all))

  pub all_remove : (P : X → Type 0) (xs : List X) (i : ℕ) → All P xs → All P (remove xs i)
  all_remove P xs i all = All-append P (take i xs) (drop (suc i) xs) (All-take P i xs all) (All-drop P (suc i) xs all)

  -- one changed that stands to the others as before
  pub pairs_set : (R : X → X → Type 0) (xs : List X) (i : ℕ) (y : X) → i < length xs → ((d x : X) → R (get_or xs i d) x → R y x) → ((d x : X) → R x (get_or xs i d) → R x y) → AllPairs R xs → AllPairs R (set xs i y)
  pairs_set R xs i y within as_left as_right p a b d before inside =
      let inside' : b < length xs = omega (arith, length-set xs i y) in
      let old : R (get_or xs a d) (get_or xs b d) = p a b d before inside' in
      elim (cases_eq a i) [
        | inl left ↦
            let other : b ≡ i → ⊥ = λ e. omega arith in
            let l : get_or (set xs i y) a d ≡ y = ap (λ (n : ℕ). get_or (set xs i y) n d) left ∙ get_or-set_same xs i y d within in
            let r : get_or (set xs i y) b d ≡ get_or xs b d = get_or-set_other xs i b y d other in
            let here : R (get_or xs i d) (get_or xs b d) = subst (λ (n : ℕ). R (get_or xs n d) (get_or xs b d)) left old in
            rw (l, r) (as_left d (get_or xs b d) here)
        | inr not_left ↦
            let l : get_or (set xs i y) a d ≡ get_or xs a d = get_or-set_other xs i a y d not_left in
            elim (cases_eq b i) [
              | inl right ↦
                  let r : get_or (set xs i y) b d ≡ y = ap (λ (n : ℕ). get_or (set xs i y) n d) right ∙ get_or-set_same xs i y d within in
                  let here : R (get_or xs a d) (get_or xs i d) = subst (λ (n : ℕ). R (get_or xs a d) (get_or xs n d)) right old in
                  rw (l, r) (as_right d (get_or xs a d) here)
              | inr not_right ↦ let r : get_or (set xs i y) b d ≡ get_or xs b d = get_or-set_other xs i b y d not_right in rw (l, r) old
            ]
      ]
