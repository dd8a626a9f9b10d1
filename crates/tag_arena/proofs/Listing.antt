-- Members of lists that are edited, and rising lists.
use Rattle.std.proofs.Common.{◌≡◌, ◌⊎◌, ℕ, zero, suc, ◌+◌, ◌-◌, ◌<◌, ◌≤◌, refl, sym, ap, subst, ◌∙◌, inl, inr, ⊎_elim, List, [], ◌∷◌, ◌++◌, length, get_or, take, drop, map, insert, remove, AllPairs, Contains, None, Some, nat_lt, arith}
use Rattle.std.proofs.lemmas.List.{take-append-drop, get_or_default}
use Rattle.std.proofs.lemmas.List.Elements.{All-contains, Contains-append_left, Contains-append_right, Contains-append_cases}
use Rattle.std.proofs.lemmas.List.Edits.{get_or-remove_below, get_or-remove_above, length-remove}
use Rattle.std.proofs.lemmas.List.Sums.{prefix_len_passes, prefix_len_stops, prefix_len-le-length}
use Rattle.std.proofs.lemmas.Bool.{ltb-true, ltb-false, cases_order}
use Rattle.tag_arena.proofs.Members.{Contains-head, Contains-tail, Contains-cases, Contains-nil, AllPairs-head, AllPairs-tail, AllPairs-append}
use Rattle.sorted_rows.specs.Order.{Rises, place_below, IsRankAt}
use Rattle.sorted_rows.proofs.PlaceLemmas.{is_place, below_is}

pub None≢Some : {A : Type 0} {x : A} → None ≡ Some x → ⊥
None≢Some {A} {x} e = let h : None ≡ Some x = e in cc

pub Some-injective : {A : Type 0} {x y : A} → Some x ≡ Some y → x ≡ y
Some-injective {A} {x} {y} e = let h : Some x ≡ Some y = e in cc

module _ {X : Type 0} where
  -- the members of a list with one more
  pub Contains-inserted : (xs : List X) (p : ℕ) (y : X) → Contains (insert xs p y) y
  Contains-inserted xs p y = Contains-append_right (take p xs) (y ∷ drop p xs) y (Contains-head y (drop p xs))

  pub Contains-insert : (xs : List X) (p : ℕ) (y x : X) → Contains xs x → Contains (insert xs p y) x
  Contains-insert xs p y x h =
      ⊎_elim (λ a. Contains-append_left (take p xs) (y ∷ drop p xs) x a)
      (λ b. Contains-append_right (take p xs) (y ∷ drop p xs) x (Contains-tail y x (drop p xs) b))
      (Contains-append_cases (take p xs) (drop p xs) x (subst (λ l. Contains l x) (sym (take-append-drop p xs)) h))

  pub Contains-insert_cases : (xs : List X) (p : ℕ) (y x : X) → Contains (insert xs p y) x → (y ≡ x) ⊎ Contains xs x
  Contains-insert_cases xs p y x h =
      let whole : List X = take p xs ++ drop p xs in
      let back : Contains whole x → Contains xs x = λ c. subst (λ l. Contains l x) (take-append-drop p xs) c in
      ⊎_elim (λ a. inr (back (Contains-append_left (take p xs) (drop p xs) x a)))
      (λ b. ⊎_elim (λ e. inl e) (λ c. inr (back (Contains-append_right (take p xs) (drop p xs) x c))) (Contains-cases y x (drop p xs) b))
      (Contains-append_cases (take p xs) (y ∷ drop p xs) x h)

  pub AllPairs-one : (R : X → X → Type 0) (x : X) → AllPairs R (x ∷ [])
  AllPairs-one R x i j d lt below = absurd (omega (arith, lt, below))

  pub AllPairs-remove : (R : X → X → Type 0) (xs : List X) (p : ℕ) → p < length xs → AllPairs R xs → AllPairs R (remove xs p)
  AllPairs-remove R xs p lt h i j d less within =
      let n = length-remove xs p lt in
      let low = λ (k : ℕ) (b : k < p). get_or-remove_below xs p d k b lt in
      let high = λ (k : ℕ) (b : p ≤ k). get_or-remove_above xs p d k b lt in
      elim (cases_order i p) [
        | inl e ↦ rw (high i (omega arith), high j (omega arith)) (h (i + 1) (j + 1) d (omega arith) (omega (arith, n)))
        | inr (inl i_lt) ↦ rw (low i i_lt) (elim (cases_order j p) [
          | inl e ↦ rw (high j (omega arith)) (h i (j + 1) d (omega arith) (omega (arith, n)))
          | inr (inl j_lt) ↦ rw (low j j_lt) (h i j d less (omega (arith, n)))
          | inr (inr j_gt) ↦ rw (high j (omega arith)) (h i (j + 1) d (omega arith) (omega (arith, n)))
        ])
        | inr (inr i_gt) ↦ rw (high i (omega arith), high j (omega arith)) (h (i + 1) (j + 1) d (omega arith) (omega (arith, n)))
      ]

module _ {X : Type 0} {Y : Type 0} (f : X → Y) where
  pub map-remove : (xs : List X) (p : ℕ) → map f (remove xs p) ≡ remove (map f xs) p
  map-remove [] zero = refl
  map-remove [] (suc p) = refl
  map-remove (x ∷ xs) zero = refl
  map-remove (x ∷ xs) (suc p) = ap (λ l. f x ∷ l) (map-remove xs p)

module _ {X : Type 0} (rank : X → ℕ) where
  -- the place of a key in a rising list
  pub rank_at_place : (key : ℕ) (xs : List X) → Rises rank xs → IsRankAt rank key xs (place_below rank key xs)
  rank_at_place key xs rises =
      let test = λ (x : X). nat_lt (rank x) key in
      is_place rank key xs (place_below rank key xs) rises (prefix_len-le-length test xs)
      (λ d some. ltb-true (rank (get_or xs (place_below rank key xs - 1) d)) key (prefix_len_passes test xs (place_below rank key xs - 1) d (omega (arith, some))))
      (λ d lt. let h = ltb-false (rank (get_or xs (place_below rank key xs) d)) key (prefix_len_stops test xs d lt) in omega (arith, h))

  -- a member stands at the place of its key
  pub place_of_member : (xs : List X) (x : X) (q : ℕ) → Rises rank xs → q < length xs → get_or xs q x ≡ x → place_below rank (rank x) xs ≡ q
  place_of_member xs x q rises lt here =
      let at = λ (d : X). ap rank (get_or_default xs q d x lt ∙ here) in
      below_is rank (rank x) xs q x
      (is_place rank (rank x) xs q rises (omega (arith, lt))
      (λ d some. let a = rises (q - 1) q d (omega (arith, some)) lt in omega (arith, a, at d))
      (λ d less. omega (arith, at d)))

  -- a member that comes behind the first
  behind : (x y : X) (ys : List X) → Rises rank (y ∷ ys) → Contains ys x → rank y < rank x
  behind x y ys r h = All-contains (λ z. rank y < rank z) ys x (AllPairs-head (λ a b. rank a < rank b) y ys r) h

  same_head : (x y : X) (xs ys : List X) → Rises rank (x ∷ xs) → Rises rank (y ∷ ys) → Contains (y ∷ ys) x → Contains (x ∷ xs) y → x ≡ y
  same_head x y xs ys rx ry to back =
      ⊎_elim (λ e. sym e)
      (λ later. ⊎_elim (λ e. e)
      (λ late. let a = behind x y ys ry later in let b = behind y x xs rx late in absurd (omega (arith, a, b)))
      (Contains-cases x y xs back))
      (Contains-cases y x ys to)

  same_tail : (x y z : X) (xs ys : List X) → Rises rank (x ∷ xs) → x ≡ y → Contains xs z → Contains (y ∷ ys) z → Contains ys z
  same_tail x y z xs ys rx e in_xs h =
      ⊎_elim (λ same. let a = behind z x xs rx in_xs in let b = ap rank (e ∙ same) in absurd (omega (arith, a, b))) (λ later. later) (Contains-cases y z ys h)

  -- two rising lists with the same members are the same
  pub same_rising : (xs ys : List X) → Rises rank xs → Rises rank ys → ((x : X) → Contains xs x → Contains ys x) → ((x : X) → Contains ys x → Contains xs x) → xs ≡ ys
  same_rising [] [] rx ry to back = refl
  same_rising [] (y ∷ ys) rx ry to back = absurd (Contains-nil y (back y (Contains-head y ys)))
  same_rising (x ∷ xs) [] rx ry to back = absurd (Contains-nil x (to x (Contains-head x xs)))
  same_rising (x ∷ xs) (y ∷ ys) rx ry to back =
      let head = same_head x y xs ys rx ry (to x (Contains-head x xs)) (back y (Contains-head y ys)) in
      let tails = same_rising xs ys (AllPairs-tail (λ a b. rank a < rank b) x xs rx) (AllPairs-tail (λ a b. rank a < rank b) y ys ry)
      (λ z h. same_tail x y z xs ys rx head h (to z (Contains-tail x z xs h)))
      (λ z h. same_tail y x z ys xs ry (sym head) h (back z (Contains-tail y z ys h))) in
      ap (λ l. x ∷ l) tails ∙ ap (λ h. h ∷ ys) head

  -- one more that is above all
  pub rises_push : (xs : List X) (x : X) → Rises rank xs → ((y : X) → Contains xs y → rank y < rank x) → Rises rank (xs ++ x ∷ [])
  rises_push xs x r above =
      AllPairs-append (λ a b. rank a < rank b) xs (x ∷ []) r (AllPairs-one (λ a b. rank a < rank b) x)
      (λ y z in_xs in_one. ⊎_elim (λ e. subst (λ w. rank y < rank w) e (above y in_xs)) (λ none. absurd (Contains-nil z none)) (Contains-cases x z [] in_one))
