-- The greatest weight of a list, and searches by weight.
use Rattle.std.proofs.Common.{◌≡◌, ℕ, ◌+◌, ◌-◌, ◌<◌, ◌≤◌, ◌≢◌, List, [], ◌∷◌, ◌++◌, length, get_or, take, drop, suc, max, refl, ap, sym, ◌∙◌, arith, rules, insert, remove, None, Option, Bool, false}
use Rattle.std.proofs.lemmas.List.{take-append-drop, drop_all}
use Rattle.std.proofs.Math.Seq.{drop-cons}
use Rattle.std.specs.List.{find}
use Rattle.sorted_rows.specs.Weights.{greatest_weight, weighs}

module _ {X : Type 0} (weight : X → ℕ) where
  pub greatest_none : greatest_weight weight [] ≡ 0
  unfolding greatest_weight
  greatest_none = refl

  greatest_head : (x : X) (xs : List X) → greatest_weight weight (x ∷ xs) ≡ max (weight x) (greatest_weight weight xs)
  unfolding greatest_weight
  greatest_head x xs = refl

  pub greatest_append : (xs ys : List X) → greatest_weight weight (xs ++ ys) ≡ max (greatest_weight weight xs) (greatest_weight weight ys)
  greatest_append [] ys = let h : greatest_weight weight ([] ++ ys) ≡ greatest_weight weight ys = refl in omega (arith, h, greatest_none)
  greatest_append (x ∷ xs) ys =
      let h = greatest_append xs ys in
      let e : greatest_weight weight ((x ∷ xs) ++ ys) ≡ greatest_weight weight (x ∷ (xs ++ ys)) = refl in
      omega (arith, h, e, greatest_head x xs, greatest_head x (xs ++ ys))

  pub greatest_insert : (xs : List X) (p : ℕ) (x : X) → greatest_weight weight (insert xs p x) ≡ max (weight x) (greatest_weight weight xs)
  greatest_insert xs p x =
      let parts = greatest_append (take p xs) (drop p xs) in
      let whole = ap (greatest_weight weight) (take-append-drop p xs) in
      let out = greatest_append (take p xs) (x ∷ drop p xs) in
      omega (arith, parts, whole, out, greatest_head x (drop p xs))

  pub greatest_remove : (xs : List X) (p : ℕ) (d : X) → p < length xs → greatest_weight weight xs ≡ max (weight (get_or xs p d)) (greatest_weight weight (remove xs p))
  greatest_remove xs p d lt =
      let parts = greatest_append (take p xs) (drop p xs) in
      let whole = ap (greatest_weight weight) (take-append-drop p xs) in
      let head = ap (greatest_weight weight) (drop-cons xs p d lt) in
      let out = greatest_append (take p xs) (drop (suc p) xs) in
      omega (arith, parts, whole, head, out, greatest_head (get_or xs p d) (drop (suc p) xs))

  -- one more of the first ones
  pub greatest_more : (xs : List X) (k : ℕ) (d : X) → k < length xs → greatest_weight weight (drop k xs) ≡ max (weight (get_or xs k d)) (greatest_weight weight (drop (suc k) xs))
  greatest_more xs k d lt = ap (greatest_weight weight) (drop-cons xs k d lt) ∙ greatest_head _ _

  pub greatest_before : (xs : List X) (k : ℕ) (x : X) (top : ℕ) → 0 < k → k ≤ length xs → x ≡ get_or xs (k - 1) x → top ≡ greatest_weight weight (drop k xs) → greatest_weight weight (drop (k - 1) xs) ≡ max (weight x) top
  greatest_before xs k x top some within is rest =
      let more = greatest_more xs (k - 1) x (omega arith) in
      let here = ap weight is in
      let next : suc (k - 1) ≡ k = omega arith in
      let same = ap (λ n. greatest_weight weight (drop n xs)) next in
      omega (arith, more, here, same, rest)

  -- one that weighs as much as the greatest may
  pub greatest_met : (xs : List X) (k : ℕ) (x : X) (w : ℕ) → k < length xs → x ≡ get_or xs k x → w ≡ weight x → greatest_weight weight xs ≤ w → w ≡ greatest_weight weight xs
  greatest_met xs k x w lt is heavy most =
      let h = greatest_remove xs k x lt in
      let here = ap weight is in
      omega (arith, h, heavy, here, most)

  -- a walk from the first on, with the greatest weight of those before `k`
  pub walk_on : (xs : List X) (k : ℕ) (x : X) (whole top : ℕ) → k < length xs → x ≡ get_or xs k x → whole ≡ max top (greatest_weight weight (drop k xs)) → whole ≡ max (max top (weight x)) (greatest_weight weight (drop (k + 1) xs))
  walk_on xs k x whole top lt is so =
      let more = greatest_more xs k x lt in
      let here = ap weight is in
      let next : suc k ≡ k + 1 = omega arith in
      let same = ap (λ n. greatest_weight weight (drop n xs)) next in
      omega (arith, more, here, same, so)

  pub walk_ended : (xs : List X) (k : ℕ) (whole top : ℕ) → length xs ≤ k → whole ≡ max top (greatest_weight weight (drop k xs)) → top ≡ whole
  walk_ended xs k whole top past so =
      let none = ap (greatest_weight weight) (drop_all k xs past) in
      omega (arith, none, greatest_none, so)

  -- a search that has come to `k`
  pub find_next : (p : X → Bool) (xs : List X) (k : ℕ) (d : X) → k < length xs → p (get_or xs k d) ≡ false → find p (drop k xs) ≡ find p (drop (suc k) xs)
  find_next p xs k d lt is = rw (drop-cons xs k d lt, is) refl

  -- past one that is too light
  pub find_on : (least : ℕ) (xs : List X) (k : ℕ) (x : X) (found : Option X) → k < length xs → x ≡ get_or xs k x → weight x < least → found ≡ find (weighs weight least) (drop k xs) → found ≡ find (weighs weight least) (drop (k + 1) xs)
  find_on least xs k x found lt is light so =
      let next : suc k ≡ k + 1 = omega arith in
      let fails : weighs weight least x ≡ false = search (rules, light) in
      so ∙ find_next (weighs weight least) xs k x lt (ap (weighs weight least) (sym is) ∙ fails) ∙ ap (λ n. find (weighs weight least) (drop n xs)) next

  -- where none weighs so much, none is found
  pub find_none : (least : ℕ) (xs : List X) → greatest_weight weight xs < least → find (weighs weight least) xs ≡ None
  find_none least [] lt = refl
  find_none least (x ∷ xs) lt =
      let head = greatest_head x xs in
      let light : weight x < least = omega (arith, head) in
      let rest = find_none least xs (omega (arith, head)) in
      search (rules, light, rest)

  -- the greatest weight after one was taken out that weighs less,
  pub top_left : (xs : List X) (p : ℕ) (x : X) (top w : ℕ) → top ≡ greatest_weight weight xs → w ≡ weight x → p < length xs → x ≡ get_or xs p x → w ≢ top → top ≡ greatest_weight weight (remove xs p)
  top_left xs p x top w is heavy lt at other =
      let h = greatest_remove xs p x lt in
      let here = ap weight at in
      omega (arith, h, is, heavy, here, other)

  -- it is no greater once one was taken out,
  pub less_removed : (xs : List X) (p : ℕ) (x : X) (top : ℕ) → top ≡ greatest_weight weight xs → p < length xs → greatest_weight weight (remove xs p) ≤ top
  less_removed xs p x top is lt = let h = greatest_remove xs p x lt in omega (arith, h, is)

  -- nor where another took the place of one, or else as great as its weight,
  greatest_put : (xs : List X) (p : ℕ) (x d : X) → p < length xs → (greatest_weight weight xs ≡ max (weight (get_or xs p d)) (greatest_weight weight (remove xs p))) × (greatest_weight weight (insert (remove xs p) p x) ≡ max (weight x) (greatest_weight weight (remove xs p)))
  greatest_put xs p x d lt = (greatest_remove xs p d lt, greatest_insert (remove xs p) p x)

  pub most_put : (xs : List X) (p : ℕ) (x : X) (top : ℕ) → top ≡ greatest_weight weight xs → p < length xs → greatest_weight weight (insert (remove xs p) p x) ≤ max top (weight x)
  most_put xs p x top is lt = let h = greatest_put xs p x x lt in omega (arith, h, is)

  -- which leaves it where the other weighed less,
  pub top_put_same : (xs : List X) (p : ℕ) (x y : X) (top w v : ℕ) → top ≡ greatest_weight weight xs → w ≡ weight x → w < top → v ≡ weight y → y ≡ get_or xs p y → v ≢ top → p < length xs → top ≡ greatest_weight weight (insert (remove xs p) p x)
  top_put_same xs p x y top w v is heavy less was at other lt =
      let h = greatest_put xs p x y lt in
      let here = ap weight at in
      omega (arith, h, is, heavy, was, here, other)

  -- and is the new one's weight where that is no less
  pub top_put_high : (xs : List X) (p : ℕ) (x : X) (top w : ℕ) → top ≡ greatest_weight weight xs → w ≡ weight x → top ≤ w → p < length xs → w ≡ greatest_weight weight (insert (remove xs p) p x)
  top_put_high xs p x top w is heavy more lt = let h = greatest_put xs p x x lt in omega (arith, h, is, heavy)

  -- nor among the first, or among the rest
  pub less_taken : (xs : List X) (k top : ℕ) → top ≡ greatest_weight weight xs → greatest_weight weight (take k xs) ≤ top
  less_taken xs k top is =
      let parts = greatest_append (take k xs) (drop k xs) in
      let whole = ap (greatest_weight weight) (take-append-drop k xs) in
      omega (arith, parts, whole, is)

  pub less_dropped : (xs : List X) (k top : ℕ) → top ≡ greatest_weight weight xs → greatest_weight weight (drop k xs) ≤ top
  less_dropped xs k top is =
      let parts = greatest_append (take k xs) (drop k xs) in
      let whole = ap (greatest_weight weight) (take-append-drop k xs) in
      omega (arith, parts, whole, is)
