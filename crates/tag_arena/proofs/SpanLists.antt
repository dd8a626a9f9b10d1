-- Lists of ranges that don't overlap, in parts and without one of them.
use Rattle.std.proofs.Common.{◌≡◌, ◌⊎◌, ℕ, ◌<◌, Bool, true, false, cond, not, nat_eq, refl, sym, subst, ap, ◌∙◌, inl, inr, ⊎_elim, List, [], ◌∷◌, ◌++◌, map, length, get_or, remove, filter, HoldsAt, Contains, All, AllPairs, Option, Some, None, MatchOption, arith}
use Rattle.std.proofs.lemmas.Bool.{cases_order}
use Rattle.std.proofs.lemmas.Bool.Decides.{nat_tests}
use Rattle.std.proofs.lemmas.List.Elements.{All-contains, All-append, Contains-get_or, Contains-append_left, Contains-append_right, Contains-append_cases}
use Rattle.std.proofs.lemmas.List.Kept.{AllPairs-filter, AllPairs-cons}
use Rattle.deed_core.specs.Holding.{Holding, Apart}
use Rattle.tag_arena.specs.Calls.{ranges_without}
use Rattle.tag_arena.proofs.Members.{Contains-head, Contains-tail, Contains-cases, Contains-nil, Contains-filter, Contains-from_filter, AllPairs-append, AllPairs-head, AllPairs-tail, All-from_members, filter_one}
use Rattle.tag_arena.proofs.Ranges.{not_both, same_where_shared}
use Rattle.tag_arena.proofs.Removing.{IsWithout}

module _ {X : Type 0} (R : X → X → Type 0) where
  -- a list in two parts
  pub AllPairs-cross : (xs ys : List X) → AllPairs R (xs ++ ys) → (x y : X) → Contains xs x → Contains ys y → R x y
  AllPairs-cross [] ys h x y in-x in-y = absurd (Contains-nil x in-x)
  AllPairs-cross (z ∷ xs) ys h x y in-x in-y =
      ⊎_elim (λ (e : z ≡ x). subst (λ k. R k y) e (All-contains (R z) (xs ++ ys) y (AllPairs-head R z (xs ++ ys) h) (Contains-append_right xs ys y in-y)))
      (λ later. AllPairs-cross xs ys (AllPairs-tail R z (xs ++ ys) h) x y later in-y) (Contains-cases z x xs in-x)

  pub AllPairs-first : (xs ys : List X) → AllPairs R (xs ++ ys) → AllPairs R xs
  AllPairs-first [] ys h = λ i j d lt below. absurd (omega (arith, below))
  AllPairs-first (z ∷ xs) ys h =
      AllPairs-cons R z xs (All-from_members (R z) xs (λ x in-x. All-contains (R z) (xs ++ ys) x (AllPairs-head R z (xs ++ ys) h) (Contains-append_left xs ys x in-x)))
      (AllPairs-first xs ys (AllPairs-tail R z (xs ++ ys) h))

  pub AllPairs-second : (xs ys : List X) → AllPairs R (xs ++ ys) → AllPairs R ys
  AllPairs-second [] ys h = h
  AllPairs-second (z ∷ xs) ys h = AllPairs-second xs ys (AllPairs-tail R z (xs ++ ys) h)

-- a filter by what a function gives
pub map-filter : {X Y : Type 0} (g : X → Y) (p : Y → Bool) (xs : List X) → map g (filter (λ x. p (g x)) xs) ≡ filter p (map g xs)
map-filter g p [] = refl
map-filter g p (x ∷ xs) = by (p (g x)) refl (map-filter g p xs)
  where
    by : (b : Bool) → p (g x) ≡ b → map g (filter (λ x. p (g x)) xs) ≡ filter p (map g xs) → map g (cond (p (g x)) (x ∷ filter (λ x. p (g x)) xs) (filter (λ x. p (g x)) xs)) ≡ cond (p (g x)) (g x ∷ filter p (map g xs)) (filter p (map g xs))
    by true e more = ap (λ b. map g (cond b (x ∷ filter (λ x. p (g x)) xs) (filter (λ x. p (g x)) xs))) e ∙ ap (λ ys. g x ∷ ys) more ∙ ap (λ b. cond b (g x ∷ filter p (map g xs)) (filter p (map g xs))) (sym e)
    by false e more = ap (λ b. map g (cond b (x ∷ filter (λ x. p (g x)) xs) (filter (λ x. p (g x)) xs))) e ∙ more ∙ ap (λ b. cond b (g x ∷ filter p (map g xs)) (filter p (map g xs))) (sym e)

pub Contains-map : {X Y : Type 0} (g : X → Y) (xs : List X) (x : X) → Contains xs x → Contains (map g xs) (g x)
Contains-map g [] x h = absurd (Contains-nil x h)
Contains-map g (y ∷ ys) x h =
    ⊎_elim (λ (e : y ≡ x). subst (λ k. Contains (g y ∷ map g ys) (g k)) e (Contains-head (g y) (map g ys))) (λ later. Contains-tail (g y) (g x) (map g ys) (Contains-map g ys x later)) (Contains-cases y x ys h)

-- and back
pub Contains-from_map : {X Y : Type 0} (g : X → Y) (xs : List X) (y : Y) → Contains (map g xs) y → (x : X) × Contains xs x × (g x ≡ y)
Contains-from_map g [] y h = absurd (Contains-nil y h)
Contains-from_map g (x ∷ xs) y h =
    ⊎_elim (λ (e : g x ≡ y). (x, Contains-head x xs, e)) (λ later. let m = Contains-from_map g xs y later in (m.0, Contains-tail x m.0 xs m.1, m.2)) (Contains-cases (g x) y (map g xs) h)

abbrev not_at : Holding → Holding → Bool
not_at h x = not (nat_eq x.range.base h.range.base)

module _ (xs : List Holding) (some : (x : Holding) → Contains xs x → 0 < x.range.len) (apart : AllPairs Apart xs) (r : Holding) (in-r : Contains xs r) where
  same_base : (x : Holding) → Contains xs x → x.range.base ≡ r.range.base → x ≡ r
  same_base x in-x e =
      let px = some x in-x in
      let pr = some r in-r in
      same_where_shared xs x r x.range.base apart in-x in-r (omega arith, omega (arith, px)) (omega (arith, e), omega (arith, e, pr))

  by_test : (x : Holding) → Contains xs x → (b : Bool) → not_at r x ≡ b → (x ≡ r) ⊎ Contains (ranges_without r xs) x
  by_test x in-x true e = inr (Contains-filter (not_at r) xs x in-x e)
  by_test x in-x false e = inl (same_base x in-x (grind (arith, nat_tests)))

  passes_not : (x : Holding) → not_at r x ≡ true → x ≡ r → ⊥
  passes_not x e same =
      let base : x.range.base ≡ r.range.base = ap (λ (y : Holding). y.range.base) same in
      grind (arith, nat_tests)

  pub without_is : IsWithout r xs (ranges_without r xs)
  without_is = record {
    kept = λ x h. (Contains-from_filter (not_at r) xs x h).0;
    others = λ x h. by_test x h (not_at r x) refl;
    gone = λ x h e. passes_not x (Contains-from_filter (not_at r) xs x h).1 e;
    apart = AllPairs-filter Apart (not_at r) xs apart;
  }

  -- the list without the member at its place
  turned : (x y : Holding) → Apart x y → Apart y x
  turned x y h = ⊎_elim inr inl h

  module _ (at : ℕ) (within : at < length xs) (here : HoldsAt (λ x. x ≡ r) xs at) where
    apart_there : (j : ℕ) (d : Holding) → j < length xs → (j ≡ at → ⊥) → Apart (get_or xs j d) r
    apart_there j d lt ne =
        elim (cases_order j at) [
          | inl e ↦ absurd (ne e)
          | inr (inl before) ↦ subst (Apart (get_or xs j d)) (here d) (apart j at d before within)
          | inr (inr after) ↦ turned r (get_or xs j d) (subst (λ (x : Holding). Apart x (get_or xs j d)) (here d) (apart at j d after lt))
        ]

    differs : (x : Holding) → 0 < x.range.len → Apart x r → not_at r x ≡ true
    differs x px h = ⊎_elim (λ le. let pr = some r in-r in grind (arith, nat_tests)) (λ le. let pr = some r in-r in grind (arith, nat_tests)) h

    pub without-remove : remove xs at ≡ ranges_without r xs
    without-remove = sym (filter_one (not_at r) xs at within (λ d. let e : (get_or xs at d).range.base ≡ r.range.base = ap (λ (y : Holding). y.range.base) (here d) in grind (arith, nat_tests))
        (λ j d lt ne. differs (get_or xs j d) (some (get_or xs j d) (Contains-get_or xs j d lt)) (apart_there j d lt ne)))

-- the first part without one of its members
pub first_without : (xs ys : List Holding) (r : Holding) → ((x : Holding) → Contains (xs ++ ys) x → 0 < x.range.len) → AllPairs Apart (xs ++ ys) → Contains xs r → IsWithout r (xs ++ ys) (ranges_without r xs ++ ys)
first_without xs ys r some apart in-r =
    let w = without_is xs (λ x h. some x (Contains-append_left xs ys x h)) (AllPairs-first Apart xs ys apart) r in-r in
    record {
      kept = λ x h. ⊎_elim (λ l. Contains-append_left xs ys x (w.kept x l)) (λ g. Contains-append_right xs ys x g) (Contains-append_cases (ranges_without r xs) ys x h);
      others = λ x h. ⊎_elim (λ l. ⊎_elim inl (λ k. inr (Contains-append_left (ranges_without r xs) ys x k)) (w.others x l)) (λ g. inr (Contains-append_right (ranges_without r xs) ys x g)) (Contains-append_cases xs ys x h);
      gone = λ x h e. ⊎_elim (λ l. w.gone x l e) (λ g. both r x in-r g (some r (Contains-append_left xs ys r in-r)) e) (Contains-append_cases (ranges_without r xs) ys x h);
      apart = AllPairs-append Apart (ranges_without r xs) ys w.apart (AllPairs-second Apart xs ys apart) (λ x y in-x in-y. AllPairs-cross Apart xs ys apart x y (w.kept x in-x) in-y);
    }
  where
    both : (r x : Holding) → Contains xs r → Contains ys x → 0 < r.range.len → x ≡ r → ⊥
    both r x in-r in-x pr e =
        let h : Apart r r = subst (Apart r) e (AllPairs-cross Apart xs ys apart r x in-r in-x) in
        not_both r r r.range.base h (omega arith, omega (arith, pr)) (omega arith, omega (arith, pr))

-- and the second
pub second_without : (xs ys : List Holding) (r : Holding) → ((x : Holding) → Contains (xs ++ ys) x → 0 < x.range.len) → AllPairs Apart (xs ++ ys) → Contains ys r → IsWithout r (xs ++ ys) (xs ++ ranges_without r ys)
second_without xs ys r some apart in-r =
    let w = without_is ys (λ x h. some x (Contains-append_right xs ys x h)) (AllPairs-second Apart xs ys apart) r in-r in
    record {
      kept = λ x h. ⊎_elim (λ l. Contains-append_left xs ys x l) (λ g. Contains-append_right xs ys x (w.kept x g)) (Contains-append_cases xs (ranges_without r ys) x h);
      others = λ x h. ⊎_elim (λ l. inr (Contains-append_left xs (ranges_without r ys) x l)) (λ g. ⊎_elim inl (λ k. inr (Contains-append_right xs (ranges_without r ys) x k)) (w.others x g)) (Contains-append_cases xs ys x h);
      gone = λ x h e. ⊎_elim (λ l. both r x in-r l (some r (Contains-append_right xs ys r in-r)) e) (λ g. w.gone x g e) (Contains-append_cases xs (ranges_without r ys) x h);
      apart = AllPairs-append Apart xs (ranges_without r ys) (AllPairs-first Apart xs ys apart) w.apart (λ x y in-x in-y. AllPairs-cross Apart xs ys apart x y in-x (w.kept y in-y));
    }
  where
    both : (r x : Holding) → Contains ys r → Contains xs x → 0 < r.range.len → x ≡ r → ⊥
    both r x in-r in-x pr e =
        let h : Apart r r = subst (λ (y : Holding). Apart y r) e (AllPairs-cross Apart xs ys apart x r in-x in-r) in
        not_both r r r.range.base h (omega arith, omega (arith, pr)) (omega arith, omega (arith, pr))

-- one more in the first part
pub first_more : (xs ys : List Holding) (r : Holding) → AllPairs Apart (xs ++ ys) → ((s : Holding) → Contains (xs ++ ys) s → Apart s r) → AllPairs Apart ((xs ++ r ∷ []) ++ ys)
first_more xs ys r apart clear =
    AllPairs-append Apart (xs ++ r ∷ []) ys
    (AllPairs-append Apart xs (r ∷ []) (AllPairs-first Apart xs ys apart) (one_pair r) (λ x y in-x in-y. subst (Apart x) (only_one y in-y) (clear x (Contains-append_left xs ys x in-x))))
    (AllPairs-second Apart xs ys apart)
    (λ x y in-x in-y. ⊎_elim (λ l. AllPairs-cross Apart xs ys apart x y l in-y)
    (λ g. subst (λ (k : Holding). Apart k y) (only_one x g) (⊎_elim inr inl (clear y (Contains-append_right xs ys y in-y)))) (Contains-append_cases xs (r ∷ []) x in-x))
  where
    only_one : (y : Holding) → Contains (r ∷ []) y → r ≡ y
    only_one y h = ⊎_elim (λ e. e) (λ later. absurd (Contains-nil y later)) (Contains-cases r y [] h)

    one_pair : (r : Holding) → AllPairs Apart (r ∷ [])
    one_pair r i j d lt below = absurd (omega (arith, below))

-- a span found in the second part of a list
pub found_second : (xs ys : List Holding) (P : Holding → Type 0) (o : Option Holding) → All (λ s. ¬ P s) xs → MatchOption o (All (λ s. ¬ P s) ys) (λ s. Contains ys s × P s)
    → MatchOption o (All (λ s. ¬ P s) (xs ++ ys)) (λ s. Contains (xs ++ ys) s × P s)
found_second xs ys P None none h = All-append (λ s. ¬ P s) xs ys none h
found_second xs ys P (Some s) none h = (Contains-append_right xs ys s h.0, h.1)
