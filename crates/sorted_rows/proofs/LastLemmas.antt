-- The last entry at or below a key.
use Rattle.std.proofs.Common.{◌≡◌, ◌≢◌, ℕ, suc, ◌+◌, ◌-◌, ◌<◌, ◌≤◌, List, [], ◌++◌, length, take, drop, get_or, sym, ap, refl, subst, ◌∙◌, arith, inl, inr, None, Some, length-append}
use Rattle.std.proofs.lemmas.Bool.{cases_lt}
use Rattle.std.proofs.lemmas.List.{length-take-le, get_or-take, get_or_append_left, get_or-append-add}
use Rattle.std.proofs.lemmas.Option.{slice_get-get_or}
use Rattle.sorted_rows.specs.Order.{Rises, IsRankAt, last_of, last_to}
use Rattle.sorted_rows.specs.Layout.{entries_in, place_in, IsLaid, IsSeat}
use Rattle.sorted_rows.proofs.PlaceLemmas.{below_is, is_place, place_across}
use Rattle.sorted_rows.proofs.RowLemmas.{entries_at, any_of}

-- the last of the first ones
pub last_of_first : {X : Type 0} (xs : List X) (n : ℕ) (d : X) → 0 < n → n ≤ length xs → last_of (take n xs) ≡ Some (get_or xs (n - 1) d)
last_of_first xs n d some within =
    let long : length (take n xs) ≡ n = length-take-le n xs within in
    let end : length (take n xs) - 1 ≡ n - 1 = omega (arith, long) in
    slice_get-get_or (take n xs) (length (take n xs) - 1) d (omega (arith, long)) ∙ ap Some (ap (λ k. get_or (take n xs) k d) end ∙ get_or-take n xs (n - 1) d (omega arith))

module _ {X : Type 0} where
  -- what stands in a row's place, in the whole list
  pub entry_in : (rows : List (List X)) (i p : ℕ) (r : List X) (d : X) → i < length rows → r ≡ get_or rows i [] → p < length r → (place_in rows i p < length (entries_in rows)) × (get_or (entries_in rows) (place_in rows i p) d ≡ get_or r p d)
  entry_in rows i p r d lt e less =
      let a = entries_in (take i rows) in
      let b = entries_in (drop (suc i) rows) in
      let whole : entries_in rows ≡ a ++ (r ++ b) = rw e (entries_at rows i [] lt) in (
        omega (arith, ap length whole, length-append a (r ++ b), length-append r b),
        ap (λ xs. get_or xs (length a + p) d) whole ∙ (get_or-append-add a (r ++ b) p d ∙ get_or_append_left r b d p less),
      )

module _ {X : Type 0} (rank : X → ℕ) where
  -- past the entry of the key itself,
  pub up_past : (key : ℕ) (xs : List X) (p : ℕ) (x : X) → Rises rank xs → IsRankAt rank key xs p → p < length xs → ((d : X) → x ≡ get_or xs p d) → rank x ≡ key → IsRankAt rank (key + 1) xs (p + 1)
  up_past key xs p x rises s lt at is =
      let e : p + 1 - 1 ≡ p = omega arith in
      is_place rank (key + 1) xs (p + 1) rises (omega arith)
      (λ d _. let h = ap rank (at d) in rw e (omega (arith, h, is)))
      (λ d more. let h = ap rank (at d) in let r = rises p (p + 1) d (omega arith) more in omega (arith, h, is, r))

  -- or up to a greater one,
  pub up_to_greater : (key : ℕ) (xs : List X) (p : ℕ) (x : X) → Rises rank xs → IsRankAt rank key xs p → ((d : X) → x ≡ get_or xs p d) → rank x ≢ key → IsRankAt rank (key + 1) xs p
  up_to_greater key xs p x rises s at other = is_place rank (key + 1) xs p rises s.within
      (λ d some. let h = s.before (p - 1) d (omega arith) in omega (arith, h))
      (λ d more. let h = ap rank (at d) in let a = s.after p d (omega arith) more in omega (arith, h, a, other))

  -- or up to the end
  pub up_to_end : (key : ℕ) (xs : List X) (p : ℕ) → Rises rank xs → IsRankAt rank key xs p → length xs ≤ p → IsRankAt rank (key + 1) xs p
  up_to_end key xs p rises s end = is_place rank (key + 1) xs p rises s.within
      (λ d some. let h = s.before (p - 1) d (omega arith) in omega (arith, h))
      (λ d more. absurd (omega arith))

  -- how many stand at a key or below it in the row where it belongs, and in all
  up_in_seat : (key : ℕ) (rows : List (List X)) (i p : ℕ) (r : List X) → i < length rows → r ≡ get_or rows i [] → IsSeat rank key rows i → IsRankAt rank (key + 1) r p → IsRankAt rank (key + 1) (entries_in rows) (place_in rows i p)
  up_in_seat key rows i p r lt e s q =
      let whole : entries_in rows ≡ entries_in (take i rows) ++ (r ++ entries_in (drop (suc i) rows)) = rw e (entries_at rows i [] lt) in
      subst (λ xs. IsRankAt rank (key + 1) xs (place_in rows i p)) (sym whole) (place_across rank (key + 1) (entries_in (take i rows)) r (entries_in (drop (suc i) rows)) p (λ k d h. let a = s.before k d h in omega (arith, a)) q (λ k d h. let a = s.after k d h in omega (arith, a)))

  -- the last of them: in that row,
  pub last_here : (key : ℕ) (rows : List (List X)) (i p : ℕ) (r : List X) (x : X) → i < length rows → r ≡ get_or rows i [] → IsSeat rank key rows i → IsRankAt rank (key + 1) r p → 0 < p → ((d : X) → x ≡ get_or r (p - 1) d) → Some x ≡ last_to rank key (entries_in rows)
  last_here key rows i p r x lt e seat place some is =
      let at = up_in_seat key rows i p r lt e seat place in
      let within = place.within in
      let there = (entry_in rows i (p - 1) r x lt e (omega arith)).1 in
      let same : place_in rows i p - 1 ≡ place_in rows i (p - 1) = omega arith in
      sym (ap (λ n. last_of (take n (entries_in rows))) (below_is rank (key + 1) (entries_in rows) _ x at) ∙ (last_of_first (entries_in rows) (place_in rows i p) x (omega arith) at.within ∙ ap Some (ap (λ k. get_or (entries_in rows) k x) same ∙ (there ∙ sym (is x)))))

  -- or nowhere
  pub last_none : (key : ℕ) (rows : List (List X)) (i p : ℕ) (r : List X) → IsLaid rank rows → i < length rows → r ≡ get_or rows i [] → IsSeat rank key rows i → IsRankAt rank (key + 1) r p → p ≡ 0 → ((d : X) → 0 < i → rank (get_or r 0 d) ≤ key) → None ≡ last_to rank key (entries_in rows)
  last_none key rows i p r laid lt e seat place none first =
      let at = up_in_seat key rows i p r lt e seat place in
      let some : 0 < length r = rw e (laid.filled i [] lt) in
      let x = any_of r 0 some in
      let start : i ≡ 0 = elim (cases_lt 0 i) [
        | inl h ↦ let a = first x h in let b = place.after 0 x (omega arith) some in absurd (omega (arith, a, b))
        | inr h ↦ omega arith
      ] in
      let all : place_in rows i p ≡ 0 = rw (start, none) refl in
      sym (ap (λ n. last_of (take n (entries_in rows))) (below_is rank (key + 1) (entries_in rows) _ x at ∙ all))

-- how many stand at a key or below it
pub ruleset places_up_to = (up_past, up_to_greater, up_to_end)
