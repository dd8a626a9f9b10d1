-- A struck entry, what is left without it, and an entry in its place.
use Rattle.std.proofs.Common.{◌≡◌, ◌≢◌, ℕ, suc, ◌+◌, ◌-◌, ◌<◌, ◌≤◌, List, [], ◌∷◌, ◌++◌, length, take, drop, set, get_or, sym, ap, refl, subst, ◌∙◌, arith, All, Any, inl, inr, None, Some, Option, IfSome, insert, remove, length-append}
use Rattle.std.specs.Prelude.{slice_get}
use Rattle.std.proofs.lemmas.Bool.{cases_lt, cases_order}
use Rattle.std.proofs.lemmas.Option.{slice_get-get_or, slice_get_past, slice_get_within, get_or_from_slice_get, none-some}
use Rattle.std.proofs.lemmas.List.{get_or_append_left, take-append-drop, length-take-le, take-append-le, take-take, drop_at, drop_all, set_split, get_or-append-add}
use Rattle.std.proofs.lemmas.List.Concat.{flat_map-append}
use Rattle.std.proofs.lemmas.List.Edits.{length-insert, length-remove, get_or-remove_below, get_or-remove_above}
use Rattle.std.proofs.lemmas.List.Elements.{All-set}
use Rattle.std.proofs.lemmas.List.Quantifiers.{all_pairs_remove}
use Rattle.sorted_rows.specs.declared.seats.Spot.{Spot}
use Rattle.sorted_rows.specs.Order.{Rises, IsRankAt, place_below, first_from, last_of, last_to}
use Rattle.sorted_rows.specs.Layout.{entries_in, left_in, place_in, IsLaid, IsSeat, IsSpot}
use Rattle.sorted_rows.proofs.PlaceLemmas.{below_is, below_stands, is_place, rises_insert}
use Rattle.sorted_rows.proofs.RowLemmas.{entries_at, entries_set, entries_remove, insert_inside, paired_set, any_of, place_in_seat, present_in_row}
use Rattle.sorted_rows.proofs.LastLemmas.{entry_in, last_of_first}

module _ {X : Type 0} where
  -- what stands before and behind one that is taken out
  pub front_left : (xs : List X) (p : ℕ) → p < length xs → take p (remove xs p) ≡ take p xs
  front_left xs p lt = take-append-le p (take p xs) (drop (suc p) xs) (omega (arith, length-take-le p xs (omega arith))) ∙ take-take p p xs (omega arith)

  back_left : (xs : List X) (p : ℕ) → p < length xs → drop p (remove xs p) ≡ drop (suc p) xs
  back_left xs p lt = drop_at (take p xs) (drop (suc p) xs) p (length-take-le p xs (omega arith))

  -- an entry in the place of another
  pub set_is : (xs : List X) (p : ℕ) (x : X) → p < length xs → set xs p x ≡ insert (remove xs p) p x
  set_is xs p x lt = set_split xs p x lt ∙ sym (ap (λ ys. ys ++ (x ∷ drop p (remove xs p))) (front_left xs p lt) ∙ ap (λ ys. take p xs ++ (x ∷ ys)) (back_left xs p lt))

  -- how many stand in the first rows, and in the others
  split_length : (rows : List (List X)) (k : ℕ) → length (entries_in rows) ≡ length (entries_in (take k rows)) + length (entries_in (drop k rows))
  split_length rows k = ap length (ap entries_in (sym (take-append-drop k rows)) ∙ flat_map-append (λ r. r) (take k rows) (drop k rows)) ∙ length-append (entries_in (take k rows)) (entries_in (drop k rows))

  pub next_place : (rows : List (List X)) (i : ℕ) (r : List X) → i < length rows → r ≡ get_or rows i [] → length (entries_in (take (suc i) rows)) ≡ length (entries_in (take i rows)) + length r
  next_place rows i r lt e =
      let a = entries_in (take i rows) in
      let b = entries_in (drop (suc i) rows) in
      let whole : entries_in rows ≡ a ++ (r ++ b) = rw e (entries_at rows i [] lt) in
      omega (arith, split_length rows (suc i), ap length whole, length-append a (r ++ b), length-append r b)

  -- a spot is a place in the whole list
  pub spot_within : (rows : List (List X)) (s : Spot) → IsSpot rows s → place_in rows s.seat s.place < length (entries_in rows)
  spot_within rows s at = (entry_in rows s.seat s.place (get_or rows s.seat []) (any_of (get_or rows s.seat []) s.place at.1) at.0 refl at.1).0

  -- how many are left
  pub one_less : (rows : List (List X)) (s : Spot) → IsSpot rows s → length (left_in rows (Some s)) + 1 ≡ length (entries_in rows)
  one_less rows s at = length-remove (entries_in rows) (place_in rows s.seat s.place) (spot_within rows s at)

  pub no_more : (rows : List (List X)) (struck : Option Spot) → IfSome struck (IsSpot rows) → length (left_in rows struck) ≤ length (entries_in rows)
  no_more rows None at = omega arith
  no_more rows (Some s) at = omega (arith, one_less rows s at)

  -- what stands behind a spot: in its row,
  pub behind_here : (rows : List (List X)) (i p : ℕ) (r : List X) (x : X) → i < length rows → r ≡ get_or rows i [] → p + 1 < length r → ((d : X) → x ≡ get_or r (p + 1) d) → Some x ≡ slice_get (entries_in rows) (place_in rows i p + 1)
  behind_here rows i p r x lt e less is =
      let at = entry_in rows i (p + 1) r x lt e less in
      let same : place_in rows i p + 1 ≡ place_in rows i (p + 1) = omega arith in
      sym (ap (slice_get (entries_in rows)) same ∙ (slice_get-get_or (entries_in rows) (place_in rows i (p + 1)) x at.0 ∙ ap Some (at.1 ∙ sym (is x))))

  -- or at the head of the next,
  pub behind_next : (rows : List (List X)) (i p next : ℕ) (r s : List X) (x : X) → i < length rows → r ≡ get_or rows i [] → p + 1 ≡ length r → next ≡ suc i → next < length rows → s ≡ get_or rows next [] → 0 < length s → ((d : X) → x ≡ get_or s 0 d) → Some x ≡ slice_get (entries_in rows) (place_in rows i p + 1)
  behind_next rows i p next r s x lt e end after lt2 is_s some is =
      let at = entry_in rows next 0 s x lt2 is_s some in
      let same : place_in rows i p + 1 ≡ place_in rows next 0 = rw after (omega (arith, next_place rows i r lt e, end)) in
      sym (ap (slice_get (entries_in rows)) same ∙ (slice_get-get_or (entries_in rows) (place_in rows next 0) x at.0 ∙ ap Some (at.1 ∙ sym (is x))))

  -- or nowhere
  pub behind_none : (rows : List (List X)) (i p : ℕ) (r : List X) → i < length rows → r ≡ get_or rows i [] → p + 1 ≡ length r → length rows ≤ suc i → None ≡ slice_get (entries_in rows) (place_in rows i p + 1)
  behind_none rows i p r lt e end past =
      let none : length (entries_in (drop (suc i) rows)) ≡ 0 = rw (drop_all (suc i) rows past) refl in
      sym (slice_get_past (entries_in rows) (place_in rows i p + 1) (omega (arith, next_place rows i r lt e, split_length rows (suc i), none, end)))

  -- what stands before a spot: in its row,
  pub before_here : (rows : List (List X)) (i p : ℕ) (r : List X) (x : X) → i < length rows → r ≡ get_or rows i [] → p < length r → 0 < p → ((d : X) → x ≡ get_or r (p - 1) d) → Some x ≡ last_of (take (place_in rows i p) (entries_in rows))
  before_here rows i p r x lt e less some is =
      let at = entry_in rows i (p - 1) r x lt e (omega arith) in
      let same : place_in rows i p - 1 ≡ place_in rows i (p - 1) = omega arith in
      let end : place_in rows i p ≤ length (entries_in rows) = omega (arith, at.0, same) in
      sym (last_of_first (entries_in rows) (place_in rows i p) x (omega arith) end ∙ ap Some (ap (λ k. get_or (entries_in rows) k x) same ∙ (at.1 ∙ sym (is x))))

  -- or at the end of the row before
  pub before_last : (rows : List (List X)) (i p prev n : ℕ) (r : List X) (x : X) → i < length rows → p ≡ 0 → prev + 1 ≡ i → r ≡ get_or rows prev [] → 0 < length r → n + 1 ≡ length r → ((d : X) → x ≡ get_or r n d) → Some x ≡ last_of (take (place_in rows i p) (entries_in rows))
  before_last rows i p prev n r x lt none before e some last is =
      let lt2 : prev < length rows = omega arith in
      let at = entry_in rows prev n r x lt2 e (omega arith) in
      let next : i ≡ suc prev = omega arith in
      let same : place_in rows i p ≡ place_in rows prev n + 1 = rw (next, none) (omega (arith, next_place rows prev r lt2 e, last)) in
      let less : place_in rows i p - 1 ≡ place_in rows prev n = omega (arith, same) in
      sym (last_of_first (entries_in rows) (place_in rows i p) x (omega (arith, same)) (omega (arith, same, at.0)) ∙ ap Some (ap (λ k. get_or (entries_in rows) k x) less ∙ (at.1 ∙ sym (is x))))

module _ {X : Type 0} (rank : X → ℕ) where
  pub left_rises : (rows : List (List X)) (struck : Option Spot) → IsLaid rank rows → IfSome struck (IsSpot rows) → Rises rank (left_in rows struck)
  left_rises rows None laid at = laid.rises
  left_rises rows (Some s) laid at = all_pairs_remove (λ x y. rank x < rank y) (entries_in rows) (place_in rows s.seat s.place) (spot_within rows s at) laid.rises

  -- the place of a key once another entry is taken out
  pub place_up_to : (key : ℕ) (xs : List X) (p q : ℕ) → Rises rank xs → p < length xs → IsRankAt rank key xs q → q ≤ p → IsRankAt rank key (remove xs p) q
  place_up_to key xs p q rises lt s le =
      let n = length-remove xs p lt in
      is_place rank key (remove xs p) q (all_pairs_remove (λ x y. rank x < rank y) xs p lt rises) (omega (arith, n))
      (λ d some. rw (get_or-remove_below xs p d (q - 1) (omega arith) lt) (s.before (q - 1) d (omega arith)))
      (λ d more. elim (cases_lt q p) [
        | inl h ↦ rw (get_or-remove_below xs p d q h lt) (s.after q d (omega arith) (omega arith))
        | inr h ↦ rw (get_or-remove_above xs p d q (omega arith) lt) (s.after (q + 1) d (omega arith) (omega (arith, n)))
      ])

  pub place_past : (key : ℕ) (xs : List X) (p q : ℕ) → Rises rank xs → p < length xs → IsRankAt rank key xs q → p < q → IsRankAt rank key (remove xs p) (q - 1)
  place_past key xs p q rises lt s more =
      let n = length-remove xs p lt in
      let same : q - 1 + 1 ≡ q = omega arith in
      let same2 : 1 < q → q - 1 - 1 + 1 ≡ q - 1 = λ h. omega arith in
      is_place rank key (remove xs p) (q - 1) (all_pairs_remove (λ x y. rank x < rank y) xs p lt rises) (omega (arith, n, s.within))
      (λ d some. elim (cases_lt (q - 1 - 1) p) [
        | inl h ↦ rw (get_or-remove_below xs p d (q - 1 - 1) h lt) (s.before (q - 1 - 1) d (omega arith))
        | inr h ↦ rw (get_or-remove_above xs p d (q - 1 - 1) h lt, same2 (omega arith)) (s.before (q - 1) d (omega arith))
      ])
      (λ d in_left. rw (get_or-remove_above xs p d (q - 1) (omega arith) lt, same) (s.after q d (omega arith) (omega (arith, n))))

  same_place : (xs : List X) (i j : ℕ) (d : X) → Rises rank xs → i < length xs → j < length xs → rank (get_or xs i d) ≡ rank (get_or xs j d) → i ≡ j
  same_place xs i j d rises lt lt2 same = elim (cases_order i j) [
    | inl h ↦ h
    | inr (inl h) ↦ let a = rises i j d h lt2 in absurd (omega (arith, a, same))
    | inr (inr h) ↦ let a = rises j i d h lt in absurd (omega (arith, a, same))
  ]

  -- the first at or above a key that isn't taken out: it is none where there was none,
  first_none : (key : ℕ) (xs : List X) (p : ℕ) → Rises rank xs → p < length xs → None ≡ first_from rank key xs → None ≡ first_from rank key (remove xs p)
  first_none key xs p rises lt none =
      let q = place_below rank key xs in
      let s = below_stands rank key xs rises in
      let x = any_of xs p lt in
      let end : length xs ≤ q = elim (cases_lt q (length xs)) [
        | inl h ↦ absurd (none-some (get_or xs q x) (none ∙ slice_get-get_or xs q x h))
        | inr h ↦ h
      ] in
      let at = place_past key xs p q rises lt s (omega arith) in
      sym (ap (slice_get (remove xs p)) (below_is rank key (remove xs p) (q - 1) x at) ∙ slice_get_past (remove xs p) (q - 1) (omega (arith, length-remove xs p lt)))

  pub first_none_left : (key : ℕ) (rows : List (List X)) (struck : Option Spot) → IsLaid rank rows → IfSome struck (IsSpot rows) → None ≡ first_from rank key (entries_in rows) → None ≡ first_from rank key (left_in rows struck)
  first_none_left key rows None laid at none = none
  first_none_left key rows (Some s) laid at none = first_none key (entries_in rows) (place_in rows s.seat s.place) laid.rises (spot_within rows s at) none

  -- the same where it was another,
  pub first_other : (key : ℕ) (xs : List X) (p : ℕ) (found y : X) → Rises rank xs → p < length xs → Some found ≡ first_from rank key xs → y ≡ get_or xs p y → rank found ≢ rank y → Some found ≡ first_from rank key (remove xs p)
  first_other key xs p found y rises lt is at other =
      let q = place_below rank key xs in
      let s = below_stands rank key xs rises in
      let within = slice_get_within xs q found (sym is) in
      let there = get_or_from_slice_get xs q found y (sym is) in
      let apart : q ≢ p = λ h. other (ap rank (sym there ∙ (ap (λ k. get_or xs k y) h ∙ sym at))) in
      let n = length-remove xs p lt in
      elim (cases_order q p) [
        | inl h ↦ absurd (apart h)
        | inr (inl h) ↦ sym (ap (slice_get (remove xs p)) (below_is rank key (remove xs p) q y (place_up_to key xs p q rises lt s (omega arith))) ∙ (slice_get-get_or (remove xs p) q y (omega (arith, n)) ∙ ap Some (get_or-remove_below xs p y q h lt ∙ there)))
        | inr (inr h) ↦
            let same : q - 1 + 1 ≡ q = omega arith in
            sym (ap (slice_get (remove xs p)) (below_is rank key (remove xs p) (q - 1) y (place_past key xs p q rises lt s h)) ∙ (slice_get-get_or (remove xs p) (q - 1) y (omega (arith, n)) ∙ ap Some (get_or-remove_above xs p y (q - 1) (omega arith) lt ∙ (ap (λ k. get_or xs k y) same ∙ there))))
      ]

  -- and the next one where it was this
  pub first_struck : (key : ℕ) (xs : List X) (p : ℕ) (found y : X) → Rises rank xs → p < length xs → Some found ≡ first_from rank key xs → y ≡ get_or xs p y → rank found ≡ rank y → slice_get xs (p + 1) ≡ first_from rank key (remove xs p)
  first_struck key xs p found y rises lt is at same_rank =
      let q = place_below rank key xs in
      let s = below_stands rank key xs rises in
      let within = slice_get_within xs q found (sym is) in
      let there = get_or_from_slice_get xs q found y (sym is) in
      let ranks : rank (get_or xs q y) ≡ rank (get_or xs p y) = ap rank there ∙ (same_rank ∙ ap rank at) in
      let here : q ≡ p = same_place xs q p y rises within lt ranks in
      let n = length-remove xs p lt in
      let to_place = ap (slice_get (remove xs p)) (below_is rank key (remove xs p) q y (place_up_to key xs p q rises lt s (omega arith)) ∙ here) in
      elim (cases_lt (p + 1) (length xs)) [
        | inl h ↦ slice_get-get_or xs (p + 1) y h ∙ sym (to_place ∙ (slice_get-get_or (remove xs p) p y (omega (arith, n)) ∙ ap Some (get_or-remove_above xs p y p (omega arith) lt)))
        | inr h ↦ slice_get_past xs (p + 1) h ∙ sym (to_place ∙ slice_get_past (remove xs p) p (omega (arith, n)))
      ]

  -- the last at or below a key that isn't taken out: it is none where there was none,
  last_none : (key : ℕ) (xs : List X) (p : ℕ) → Rises rank xs → p < length xs → None ≡ last_to rank key xs → None ≡ last_to rank key (remove xs p)
  last_none key xs p rises lt none =
      let u = place_below rank (key + 1) xs in
      let s = below_stands rank (key + 1) xs rises in
      let x = any_of xs p lt in
      let start : u ≡ 0 = elim (cases_lt 0 u) [
        | inl h ↦ absurd (none-some (get_or xs (u - 1) x) (none ∙ last_of_first xs u x h s.within))
        | inr h ↦ omega arith
      ] in
      sym (ap (λ n. last_of (take n (remove xs p))) (below_is rank (key + 1) (remove xs p) u x (place_up_to (key + 1) xs p u rises lt s (omega arith)) ∙ start))

  pub last_none_left : (key : ℕ) (rows : List (List X)) (struck : Option Spot) → IsLaid rank rows → IfSome struck (IsSpot rows) → None ≡ last_to rank key (entries_in rows) → None ≡ last_to rank key (left_in rows struck)
  last_none_left key rows None laid at none = none
  last_none_left key rows (Some s) laid at none = last_none key (entries_in rows) (place_in rows s.seat s.place) laid.rises (spot_within rows s at) none

  -- the same where it was another,
  last_there : (key : ℕ) (xs : List X) (found d : X) → Rises rank xs → Some found ≡ last_to rank key xs → (0 < place_below rank (key + 1) xs) × (found ≡ get_or xs (place_below rank (key + 1) xs - 1) d)
  last_there key xs found d rises is =
      let u = place_below rank (key + 1) xs in
      let s = below_stands rank (key + 1) xs rises in
      elim (cases_lt 0 u) [
        | inl h ↦ (h, let e : Some found ≡ Some (get_or xs (u - 1) d) = is ∙ last_of_first xs u d h s.within in cc)
        | inr h ↦
            let start : u ≡ 0 = omega arith in
            let none : None ≡ Some found = sym (is ∙ ap (λ n. last_of (take n xs)) start) in
            absurd (none-some found none)
      ]

  pub last_other : (key : ℕ) (xs : List X) (p : ℕ) (found y : X) → Rises rank xs → p < length xs → Some found ≡ last_to rank key xs → y ≡ get_or xs p y → rank found ≢ rank y → Some found ≡ last_to rank key (remove xs p)
  last_other key xs p found y rises lt is at other =
      let u = place_below rank (key + 1) xs in
      let s = below_stands rank (key + 1) xs rises in
      let there = last_there key xs found y rises is in
      let some = there.0 in
      let apart : u - 1 ≢ p = λ h. other (ap rank (there.1 ∙ (ap (λ k. get_or xs k y) h ∙ sym at))) in
      let n = length-remove xs p lt in
      elim (cases_order (u - 1) p) [
        | inl h ↦ absurd (apart h)
        | inr (inl h) ↦ sym (ap (λ n. last_of (take n (remove xs p))) (below_is rank (key + 1) (remove xs p) u y (place_up_to (key + 1) xs p u rises lt s (omega arith))) ∙ (last_of_first (remove xs p) u y some (omega (arith, n)) ∙ ap Some (get_or-remove_below xs p y (u - 1) h lt ∙ sym there.1)))
        | inr (inr h) ↦
            let same : u - 1 - 1 + 1 ≡ u - 1 = omega arith in
            let past = place_past (key + 1) xs p u rises lt s (omega arith) in
            sym (ap (λ n. last_of (take n (remove xs p))) (below_is rank (key + 1) (remove xs p) (u - 1) y past) ∙ (last_of_first (remove xs p) (u - 1) y (omega arith) past.within ∙ ap Some (get_or-remove_above xs p y (u - 1 - 1) (omega arith) lt ∙ (ap (λ k. get_or xs k y) same ∙ sym there.1))))
      ]

  -- and the one before it where it was this
  pub last_struck : (key : ℕ) (xs : List X) (p : ℕ) (found y : X) → Rises rank xs → p < length xs → Some found ≡ last_to rank key xs → y ≡ get_or xs p y → rank found ≡ rank y → last_of (take p xs) ≡ last_to rank key (remove xs p)
  last_struck key xs p found y rises lt is at same_rank =
      let u = place_below rank (key + 1) xs in
      let s = below_stands rank (key + 1) xs rises in
      let there = last_there key xs found y rises is in
      let some = there.0 in
      let within : u - 1 < length xs = omega (arith, s.within) in
      let ranks : rank (get_or xs (u - 1) y) ≡ rank (get_or xs p y) = ap rank (sym there.1) ∙ (same_rank ∙ ap rank at) in
      let here : u - 1 ≡ p = same_place xs (u - 1) p y rises within lt ranks in
      let past = place_past (key + 1) xs p u rises lt s (omega arith) in
      sym (ap (λ n. last_of (take n (remove xs p))) (below_is rank (key + 1) (remove xs p) (u - 1) y past ∙ here) ∙ ap last_of (front_left xs p lt))

  -- a key that lies between what stands before and behind a spot belongs there
  pub fits_place : (key : ℕ) (rows : List (List X)) (s : Spot) (r : List X) → IsLaid rank rows → IsSpot rows s → r ≡ get_or rows s.seat [] → IsSeat rank key rows s.seat
      → ((d : X) → 0 < s.place → rank (get_or r (s.place - 1) d) < key) → ((d : X) → s.place + 1 < length r → key ≤ rank (get_or r (s.place + 1) d)) → IsRankAt rank key (left_in rows (Some s)) (place_in rows s.seat s.place)
  fits_place key rows s r laid spot e seat above below =
      let i = s.seat in
      let p = s.place in
      let q = place_in rows i p in
      let xs = entries_in rows in
      let a = entries_in (take i rows) in
      let b = entries_in (drop (suc i) rows) in
      let lt = spot_within rows s spot in
      let n = length-remove xs q lt in
      let size = ap length e in
      let whole : xs ≡ a ++ (r ++ b) = rw e (entries_at rows i [] spot.0) in
      is_place rank key (remove xs q) q (left_rises rows (Some s) laid spot) (omega (arith, n))
      (λ d some. rw (get_or-remove_below xs q d (q - 1) (omega arith) lt) (elim (cases_lt 0 p) [
        | inl h ↦
            let less : p - 1 < length r = omega (arith, spot.1, size) in
            let same : q - 1 ≡ place_in rows i (p - 1) = omega arith in
            let at : get_or xs (q - 1) d ≡ get_or r (p - 1) d = ap (λ k. get_or xs k d) same ∙ (entry_in rows i (p - 1) r d spot.0 e less).1 in
            rw at (above d h)
        | inr h ↦
            let in_front : q - 1 < length a = omega arith in
            let at : get_or xs (q - 1) d ≡ get_or a (q - 1) d = ap (λ ys. get_or ys (q - 1) d) whole ∙ get_or_append_left a (r ++ b) d (q - 1) in_front in
            rw at (seat.before (q - 1) d in_front)
      ]))
      (λ d more. rw (get_or-remove_above xs q d q (omega arith) lt) (elim (cases_lt (p + 1) (length r)) [
        | inl h ↦
            let same : q + 1 ≡ place_in rows i (p + 1) = omega arith in
            let at : get_or xs (q + 1) d ≡ get_or r (p + 1) d = ap (λ k. get_or xs k d) same ∙ (entry_in rows i (p + 1) r d spot.0 e h).1 in
            rw at (below d h)
        | inr h ↦
            let same : q + 1 ≡ length a + (length r + 0) = omega (arith, spot.1, size) in
            let in_b : 0 < length b = omega (arith, n, ap length whole, length-append a (r ++ b), length-append r b, spot.1, size, same) in
            let at : get_or xs (q + 1) d ≡ get_or b 0 d = ap (λ k. get_or xs k d) same ∙ (ap (λ ys. get_or ys (length a + (length r + 0)) d) whole ∙ (get_or-append-add a (r ++ b) (length r + 0) d ∙ get_or-append-add r b 0 d)) in
            let high = seat.after 0 d in_b in
            rw at (omega (arith, high))
      ]))

  -- an entry put there
  pub laid_set : (x : X) (rows : List (List X)) (s : Spot) (r new : List X) → IsLaid rank rows → IsSpot rows s → r ≡ get_or rows s.seat [] → IsRankAt rank (rank x) (left_in rows (Some s)) (place_in rows s.seat s.place) → All (λ y. rank y ≢ rank x) (left_in rows (Some s)) → new ≡ insert (remove r s.place) s.place x
      → IsLaid rank (set rows s.seat new) × (entries_in (set rows s.seat new) ≡ insert (left_in rows (Some s)) (place_below rank (rank x) (left_in rows (Some s))) x)
  laid_set x rows s r new laid spot e at absent is =
      let i = s.seat in
      let p = s.place in
      let a = entries_in (take i rows) in
      let b = entries_in (drop (suc i) rows) in
      let less : p < length r = rw e spot.1 in
      let n = length-remove r p less in
      let m = length-insert (remove r p) p x (omega (arith, n)) in
      let size : length new ≡ length r = omega (arith, ap length is, n, m) in
      let left : left_in rows (Some s) ≡ a ++ (remove r p ++ b) = sym (entries_remove rows i p r [] spot.0 e less) ∙ entries_set rows i (remove r p) spot.0 in
      let same : entries_in (set rows i new) ≡ insert (left_in rows (Some s)) (place_in rows i p) x = entries_set rows i new spot.0 ∙ (ap (λ ys. a ++ (ys ++ b)) is ∙ sym (ap (λ ys. insert ys (place_in rows i p) x) left ∙ insert_inside a (remove r p) b p x (omega (arith, n)))) in (
        record {
          rises = rw same (rises_insert rank (left_in rows (Some s)) (place_in rows i p) x (left_rises rows (Some s) laid spot) at absent);
          filled = All-set (λ r. 0 < length r) rows i new (omega (arith, size, less)) laid.filled;
          paired = paired_set rows i new spot.0 (omega (arith, size, ap length e)) laid.paired;
        },
        same ∙ ap (λ k. insert (left_in rows (Some s)) k x) (sym (below_is rank (rank x) (left_in rows (Some s)) (place_in rows i p) x at)),
      )

  -- where a key that is there was found, an entry stands, in its place in the whole list
  pub found_spot : (key : ℕ) (rows : List (List X)) (s : Spot) (xs : List X) → IsLaid rank rows → entries_in rows ≡ xs → s.seat < length rows → IsSeat rank key rows s.seat → IsRankAt rank key (get_or rows s.seat []) s.place → Any (λ x. rank x ≡ key) xs → IsSpot rows s × (place_below rank key xs ≡ place_in rows s.seat s.place)
  found_spot key rows s xs laid same lt seat place any =
      let less = present_in_row rank key rows s.seat s.place (get_or rows s.seat []) laid.rises lt refl seat place (subst (Any (λ x. rank x ≡ key)) (sym same) any) in
      let at = place_in_seat rank key rows s.seat s.place [] lt seat place in
      ((lt, less), ap (place_below rank key) (sym same) ∙ below_is rank key (entries_in rows) (place_in rows s.seat s.place) (any_of (get_or rows s.seat []) s.place less) at)
