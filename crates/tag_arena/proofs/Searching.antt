-- First entries from a key on, and last ones up to a key.
use Rattle.std.proofs.Common.{◌≡◌, ℕ, ◌+◌, ◌-◌, ◌<◌, ◌≤◌, sym, ap, ◌∙◌, ⊎_elim, List, length, get_or, take, Contains, None, Some, arith}
use Rattle.std.proofs.lemmas.List.{get_or_default, get_or-take, length-take-le}
use Rattle.std.proofs.lemmas.Bool.{cases_lt}
use Rattle.std.proofs.lemmas.Option.{slice_get_cases}
use Rattle.sorted_rows.specs.Order.{Rises, first_from, last_to, place_below}
use Rattle.tag_arena.proofs.Listing.{None≢Some, Some-injective, rank_at_place}

module _ {X : Type 0} (rank : X → ℕ) (key : ℕ) (xs : List X) (rises : Rises rank xs) where
  -- what is found is a member at or above the key, and none between is
  pub record IsFirst (e : X) : Type 0 where
    pub within : place_below rank key xs < length xs
    pub here : get_or xs (place_below rank key xs) e ≡ e
    pub from : key ≤ rank e
    pub least : (x : X) → Contains xs x → key ≤ rank x → rank e ≤ rank x

  pub is_first : (e : X) → first_from rank key xs ≡ Some e → IsFirst e
  is_first e found =
      let p = place_below rank key xs in
      let at = rank_at_place rank key xs rises in
      ⊎_elim
      (λ w.
      let same : w.0 ≡ e = Some-injective (sym w.2 ∙ found) in
      let here : get_or xs p e ≡ e = get_or_default xs p e w.0 w.1 ∙ (w.3 ∙ same) in
      let rank_here = ap rank here in
      record {
        within = w.1;
        here = here;
        from = let h = at.after p e (omega arith) w.1 in omega (arith, h, rank_here);
        least = λ x c above.
            let one = ap rank (get_or_default xs c.0 e x c.1 ∙ c.2) in
            ⊎_elim
            (λ lt. let h = at.before c.0 e lt in absurd (omega (arith, h, one, above)))
            (λ ge. ⊎_elim (λ less. let h = rises p c.0 e less c.1 in omega (arith, h, one, rank_here))
            (λ back. let same_place : c.0 ≡ p = omega (arith, ge, back) in let h = ap (λ k. rank (get_or xs k e)) same_place in omega (arith, h, one, rank_here)) (cases_lt p c.0))
            (cases_lt c.0 p);
      })
      (λ n. absurd (None≢Some (sym n.1 ∙ found)))
      (slice_get_cases xs p).1

  -- where nothing is found all are below
  pub none_from : first_from rank key xs ≡ None → (x : X) → Contains xs x → rank x < key
  none_from none x c =
      let p = place_below rank key xs in
      let at = rank_at_place rank key xs rises in
      ⊎_elim
      (λ w. absurd (None≢Some (sym none ∙ w.2)))
      (λ n. let h = at.before c.0 x (omega (arith, n.0, c.1)) in let one = ap rank c.2 in omega (arith, h, one))
      (slice_get_cases xs p).1

  -- a later key has fewer entries behind it
  pub place_grows : (e : X) (next : ℕ) → IsFirst e → rank e < next → length xs - place_below rank next xs < length xs - place_below rank key xs
  place_grows e next f lt =
      let p = place_below rank key xs in
      let q = place_below rank next xs in
      let at = rank_at_place rank next xs rises in
      let h : p < q = ⊎_elim (λ less. less) (λ ge. let a = at.after p e ge f.within in let b = ap rank f.here in absurd (omega (arith, a, b, lt))) (cases_lt p q) in
      omega (arith, h, f.within, at.within)

  -- what is found is a member up to the key, and none between is
  pub record IsLast (e : X) : Type 0 where
    pub among : Contains xs e
    pub to : rank e ≤ key
    pub most : (x : X) → Contains xs x → rank x ≤ key → rank x ≤ rank e

  pub is_last : (e : X) → last_to rank key xs ≡ Some e → IsLast e
  is_last e found =
      let p = place_below rank (key + 1) xs in
      let at = rank_at_place rank (key + 1) xs rises in
      let long = length-take-le p xs at.within in
      let i = length (take p xs) - 1 in
      ⊎_elim
      (λ w.
      let same : w.0 ≡ e = Some-injective (sym w.2 ∙ found) in
      let here : get_or xs i e ≡ e = sym (get_or-take p xs i e (omega (arith, long, w.1))) ∙ (get_or_default (take p xs) i e w.0 w.1 ∙ (w.3 ∙ same)) in
      let rank_here = ap rank here in
      record {
        among = (i, omega (arith, long, w.1, at.within), here);
        to = let h = at.before i e (omega (arith, long, w.1)) in omega (arith, h, rank_here);
        most = λ x c low.
            let one = ap rank (get_or_default xs c.0 e x c.1 ∙ c.2) in
            ⊎_elim
            (λ lt. let h = rises c.0 i e lt (omega (arith, long, w.1, at.within)) in omega (arith, h, one, rank_here))
            (λ ge. ⊎_elim (λ more. let h = at.after c.0 e (omega (arith, long, w.1, more)) c.1 in absurd (omega (arith, h, one, low)))
            (λ back. let same_place : c.0 ≡ i = omega (arith, ge, back) in let h = ap (λ k. rank (get_or xs k e)) same_place in omega (arith, h, one, rank_here)) (cases_lt i c.0))
            (cases_lt c.0 i);
      })
      (λ n. absurd (None≢Some (sym n.1 ∙ found)))
      (slice_get_cases (take p xs) i).1

  -- where nothing is found all are above
  pub none_to : last_to rank key xs ≡ None → (x : X) → Contains xs x → key < rank x
  none_to none x c =
      let p = place_below rank (key + 1) xs in
      let at = rank_at_place rank (key + 1) xs rises in
      let long = length-take-le p xs at.within in
      ⊎_elim
      (λ w. absurd (None≢Some (sym none ∙ w.2)))
      (λ n. let h = at.after c.0 x (omega (arith, n.0, long)) c.1 in let one = ap rank c.2 in omega (arith, h, one))
      (slice_get_cases (take p xs) (length (take p xs) - 1)).1
