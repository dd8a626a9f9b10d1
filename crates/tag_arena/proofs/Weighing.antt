-- First entries of a weight from a key on.
use Rattle.std.proofs.Common.{◌≡◌, ℕ, zero, suc, ◌+◌, ◌-◌, ◌<◌, ◌≤◌, refl, sym, ap, ◌∙◌, ⊎_elim, Bool, true, false, cond, not, nat_lt, List, [], ◌∷◌, length, get_or, drop, Contains, None, Some, arith}
use Rattle.std.specs.List.{find}
use Rattle.std.proofs.lemmas.List.{get_or_default, get_or-drop, length-drop}
use Rattle.std.proofs.lemmas.Bool.{cases_lt, ltb-true, ltb-false, not-false}
use Rattle.sorted_rows.specs.Order.{Rises, place_below}
use Rattle.sorted_rows.specs.Weights.{weighs, first_heavy_from}
use Rattle.tag_arena.proofs.Listing.{None≢Some, Some-injective, rank_at_place}

-- a weight that is enough, and one that isn't
enough_by : (b : Bool) → not b ≡ true → b ≡ false
enough_by true e = let h : false ≡ true = e in cc
enough_by false e = refl

module _ {X : Type 0} (p : X → Bool) where
  -- where an element was found
  pub record IsFoundAt (xs : List X) (x : X) : Type 0 where
    pub place : ℕ
    pub within : place < length xs
    pub here : get_or xs place x ≡ x
    pub passes : p x ≡ true
    pub before : (j : ℕ) (d : X) → j < place → p (get_or xs j d) ≡ false

  found_more : (y : X) (ys : List X) (x : X) → p y ≡ false → IsFoundAt ys x → IsFoundAt (y ∷ ys) x
  found_more y ys x fails r = record {
    place = suc r.place;
    within = omega (arith, r.within);
    here = r.here;
    passes = r.passes;
    before = before_more;
  }
    where
      before_more : (j : ℕ) (d : X) → j < suc r.place → p (get_or (y ∷ ys) j d) ≡ false
      before_more zero d lt = fails
      before_more (suc j) d lt = r.before j d (omega (arith, lt))

  found_by : (b : Bool) (y : X) (ys : List X) (x : X) → p y ≡ b → (find p ys ≡ Some x → IsFoundAt ys x) → cond b (Some y) (find p ys) ≡ Some x → IsFoundAt (y ∷ ys) x
  found_by true y ys x is rest e =
      let same : y ≡ x = Some-injective e in
      record {
        place = zero;
        within = omega arith;
        here = same;
        passes = ap p (sym same) ∙ is;
        before = λ j d lt. absurd (omega (arith, lt));
      }
  found_by false y ys x is rest e = found_more y ys x is (rest e)

  pub found_at : (xs : List X) (x : X) → find p xs ≡ Some x → IsFoundAt xs x
  found_at [] x e = absurd (None≢Some e)
  found_at (y ∷ ys) x e = found_by (p y) y ys x refl (found_at ys x) e

  lost_by : (b : Bool) (y : X) (ys : List X) → p y ≡ b → cond b (Some y) (find p ys) ≡ None → (p y ≡ false) × (find p ys ≡ None)
  lost_by true y ys is e = absurd (None≢Some (sym e))
  lost_by false y ys is e = (is, e)

  -- where none was found none passes
  pub lost_at : (xs : List X) → find p xs ≡ None → (j : ℕ) (d : X) → j < length xs → p (get_or xs j d) ≡ false
  lost_at [] e j d lt = absurd (omega (arith, lt))
  lost_at (y ∷ ys) e zero d lt = (lost_by (p y) y ys refl e).0
  lost_at (y ∷ ys) e (suc j) d lt = lost_at ys (lost_by (p y) y ys refl e).1 j d (omega (arith, lt))

module _ {X : Type 0} (rank weight : X → ℕ) (key least : ℕ) (xs : List X) (rises : Rises rank xs) where
  -- what is found weighs enough, and none between the key and it does
  pub record IsHeavy (e : X) : Type 0 where
    pub place : ℕ
    pub behind : place_below rank key xs ≤ place
    pub within : place < length xs
    pub here : get_or xs place e ≡ e
    pub enough : least ≤ weight e
    pub lighter : (x : X) → Contains xs x → key ≤ rank x → rank x < rank e → weight x < least

  -- a member at or above the key, among those from its place on
  left_at : (x : X) (c : Contains xs x) → key ≤ rank x → (place_below rank key xs ≤ c.0) × (get_or (drop (place_below rank key xs) xs) (c.0 - place_below rank key xs) x ≡ x)
  left_at x c above =
      let p = place_below rank key xs in
      let at = rank_at_place rank key xs rises in
      let le : p ≤ c.0 = ⊎_elim (λ lt. let h = at.before c.0 x lt in let one = ap rank c.2 in absurd (omega (arith, h, one, above))) (λ ge. ge) (cases_lt c.0 p) in
      let back : p + (c.0 - p) ≡ c.0 = omega (arith, le) in
      (le, get_or-drop p xs (c.0 - p) x ∙ (ap (λ k. get_or xs k x) back ∙ c.2))

  light_by : (x : X) → weighs weight least x ≡ false → weight x < least
  light_by x e = ltb-true (weight x) least (not-false (nat_lt (weight x) least) e)

  pub is_heavy : (e : X) → first_heavy_from rank weight key least xs ≡ Some e → IsHeavy e
  is_heavy e found =
      let p = place_below rank key xs in
      let w = found_at (weighs weight least) (drop p xs) e found in
      let long = length-drop p xs in
      let inside : p + w.place < length xs = omega (arith, w.within, long) in
      let here : get_or xs (p + w.place) e ≡ e = sym (get_or-drop p xs w.place e) ∙ w.here in
      let test = ltb-false (weight e) least (enough_by (nat_lt (weight e) least) w.passes) in
      record {
        place = p + w.place;
        behind = omega arith;
        within = inside;
        here = here;
        enough = omega (arith, test);
        lighter = λ x c above less.
            let at = left_at x c above in
            let one = ap rank (get_or_default xs c.0 e x c.1 ∙ c.2) in
            let rank_e = ap rank here in
            let near : c.0 - p < w.place = ⊎_elim (λ lt. omega (arith, lt, at.0))
            (λ ge. ⊎_elim (λ lt. let h = rises (p + w.place) c.0 e lt c.1 in absurd (omega (arith, h, one, rank_e, less)))
            (λ le. let same : c.0 ≡ p + w.place = omega (arith, ge, le) in let h = ap (λ k. rank (get_or xs k e)) same in absurd (omega (arith, h, one, rank_e, less)))
            (cases_lt (p + w.place) c.0))
            (cases_lt c.0 (p + w.place)) in
            light_by x (ap (weighs weight least) (sym at.1) ∙ w.before (c.0 - p) x near);
      }

  -- where nothing is found none weighs enough
  pub none_heavy : first_heavy_from rank weight key least xs ≡ None → (x : X) → Contains xs x → key ≤ rank x → weight x < least
  none_heavy none x c above =
      let p = place_below rank key xs in
      let at = left_at x c above in
      let long = length-drop p xs in
      light_by x (ap (weighs weight least) (sym at.1) ∙ lost_at (weighs weight least) (drop p xs) none (c.0 - p) x (omega (arith, at.0, c.1, long)))

  -- a later key has fewer entries behind it
  pub heavy_grows : (e : X) (next : ℕ) → IsHeavy e → rank e < next → length xs - place_below rank next xs < length xs - place_below rank key xs
  heavy_grows e next f lt =
      let p = place_below rank key xs in
      let q = place_below rank next xs in
      let at = rank_at_place rank next xs rises in
      let h : f.place < q = ⊎_elim (λ less. less) (λ ge. let a = at.after f.place e ge f.within in let b = ap rank f.here in absurd (omega (arith, a, b, lt))) (cases_lt f.place q) in
      omega (arith, h, f.behind, f.within, at.within)
