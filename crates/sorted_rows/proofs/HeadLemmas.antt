-- What describes rows, beside them.
use Rattle.std.proofs.Common.{◌≡◌, ◌≢◌, ℕ, ◌+◌, ◌-◌, ◌<◌, ◌≤◌, List, [], ◌∷◌, ◌++◌, None, length, set, get_or, sym, ap, subst, ◌∙◌, arith, insert, remove, inl, inr}
use Rattle.std.proofs.lemmas.Bool.{cases_lt, cases_order}
use Rattle.std.proofs.lemmas.List.{length-set, set-get_or, get_or_default, get_or-set_same, get_or-set_other}
use Rattle.std.proofs.lemmas.List.Edits.{length-insert, length-remove, get_or-remove_below, get_or-remove_above, get_or-insert_below, get_or-insert_at, get_or-insert_above, insert_end}
use Rattle.std.specs.List.{find}
use Rattle.sorted_rows.specs.Tops.{Describes, IsTop}
use Rattle.sorted_rows.specs.Weights.{greatest_weight, weighs}
use Rattle.sorted_rows.specs.declared.tops.TheConstants.{UNTOLD}
use Rattle.sorted_rows.proofs.WeightLemmas.{find_none}

module _ {H X : Type 0} (P : H → List X → Type 0) where
  -- the head of a row among them
  pub head_at : (heads : List H) (rows : List (List X)) (i : ℕ) (h : H) (r : List X) → Describes P heads rows → i < length rows → h ≡ get_or heads i h → r ≡ get_or rows i r → P h r
  head_at heads rows i h r are lt is_h is_r =
      let e : get_or rows i [] ≡ r = get_or_default rows i [] r lt ∙ sym is_r in
      subst (λ (k : H). P k r) (sym is_h) (subst (P (get_or heads i h)) e (are.each i h lt))

  -- a row and its head are replaced,
  pub heads_set : (heads : List H) (rows : List (List X)) (i : ℕ) (h : H) (r : List X) → Describes P heads rows → i < length rows → P h r → Describes P (set heads i h) (set rows i r)
  heads_set heads rows i h r are lt is = record {
    same = omega (arith, are.same, length-set heads i h, length-set rows i r);
    each = λ k d within.
        let in_rows : k < length rows = omega (arith, length-set rows i r) in
        let in_heads : i < length heads = omega (arith, are.same) in
        elim (cases_order k i) [
          | inl e ↦ rw (e, get_or-set_same heads i h d in_heads, get_or-set_same rows i r [] lt) is
          | inr (inl less) ↦ let other : k ≢ i = omega arith in rw (get_or-set_other heads i k h d other, get_or-set_other rows i k r [] other) (are.each k d in_rows)
          | inr (inr more) ↦ let other : k ≢ i = omega arith in rw (get_or-set_other heads i k h d other, get_or-set_other rows i k r [] other) (are.each k d in_rows)
        ];
  }

  -- taken out,
  pub heads_remove : (heads : List H) (rows : List (List X)) (i : ℕ) → Describes P heads rows → i < length rows → Describes P (remove heads i) (remove rows i)
  heads_remove heads rows i are lt =
      let lt_heads : i < length heads = omega (arith, are.same) in
      let n = length-remove rows i lt in
      record {
        same = omega (arith, are.same, n, length-remove heads i lt_heads);
        each = λ k d within. elim (cases_lt k i) [
          | inl less ↦ rw (get_or-remove_below heads i d k less lt_heads, get_or-remove_below rows i [] k less lt) (are.each k d (omega (arith, n)))
          | inr more ↦ rw (get_or-remove_above heads i d k more lt_heads, get_or-remove_above rows i [] k more lt) (are.each (k + 1) d (omega (arith, n)))
        ];
      }

  -- and put in
  pub heads_insert : (heads : List H) (rows : List (List X)) (i : ℕ) (h : H) (r : List X) → Describes P heads rows → i ≤ length rows → P h r → Describes P (insert heads i h) (insert rows i r)
  heads_insert heads rows i h r are le is =
      let le_heads : i ≤ length heads = omega (arith, are.same) in
      let n = length-insert rows i r le in
      record {
        same = omega (arith, are.same, n, length-insert heads i h le_heads);
        each = λ k d within. elim (cases_order k i) [
          | inl e ↦ rw (e, get_or-insert_at heads i h d le_heads, get_or-insert_at rows i r [] le) is
          | inr (inl less) ↦ rw (get_or-insert_below heads i h d k less le_heads, get_or-insert_below rows i r [] k less le) (are.each k d (omega arith))
          | inr (inr more) ↦
              let j = k - 1 in
              let e : k ≡ j + 1 = omega arith in
              let past : i ≤ j = omega arith in
              rw (e, get_or-insert_above heads i h d j past le_heads, get_or-insert_above rows i r [] j past le) (are.each j d (omega (arith, n)))
        ];
      }

  -- one is cut in two
  pub heads_split : (heads : List H) (rows : List (List X)) (i next : ℕ) (low high : H) (r s : List X) → Describes P heads rows → next ≡ i + 1 → i < length rows → P low r → P high s
      → Describes P (insert (set heads i low) next high) (insert (set rows i r) next s)
  heads_split heads rows i next low high r s are e lt is_low is_high = heads_insert (set heads i low) (set rows i r) next high s (heads_set heads rows i low r are lt is_low) (omega (arith, length-set rows i r)) is_high

  -- a row comes to stand behind the others
  pub heads_push : (heads : List H) (rows : List (List X)) (h : H) (r : List X) → Describes P heads rows → P h r → Describes P (heads ++ h ∷ []) (rows ++ r ∷ [])
  heads_push heads rows h r are is = rw (← insert_end heads h, ← insert_end rows r, are.same) (heads_insert heads rows (length rows) h r are (omega arith) is)

  -- what describes a row is replaced alone
  pub heads_told : (heads : List H) (rows : List (List X)) (i : ℕ) (h : H) (r : List X) → Describes P heads rows → i < length rows → r ≡ get_or rows i r → P h r → Describes P (set heads i h) rows
  heads_told heads rows i h r are lt is_r is =
      let same : set rows i r ≡ rows = ap (set rows i) is_r ∙ set-get_or rows i r in
      subst (Describes P (set heads i h)) same (heads_set heads rows i h r are lt is)

module _ {X : Type 0} (weight : X → ℕ) where
  -- a row whose top tells that it is too light
  pub light_row : (tops : List ℕ) (rows : List (List X)) (i least d : ℕ) (r : List X) → Describes (IsTop weight) tops rows → i < length rows → r ≡ get_or rows i r → get_or tops i d < least → least ≤ UNTOLD → find (weighs weight least) r ≡ None
  light_row tops rows i least d r are lt is_r less most =
      let e : get_or rows i [] ≡ r = get_or_default rows i [] r lt ∙ sym is_r in
      let told : get_or tops i d ≢ UNTOLD = omega (arith, less, most) in
      let top = are.each i d lt told in
      subst (λ xs. find (weighs weight least) xs ≡ None) e (find_none weight least (get_or rows i []) (omega (arith, top, less)))

  -- the top after the row has changed: told where it was, and else not
  pub top_told : (old new : ℕ) (xs ys : List X) → IsTop weight old xs → (old ≡ UNTOLD → new ≡ UNTOLD) → (old ≢ UNTOLD → old ≡ greatest_weight weight xs → new ≡ greatest_weight weight ys) → IsTop weight new ys
  top_told old new xs ys is untold told = λ now. let was : old ≢ UNTOLD = λ e. now (untold e) in told was (is was)
