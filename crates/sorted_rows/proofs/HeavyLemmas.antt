-- Searches by weight over rows.
use Rattle.std.proofs.Common.{◌≡◌, ℕ, zero, suc, ◌-◌, ◌≤◌, ◌+◌, ◌<◌, List, [], ◌++◌, length, take, drop, get_or, sym, ap, subst, refl, ◌∙◌, arith, rules, Bool, Option, None, Some}
use Rattle.std.specs.List.{find}
use Rattle.std.specs.Option.{option_or}
use Rattle.std.proofs.lemmas.List.{drop-append-le, get_or_default, take-append-drop}
use Rattle.std.proofs.lemmas.List.Folds.{find-append}
use Rattle.std.proofs.Math.Seq.{drop-cons, drop-append-add}
use Rattle.sorted_rows.specs.Order.{place_below, IsRankAt}
use Rattle.sorted_rows.specs.Layout.{entries_in, IsLaid, IsSeat}
use Rattle.sorted_rows.specs.Tops.{Describes, IsTop}
use Rattle.sorted_rows.specs.Weights.{weighs, first_heavy_from}
use Rattle.sorted_rows.specs.declared.tops.TheConstants.{UNTOLD}
use Rattle.sorted_rows.proofs.HeadLemmas.{light_row}
use Rattle.sorted_rows.proofs.PlaceLemmas.{below_is, below_stands}
use Rattle.sorted_rows.proofs.RowLemmas.{entries_at, any_of, place_in_seat, rises_at}

-- where neither of two has one, the second has none
none_behind : {X : Type 0} (a b : Option X) → option_or a b ≡ None → None ≡ b
none_behind None b is = sym is
none_behind (Some x) b is = search (rules, is)

module _ {X : Type 0} (p : X → Bool) where
  -- found in the first of two parts, or in the second
  pub found_first : (xs ys : List X) (x : X) → Some x ≡ find p xs → Some x ≡ find p (xs ++ ys)
  found_first xs ys x is = sym (find-append p xs ys ∙ ap (λ o. option_or o (find p ys)) (sym is))

  pub found_behind : (xs ys : List X) → None ≡ find p xs → find p (xs ++ ys) ≡ find p ys
  found_behind xs ys is = find-append p xs ys ∙ ap (λ o. option_or o (find p ys)) (sym is)

  -- none in a whole is none in its rest
  pub none_in_rest : (k : ℕ) (xs : List X) → find p xs ≡ None → None ≡ find p (drop k xs)
  none_in_rest k xs is = none_behind (find p (take k xs)) (find p (drop k xs)) (sym (find-append p (take k xs) (drop k xs)) ∙ (ap (find p) (take-append-drop k xs) ∙ is))

  -- the rows from one on
  rows_from : (rows : List (List X)) (k : ℕ) (r : List X) → k < length rows → r ≡ get_or rows k r → entries_in (drop k rows) ≡ r ++ entries_in (drop (suc k) rows)
  rows_from rows k r lt is = ap entries_in (drop-cons rows k r lt) ∙ ap (λ q. q ++ entries_in (drop (suc k) rows)) (sym is)

  pub row_has : (rows : List (List X)) (k : ℕ) (r : List X) (x : X) → k < length rows → r ≡ get_or rows k r → Some x ≡ find p r → Some x ≡ find p (entries_in (drop k rows))
  row_has rows k r x lt at is = found_first r (entries_in (drop (suc k) rows)) x is ∙ ap (find p) (sym (rows_from rows k r lt at))

  pub row_lacks : (rows : List (List X)) (k : ℕ) (r : List X) (found : Option X) → k < length rows → r ≡ get_or rows k r → None ≡ find p r → found ≡ find p (entries_in (drop k rows)) → found ≡ find p (entries_in (drop (k + 1) rows))
  row_lacks rows k r found lt at is so =
      let next : suc k ≡ k + 1 = omega arith in
      so ∙ ap (find p) (rows_from rows k r lt at) ∙ (found_behind r (entries_in (drop (suc k) rows)) is ∙ ap (λ n. find p (entries_in (drop n rows))) next)

-- past so many rows that their tops tell to be too light, and up to one
past_light : {X : Type 0} (weight : X → ℕ) (tops : List ℕ) (rows : List (List X)) (from n least : ℕ) (found : Option X) → Describes (IsTop weight) tops rows → from + n ≤ length rows → ((k d : ℕ) → from ≤ k → k < from + n → get_or tops k d < least) → least ≤ UNTOLD
    → found ≡ find (weighs weight least) (entries_in (drop from rows)) → found ≡ find (weighs weight least) (entries_in (drop (from + n) rows))
past_light weight tops rows from zero least found are within light most so =
    let e : from ≡ from + zero = omega arith in
    so ∙ ap (λ k. find (weighs weight least) (entries_in (drop k rows))) e
past_light weight tops rows from (suc n) least found are within light most so =
    let at = from + n in
    let e : at + 1 ≡ from + suc n = omega arith in
    let lt : at < length rows = omega arith in
    let row = get_or rows at [] in
    let here = get_or_default rows at [] row lt in
    let before = past_light weight tops rows from n least found are (omega arith) (λ k d le less. light k d le (omega arith)) most so in
    let none = light_row weight tops rows at least 0 row are lt here (light at 0 (omega arith) (omega arith)) most in
    row_lacks (weighs weight least) rows at row found lt here (sym none) before ∙ ap (λ k. find (weighs weight least) (entries_in (drop k rows))) e

pub up_to_heavy : {X : Type 0} (weight : X → ℕ) (tops : List ℕ) (rows : List (List X)) (from to least : ℕ) (found : Option X) → Describes (IsTop weight) tops rows → from ≤ to → to ≤ length rows → ((k d : ℕ) → from ≤ k → k < to → get_or tops k d < least) → least ≤ UNTOLD
    → found ≡ find (weighs weight least) (entries_in (drop from rows)) → found ≡ find (weighs weight least) (entries_in (drop to rows))
up_to_heavy weight tops rows from to least found are le within light most so =
    let e : from + (to - from) ≡ to = omega arith in
    past_light weight tops rows from (to - from) least found are (omega arith) (λ k d ge less. light k d ge (omega arith)) most so ∙ ap (λ k. find (weighs weight least) (entries_in (drop k rows))) e

-- where a walk over rows finds it
pub ruleset found_among = (row_has, row_lacks)

module _ {X : Type 0} (rank weight : X → ℕ) where
  -- what stands from the place of a key on, in its row and behind
  pub from_place : (key : ℕ) (rows : List (List X)) (i q : ℕ) (r : List X) → IsLaid rank rows → i < length rows → r ≡ get_or rows i [] → IsSeat rank key rows i → IsRankAt rank key r q
      → drop (place_below rank key (entries_in rows)) (entries_in rows) ≡ drop q r ++ entries_in (drop (suc i) rows)
  from_place key rows i q r laid lt e seat place =
      let at = place_in_seat rank key rows i q [] lt seat (subst (λ xs. IsRankAt rank key xs q) e place) in
      let a = entries_in (take i rows) in
      let b = entries_in (drop (suc i) rows) in
      let whole : entries_in rows ≡ a ++ (r ++ b) = rw e (entries_at rows i [] lt) in
      let some : 0 < length r = rw e (laid.filled i [] lt) in
      let is = below_is rank key (entries_in rows) _ (any_of r 0 some) at in
      ap (λ n. drop n (entries_in rows)) is ∙ (ap (drop (length a + q)) whole ∙ (drop-append-add a (r ++ b) q ∙ drop-append-le q r b place.within))

  pub heavy_here : (key least : ℕ) (rows : List (List X)) (i q : ℕ) (r : List X) (x : X) → IsLaid rank rows → i < length rows → r ≡ get_or rows i [] → IsSeat rank key rows i → IsRankAt rank key r q
      → Some x ≡ find (weighs weight least) (drop q r) → Some x ≡ first_heavy_from rank weight key least (entries_in rows)
  heavy_here key least rows i q r x laid lt e seat place is =
      found_first (weighs weight least) (drop q r) (entries_in (drop (suc i) rows)) x is ∙ ap (find (weighs weight least)) (sym (from_place key rows i q r laid lt e seat place))

  pub heavy_behind : (key least : ℕ) (rows : List (List X)) (i q : ℕ) (r : List X) (o : Option X) → IsLaid rank rows → i < length rows → r ≡ get_or rows i [] → IsSeat rank key rows i → IsRankAt rank key r q
      → None ≡ find (weighs weight least) (drop q r) → o ≡ find (weighs weight least) (entries_in (drop (i + 1) rows)) → o ≡ first_heavy_from rank weight key least (entries_in rows)
  heavy_behind key least rows i q r o laid lt e seat place is behind =
      let next : i + 1 ≡ suc i = omega arith in
      behind ∙ (ap (λ n. find (weighs weight least) (entries_in (drop n rows))) next ∙ (sym (found_behind (weighs weight least) (drop q r) (entries_in (drop (suc i) rows)) is) ∙ ap (find (weighs weight least)) (sym (from_place key rows i q r laid lt e seat place))))

  -- behind a row that has none
  pub heavy_past : (key least : ℕ) (rows : List (List X)) (i : ℕ) (o : Option X) → IsLaid rank rows → i < length rows → IsSeat rank key rows i
      → find (weighs weight least) (get_or rows i []) ≡ None → o ≡ find (weighs weight least) (entries_in (drop (i + 1) rows)) → o ≡ first_heavy_from rank weight key least (entries_in rows)
  heavy_past key least rows i o laid lt seat is behind =
      let r = get_or rows i [] in
      heavy_behind key least rows i (place_below rank key r) r o laid lt refl seat (below_stands rank key r (rises_at rank rows i [] lt laid.rises)) (none_in_rest (weighs weight least) (place_below rank key r) r is) behind

-- where least_weighing finds it: in the key's row, or in those behind
pub ruleset found_heavy = (heavy_here, heavy_behind, heavy_past)
