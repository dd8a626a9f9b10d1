-- The places of a client's leases: one more, one emptied, and a search along a chain.
use Rattle.std.proofs.Common.{◌≡◌, ℕ, zero, suc, ◌+◌, ◌-◌, ◌<◌, ◌≤◌, ◌⊎◌, inl, inr, Bool, true, false, cond, not, nat_lt, List, [], ◌∷◌, ◌++◌, length, take, Option, Some, None, IfNone, slice_get, get_or, position, min, refl, sym, ap, subst, ◌∙◌, arith, one-add}
use Rattle.std.specs.List.{find, position_or_len, cons_option}
use Rattle.std.proofs.Math.ListN.{set}
use Rattle.std.proofs.Math.Nat.{min-le_left, min-le_right}
use Rattle.std.proofs.lemmas.Bool.{ltb-true, ltb-false, cases_order}
use Rattle.std.proofs.lemmas.List.{length-append, length-set}
use Rattle.std.proofs.lemmas.Option.{slice_get_within, slice_get_read}
use Rattle.lease_book.proofs.PlaceLemmas.{position-some, is_lease_says}
use Rattle.lease_book.specs.Account.{Lease, is_lease, without_first}
use Rattle.lease_book.specs.Places.{PlaceState, PlacesState, IsChained, leases_in, holds, chain_of}

-- the members of a list with one more, of one with a member set, and of its front
pub of_push : {X : Type 0} (xs : List X) (y : X) (k : ℕ) (p : X) → slice_get (xs ++ y ∷ []) k ≡ Some p
    → (slice_get xs k ≡ Some p) ⊎ ((k ≡ length xs) × (y ≡ p))
of_push [] y zero p at = inr (refl, cc)
of_push [] y (suc k) p at = absurd (cc)
of_push (x ∷ xs) y zero p at = inl at
of_push (x ∷ xs) y (suc k) p at = elim (of_push xs y k p at) [ inl h ↦ inl h | inr h ↦ inr (ap suc h.0, h.1) ]

pub of_set : {X : Type 0} (xs : List X) (i : ℕ) (y : X) (k : ℕ) (p : X) → slice_get (set xs i y) k ≡ Some p
    → (slice_get xs k ≡ Some p) ⊎ ((k ≡ i) × (y ≡ p))
of_set [] i y k p at = absurd (cc)
of_set (x ∷ xs) zero y zero p at = inr (refl, cc)
of_set (x ∷ xs) zero y (suc k) p at = inl at
of_set (x ∷ xs) (suc i) y zero p at = inl at
of_set (x ∷ xs) (suc i) y (suc k) p at = elim (of_set xs i y k p at) [ inl h ↦ inl h | inr h ↦ inr (ap suc h.0, h.1) ]

-- where it was set, nothing else stands
pub at_set : {X : Type 0} (xs : List X) (i : ℕ) (y : X) (p : X) → slice_get (set xs i y) i ≡ Some p → y ≡ p
at_set [] i y p at = absurd (cc)
at_set (x ∷ xs) zero y p at = cc
at_set (x ∷ xs) (suc i) y p at = at_set xs i y p at

pub set_same : {X : Type 0} (xs : List X) (i : ℕ) (y : X) → slice_get xs i ≡ Some y → set xs i y ≡ xs
set_same [] i y at = absurd (cc)
set_same {X} (x ∷ xs) zero y at = let is : x ≡ y = cc in ap (λ (z : X). z ∷ xs) (sym is)
set_same {X} (x ∷ xs) (suc i) y at = ap (λ (zs : List X). x ∷ zs) (set_same xs i y at)

pub of_take : {X : Type 0} (n : ℕ) (xs : List X) (k : ℕ) (p : X) → slice_get (take n xs) k ≡ Some p → (k < n) × (slice_get xs k ≡ Some p)
of_take zero xs k p at = absurd (cc)
of_take (suc n) [] k p at = absurd (cc)
of_take (suc n) (x ∷ xs) zero p at = (omega arith, at)
of_take (suc n) (x ∷ xs) (suc k) p at = let rest = of_take n xs k p at in (omega (arith, rest.0), rest.1)

pub in_take : {X : Type 0} (n : ℕ) (xs : List X) (k : ℕ) (p : X) → k < n → slice_get xs k ≡ Some p → slice_get (take n xs) k ≡ Some p
in_take zero xs k p below at = absurd (omega arith)
in_take (suc n) [] k p below at = absurd (cc)
in_take (suc n) (x ∷ xs) zero p below at = at
in_take (suc n) (x ∷ xs) (suc k) p below at = in_take n xs k p (omega arith) at

-- a lease behind a place on its chain stands before its index
pub goes_before : (s : PlacesState) → IsChained s → (k j : ℕ) (p q : PlaceState) (l : Lease) → slice_get s.places k ≡ Some p → slice_get s.places j ≡ Some q
    → j < k → q.lease ≡ Some l → q.chain ≡ p.chain → j < p.before
goes_before s chained k j p q l at other below has same = chained.before k p at j q l (in_take k s.places j q below other) has same

-- one more lease is put at the end of its chain
pub chained_push : (places : List PlaceState) (ends : List ℕ) (chain before : ℕ) (l : Lease) → IsChained (record { places = places; ends = ends })
    → chain ≡ chain_of l.segment.holding.range.base (length ends) → slice_get ends chain ≡ Some before
    → IsChained (record { places = places ++ (record { lease = Some l; chain = chain; before = before }) ∷ []; ends = set ends chain (length places + 1) })
chained_push places ends chain before l chained is end =
    let fresh : PlaceState = record { lease = Some l; chain = chain; before = before } in
    let same : length (set ends chain (length places + 1)) ≡ length ends = length-set ends chain (length places + 1) in
    let more : length (places ++ fresh ∷ []) ≡ length places + 1 = length-append places (fresh ∷ []) in
    record {
      own = λ k p m at has. rw same (elim (of_push places fresh k p at) [
        | inl old ↦ chained.own k p m old has
        | inr here ↦
            let held : Some l ≡ Some m = ap (λ (q : PlaceState). q.lease) here.1 ∙ has in
            let is_l : l ≡ m = cc in
            sym (ap (λ (q : PlaceState). q.chain) here.1) ∙ is ∙ ap (λ (n : Lease). chain_of n.segment.holding.range.base (length ends)) is_l
      ]);
      within = λ k p at. rw same (elim (of_push places fresh k p at) [
        | inl old ↦ chained.within k p old
        | inr here ↦ subst (λ (q : PlaceState). q.chain < length ends) here.1 (slice_get_within ends chain before end)
      ]);
      inside = λ c e at. elim (of_set ends chain (length places + 1) c e at) [
        | inl old ↦ let low = chained.inside c e old in omega (arith, low, more)
        | inr here ↦ omega (arith, here.1, more)
      ];
      ends = λ c e at k p l stands has on.
          let place : k < length places + 1 = omega (arith, more, slice_get_within (places ++ fresh ∷ []) k p stands) in
          elim (of_set ends chain (length places + 1) c e at) [
            | inl old ↦ elim (of_push places fresh k p stands) [
              | inl was ↦ chained.ends c e old k p l was has on
              | inr here ↦
                  let c_is : chain ≡ c = ap (λ (q : PlaceState). q.chain) here.1 ∙ on in
                  let e_is : length places + 1 ≡ e = at_set ends chain (length places + 1) e (subst (λ (d : ℕ). slice_get (set ends chain (length places + 1)) d ≡ Some e) (sym c_is) at) in
                  omega (arith, place, e_is)
            ]
            | inr here ↦ omega (arith, place, here.1)
          ];
      before = λ k p stands j q l front has on.
          let other = of_take k (places ++ fresh ∷ []) j q front in
          let place : k < length places + 1 = omega (arith, more, slice_get_within (places ++ fresh ∷ []) k p stands) in
          elim (of_push places fresh j q other.1) [
            | inl was ↦ elim (of_push places fresh k p stands) [
              | inl old ↦ goes_before (record { places = places; ends = ends }) chained k j p q l old was other.0 has on
              | inr here ↦
                  let chain_is : chain ≡ p.chain = ap (λ (r : PlaceState). r.chain) here.1 in
                  let before_is : before ≡ p.before = ap (λ (r : PlaceState). r.before) here.1 in
                  subst (λ (b : ℕ). j < b) before_is (chained.ends chain before end j q l was has (on ∙ sym chain_is))
            ]
            | inr here ↦ absurd (omega (arith, other.0, place, here.0))
          ];
    }

-- the place without its lease
abbrev pub emptied : PlaceState → PlaceState
emptied p = record { lease = None; chain = p.chain; before = p.before }

-- a place once another is emptied was there, on its chain
was_there : (places : List PlaceState) (i : ℕ) (p : PlaceState) → slice_get places i ≡ Some p → (k : ℕ) (q : PlaceState) → slice_get (set places i (emptied p)) k ≡ Some q
    → (o : PlaceState) × (slice_get places k ≡ Some o) × (o.chain ≡ q.chain) × (o.before ≡ q.before) × ((l : Lease) → q.lease ≡ Some l → o.lease ≡ Some l)
was_there places i p at k q stands = elim (of_set places i (emptied p) k q stands) [
  | inl old ↦ (q, old, refl, refl, λ l has. has)
  | inr here ↦ (
    p,
    ap (slice_get places) here.0 ∙ at,
    ap (λ (r : PlaceState). r.chain) here.1,
    ap (λ (r : PlaceState). r.before) here.1,
    λ l has. let none : None ≡ Some l = ap (λ (r : PlaceState). r.lease) here.1 ∙ has in absurd (cc),
  )
]

pub chained_take : (places : List PlaceState) (ends : List ℕ) (i : ℕ) (p : PlaceState) → IsChained (record { places = places; ends = ends }) → slice_get places i ≡ Some p
    → IsChained (record { places = set places i (emptied p); ends = ends })
chained_take places ends i p chained at =
    let was = was_there places i p at in
    record {
      own = λ k q l stands has. let o = was k q stands in sym o.2 ∙ chained.own k o.0 l o.1 (o.4 l has);
      within = λ k q stands. let o = was k q stands in subst (λ (c : ℕ). c < length ends) o.2 (chained.within k o.0 o.1);
      inside = λ c e has. rw (length-set places i (emptied p)) (chained.inside c e has);
      ends = λ c e has k q l stands holds' on. let o = was k q stands in chained.ends c e has k o.0 l o.1 (o.4 l holds') (o.2 ∙ on);
      before = λ k q stands j r l front has on.
          let o = was k q stands in
          let other = of_take k (set places i (emptied p)) j r front in
          let n = was j r other.1 in
          subst (λ (b : ℕ). j < b) o.3 (goes_before (record { places = places; ends = ends }) chained k j o.0 n.0 l o.1 n.1 other.0 (n.4 l has) (n.2 ∙ on ∙ sym o.2));
    }

-- a chain whose last place is emptied ends before it
pub chained_leave : (places : List PlaceState) (ends : List ℕ) (i : ℕ) (p : PlaceState) (end : ℕ) → IsChained (record { places = places; ends = ends })
    → slice_get places i ≡ Some p → slice_get ends p.chain ≡ Some end → end ≡ i + 1
    → IsChained (record { places = set places i (emptied p); ends = set ends p.chain (min p.before (end - 1)) })
chained_leave places ends i p end chained at last is =
    let rest = chained_take places ends i p chained at in
    let was = was_there places i p at in
    let low : min p.before (end - 1) ≤ end - 1 = min-le_right p.before (end - 1) in
    let same : length (set ends p.chain (min p.before (end - 1))) ≡ length ends = length-set ends p.chain (min p.before (end - 1)) in
    record {
      own = λ k q l stands has. rw same (rest.own k q l stands has);
      within = λ k q stands. rw same (rest.within k q stands);
      inside = λ c e has. elim (of_set ends p.chain (min p.before (end - 1)) c e has) [
        | inl old ↦ rest.inside c e old
        | inr here ↦ let most = rest.inside p.chain end last in omega (arith, most, low, here.1)
      ];
      ends = λ c e has k q l stands filled on. elim (of_set ends p.chain (min p.before (end - 1)) c e has) [
        | inl old ↦ rest.ends c e old k q l stands filled on
        | inr here ↦
            let o = was k q stands in
            let mine : q.chain ≡ p.chain = on ∙ here.0 in
            let most : k < end = rest.ends p.chain end last k q l stands filled mine in
            let other : k < i = elim (cases_order k i) [
              | inl e ↦
                  let empty : emptied p ≡ q = at_set places i (emptied p) q (subst (λ (n : ℕ). slice_get (set places i (emptied p)) n ≡ Some q) e stands) in
                  let none : None ≡ Some l = ap (λ (r : PlaceState). r.lease) empty ∙ filled in
                  absurd (cc)
              | inr h ↦ elim h [ inl b ↦ b | inr b ↦ absurd (omega (arith, most, is, b)) ]
            ] in
            let front : k < p.before = goes_before (record { places = places; ends = ends }) chained i k p o.0 l at o.1 other (o.4 l filled) (o.2 ∙ mine) in
            omega (arith, other, is, front, here.1)
      ];
      before = rest.before;
    }

-- the first place whose lease passes has the first lease that does
pub first_in : (test : Lease → Bool) (places : List PlaceState) (p : PlaceState) → slice_get places (position_or_len (λ (q : PlaceState). holds test q.lease) places) ≡ Some p
    → (find test (leases_in places) ≡ p.lease)
    × (leases_in (set places (position_or_len (λ (q : PlaceState). holds test q.lease) places) (emptied p)) ≡ without_first test (leases_in places))
first_in test [] p at = absurd (cc)
first_in test (x ∷ places) p at = by x.lease refl at (first_in test places p)
  where
    at_lease : (l : Lease) → x.lease ≡ Some l → (b : Bool) → slice_get (x ∷ places) (cond (not b) (1 + position_or_len (λ (q : PlaceState). holds test q.lease) places) 0) ≡ Some p
        → (slice_get places (position_or_len (λ (q : PlaceState). holds test q.lease) places) ≡ Some p
        → (find test (leases_in places) ≡ p.lease) × (leases_in (set places (position_or_len (λ (q : PlaceState). holds test q.lease) places) (emptied p)) ≡ without_first test (leases_in places)))
        → (cond b (Some l) (find test (leases_in places)) ≡ p.lease)
        × (leases_in (set (x ∷ places) (cond (not b) (1 + position_or_len (λ (q : PlaceState). holds test q.lease) places) 0) (emptied p)) ≡ cond b (leases_in places) (l ∷ without_first test (leases_in places)))
    at_lease l has true here rest = let is : x ≡ p = cc in (sym has ∙ ap (λ (q : PlaceState). q.lease) is, refl)
    at_lease l has false here rest =
        let r = rest (rw one-add at here) in
        (r.0, rw one-add (ap (λ (o : Option Lease). cons_option o (leases_in (set places (position_or_len (λ (q : PlaceState). holds test q.lease) places) (emptied p)))) has ∙ ap (λ (ls : List Lease). l ∷ ls) r.1))

    by : (o : Option Lease) → x.lease ≡ o → slice_get (x ∷ places) (cond (not (holds test o)) (1 + position_or_len (λ (q : PlaceState). holds test q.lease) places) 0) ≡ Some p
        → (slice_get places (position_or_len (λ (q : PlaceState). holds test q.lease) places) ≡ Some p
        → (find test (leases_in places) ≡ p.lease) × (leases_in (set places (position_or_len (λ (q : PlaceState). holds test q.lease) places) (emptied p)) ≡ without_first test (leases_in places)))
        → (find test (cons_option o (leases_in places)) ≡ p.lease)
        × (leases_in (set (x ∷ places) (cond (not (holds test o)) (1 + position_or_len (λ (q : PlaceState). holds test q.lease) places) 0) (emptied p)) ≡ without_first test (cons_option o (leases_in places)))
    by None has here rest =
        let r = rest (rw one-add at here) in
        (r.0, rw one-add (ap (λ (o : Option Lease). cons_option o (leases_in (set places (position_or_len (λ (q : PlaceState). holds test q.lease) places) (emptied p)))) has ∙ r.1))
    by (Some l) has here rest = at_lease l has (test l) here rest

-- where no place's lease passes, no lease does
pub none_in : (test : Lease → Bool) (places : List PlaceState) → length places ≤ position_or_len (λ (q : PlaceState). holds test q.lease) places
    → (find test (leases_in places) ≡ None) × (without_first test (leases_in places) ≡ leases_in places)
none_in test [] past = (refl, refl)
none_in test (x ∷ places) past = by x.lease past (none_in test places)
  where
    at_lease : (l : Lease) (b : Bool) → length (x ∷ places) ≤ cond (not b) (1 + position_or_len (λ (q : PlaceState). holds test q.lease) places) 0
        → (length places ≤ position_or_len (λ (q : PlaceState). holds test q.lease) places → (find test (leases_in places) ≡ None) × (without_first test (leases_in places) ≡ leases_in places))
        → (cond b (Some l) (find test (leases_in places)) ≡ None) × (cond b (leases_in places) (l ∷ without_first test (leases_in places)) ≡ l ∷ leases_in places)
    at_lease l true past rest = absurd (omega arith)
    at_lease l false past rest = let r = rest (omega arith) in (r.0, ap (λ (ls : List Lease). l ∷ ls) r.1)

    by : (o : Option Lease) → length (x ∷ places) ≤ cond (not (holds test o)) (1 + position_or_len (λ (q : PlaceState). holds test q.lease) places) 0
        → (length places ≤ position_or_len (λ (q : PlaceState). holds test q.lease) places → (find test (leases_in places) ≡ None) × (without_first test (leases_in places) ≡ leases_in places))
        → (find test (cons_option o (leases_in places)) ≡ None) × (without_first test (cons_option o (leases_in places)) ≡ cons_option o (leases_in places))
    by None past rest = rest (omega arith)
    by (Some l) past rest = at_lease l (test l) past rest

first_stands : {X : Type 0} (test : X → Bool) (xs : List X) → position_or_len test xs < length xs → (p : X) × (slice_get xs (position_or_len test xs) ≡ Some p) × (test p ≡ true)
first_stands test [] within = absurd (omega arith)
first_stands {X} test (x ∷ xs) within = by (test x) refl within (first_stands test xs)
  where
    by : (b : Bool) → test x ≡ b → cond (not b) (1 + position_or_len test xs) 0 < length (x ∷ xs)
        → (position_or_len test xs < length xs → (p : X) × (slice_get xs (position_or_len test xs) ≡ Some p) × (test p ≡ true))
        → (p : X) × (slice_get (x ∷ xs) (cond (not b) (1 + position_or_len test xs) 0) ≡ Some p) × (test p ≡ true)
    by true is within rest = (x, refl, is)
    by false is within rest = rw one-add (rest (omega arith))

-- what taking the lease out of the first place that passes does
pub record IsTaken (test : Lease → Bool) (places : List PlaceState) (i : ℕ) (p : PlaceState) : Type 0 where
  pub stands : slice_get places i ≡ Some p
  pub passes : holds test p.lease ≡ true
  pub lease : find test (leases_in places) ≡ p.lease
  pub rest : leases_in (set places i (emptied p)) ≡ without_first test (leases_in places)

pub taken : (test : Lease → Bool) (places : List PlaceState) (i : ℕ) (p : PlaceState) → position (λ (q : PlaceState). holds test q.lease) places ≡ Some i → p ≡ get_or places i p → IsTaken test places i p
taken test places i p first is =
    let at = position-some (λ (q : PlaceState). holds test q.lease) places i first in
    let stands : slice_get places i ≡ Some p = slice_get_read places _ i p refl at.1 is in
    let both = first_in test places p (ap (slice_get places) at.0 ∙ stands) in
    let one = first_stands (λ (q : PlaceState). holds test q.lease) places (omega (arith, at.0, at.1)) in
    let same : Some one.0 ≡ Some p = sym one.1 ∙ ap (slice_get places) at.0 ∙ stands in
    let is_p : one.0 ≡ p = cc in
    record {
      stands = stands;
      passes = ap (λ (q : PlaceState). holds test q.lease) (sym is_p) ∙ one.2;
      lease = both.0;
      rest = ap (λ (n : ℕ). leases_in (set places n (emptied p))) (sym at.0) ∙ both.1;
    }

-- a lease that passes is one
pub not_none : (test : Lease → Bool) (o : Option Lease) (P : Type 0) → holds test o ≡ true → IfNone o P
not_none test None P pass = absurd (cc)
not_none test (Some l) P pass = tt

-- what a search down along a chain knows: of the places that pass, each stands before the end, or
-- one was found that it isn't before
pub record Seeks (test : PlaceState → Bool) (places : List PlaceState) (end : ℕ) (found : Option ℕ) : Type 0 where
  pub within : end ≤ length places
  pub passes : (f : ℕ) → found ≡ Some f → (p : PlaceState) × (slice_get places f ≡ Some p) × (test p ≡ true)
  pub least : (k : ℕ) (p : PlaceState) → slice_get places k ≡ Some p → test p ≡ true → (k < end) ⊎ ((f : ℕ) × (found ≡ Some f) × (f ≤ k))

below_or_not : (k n : ℕ) → (k < n) ⊎ (n ≤ k)
below_or_not k n = elim (cases_order k n) [ inl e ↦ inr (omega arith) | inr o ↦ elim o [ inl h ↦ inl h | inr h ↦ inr (omega arith) ] ]

pub seeks_hit : (test : PlaceState → Bool) (places : List PlaceState) (at : ℕ) (q : PlaceState) → slice_get places at ≡ Some q → test q ≡ true → Seeks test places at (Some at)
seeks_hit test places at q stands hit = record {
  within = let in' = slice_get_within places at q stands in omega (arith, in');
  passes = λ f is. let same : at ≡ f = cc in (q, ap (slice_get places) (sym same) ∙ stands, hit);
  least = λ k p other pass. elim (below_or_not k at) [ inl h ↦ inl h | inr h ↦ inr (at, refl, h) ];
}

pub seeks_miss : (test : PlaceState → Bool) (places : List PlaceState) (at : ℕ) (found : Option ℕ) (q : PlaceState) → slice_get places at ≡ Some q → test q ≡ false
    → Seeks test places (at + 1) found → Seeks test places at found
seeks_miss test places at found q stands miss seeks = record {
  within = omega (arith, seeks.within);
  passes = seeks.passes;
  least = λ k p other pass. elim (seeks.least k p other pass) [
    | inl h ↦ elim (cases_order k at) [
      | inl e ↦
          let same : Some p ≡ Some q = sym other ∙ ap (slice_get places) e ∙ stands in
          let p_is : p ≡ q = cc in
          let both : true ≡ false = sym pass ∙ ap test p_is ∙ miss in
          absurd (cc)
      | inr o ↦ elim o [ inl b ↦ inl b | inr b ↦ absurd (omega (arith, h, b)) ]
    ]
    | inr h ↦ inr h
  ];
}

-- whether a place holds a lease and is on the chain
abbrev pub HoldsOn : ℕ → PlaceState → Type 0
HoldsOn chain p = (l : Lease) × (p.lease ≡ Some l) × (p.chain ≡ chain)

-- down to the index of a place on the chain
pub seeks_down : (test : PlaceState → Bool) (s : PlacesState) (chain at : ℕ) (found : Option ℕ) (q : PlaceState) → IsChained s
    → ((k : ℕ) (p : PlaceState) → slice_get s.places k ≡ Some p → test p ≡ true → HoldsOn chain p)
    → slice_get s.places at ≡ Some q → q.chain ≡ chain → Seeks test s.places at found → Seeks test s.places (min at q.before) found
seeks_down test s chain at found q chained on stands mine seeks = record {
  within = let low = min-le_left at q.before in omega (arith, low, seeks.within);
  passes = seeks.passes;
  least = λ k p other pass. elim (seeks.least k p other pass) [
    | inl h ↦ inl (let o = on k p other pass in let low = goes_before s chained at k q p o.0 stands other h o.1 (o.2 ∙ sym mine) in omega (arith, h, low))
    | inr h ↦ inr h
  ];
}

-- a search starts at the chain's end, and nowhere if there is no chain
pub seeks_from : (test : PlaceState → Bool) (s : PlacesState) (chain end : ℕ) → IsChained s
    → ((k : ℕ) (p : PlaceState) → slice_get s.places k ≡ Some p → test p ≡ true → HoldsOn chain p)
    → slice_get s.ends chain ≡ Some end → Seeks test s.places end None
seeks_from test s chain end chained on has = record {
  within = chained.inside chain end has;
  passes = λ f is. absurd (cc);
  least = λ k p stands pass. inl (let o = on k p stands pass in chained.ends chain end has k p o.0 stands o.1 o.2);
}

pub seeks_nowhere : (test : PlaceState → Bool) (s : PlacesState) (chain : ℕ) → IsChained s
    → ((k : ℕ) (p : PlaceState) → slice_get s.places k ≡ Some p → test p ≡ true → HoldsOn chain p)
    → length s.ends ≤ chain → Seeks test s.places 0 None
seeks_nowhere test s chain chained on past = record {
  within = omega arith;
  passes = λ f is. absurd (cc);
  least = λ k p stands pass.
      let low : p.chain < length s.ends = chained.within k p stands in
      let is : p.chain ≡ chain = (on k p stands pass).2 in
      absurd (omega (arith, low, is, past));
}

-- whether a lease of the incarnation with this arena and base stands in the place
abbrev pub is_sought : ℕ → ℕ → ℕ → PlaceState → Bool
is_sought i arena base p = holds (is_lease i arena base) p.lease

-- a lease of the base is on the chain of the base
pub on_chain : (s : PlacesState) (i arena base : ℕ) → IsChained s → (k : ℕ) (p : PlaceState) → slice_get s.places k ≡ Some p → is_sought i arena base p ≡ true
    → HoldsOn (chain_of base (length s.ends)) p
on_chain s i arena base chained k p stands pass = by p.lease refl
  where
    by : (o : Option Lease) → p.lease ≡ o → HoldsOn (chain_of base (length s.ends)) p
    by None none = let fails : false ≡ true = ap (holds (is_lease i arena base)) (sym none) ∙ pass in absurd (cc)
    by (Some l) has =
        let says = is_lease_says i arena base l (ap (holds (is_lease i arena base)) (sym has) ∙ pass) in
        (l, has, chained.own k p l stands has ∙ ap (λ (b : ℕ). chain_of b (length s.ends)) (sym says.2))

first_least : {X : Type 0} (test : X → Bool) (xs : List X) (k : ℕ) (p : X) → slice_get xs k ≡ Some p → test p ≡ true → position_or_len test xs ≤ k
first_least test [] k p stands pass = absurd (cc)
first_least test (x ∷ xs) zero p stands pass =
    let is : x ≡ p = cc in
    let passes : test x ≡ true = ap test is ∙ pass in
    rw passes (omega arith)
first_least test (x ∷ xs) (suc k) p stands pass = by (test x) (first_least test xs k p stands pass)
  where
    by : (b : Bool) → position_or_len test xs ≤ k → cond (not b) (1 + position_or_len test xs) 0 ≤ suc k
    by true low = omega arith
    by false low = omega arith

-- at its end the search has the first place that passes
pub seeks_done : (test : PlaceState → Bool) (places : List PlaceState) (found : Option ℕ) → Seeks test places 0 found → found ≡ position test places
seeks_done test places found seeks = by found refl (nat_lt (position_or_len test places) (length places)) refl
  where
    by : (o : Option ℕ) → found ≡ o → (b : Bool) → nat_lt (position_or_len test places) (length places) ≡ b → found ≡ cond b (Some (position_or_len test places)) None
    by None is true less =
        let first = first_stands test places (ltb-true _ _ less) in
        elim (seeks.least (position_or_len test places) first.0 first.1 first.2) [ inl h ↦ absurd (omega arith) | inr h ↦ let both : None ≡ Some h.0 = sym is ∙ h.1 in absurd (cc) ]
    by None is false less = is
    by (Some f) is true less =
        let first = first_stands test places (ltb-true _ _ less) in
        let here = seeks.passes f is in
        let low : position_or_len test places ≤ f = first_least test places f here.0 here.1 here.2 in
        elim (seeks.least (position_or_len test places) first.0 first.1 first.2) [
          | inl h ↦ absurd (omega arith)
          | inr h ↦
              let same : h.0 ≡ f = cc in
              let end : f ≡ position_or_len test places = omega (arith, low, h.2, same) in
              is ∙ ap (λ (n : ℕ). Some n) end
        ]
    by (Some f) is false less =
        let here = seeks.passes f is in
        let low : position_or_len test places ≤ f = first_least test places f here.0 here.1 here.2 in
        let within : f < length places = slice_get_within places f here.0 here.1 in
        absurd (omega (arith, low, within, ltb-false _ _ less))
