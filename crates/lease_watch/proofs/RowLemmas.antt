-- Where rows stand, and the first of them.
use Rattle.std.proofs.Common.{◌-◌, ◌<◌, get_or, ◌≡◌, ℕ, ◌+◌, ◌≤◌, Bool, true, false, cond, not, nat_lt, List, [], ◌∷◌, ◌++◌, length, take, insert, append_assoc, Some, None, position, refl, sym, ap, ◌∙◌, arith, zero, suc, one-add}
use Rattle.std.specs.Prelude.{fold, filter, IsTrue}
use Rattle.std.specs.List.{position_or_len}
use Rattle.std.proofs.lemmas.Bool.{le-ltb, ltb-false, ltb-true}
use Rattle.std.proofs.lemmas.List.{append-nil, take-append-le, take-take, take_all}
use Rattle.std.proofs.lemmas.List.Elements.{filter-append}
use Rattle.std.proofs.lemmas.List.Edits.{insert_end}
use Rattle.std.proofs.lemmas.List.Sorted.{IsNonDecreasingBy-insert, IsNonDecreasingBy-short, IsNonDecreasingBy-take}
use Rattle.std.proofs.lemmas.List.Sums.{fails_before_first, fold_push, passes_at_first, position_or_len_is, prefix_len-le-length}
use Rattle.lease_watch.specs.declared.queries.ListQuery.{ListQuery}
use Rattle.lease_watch.specs.declared.rows.LeaseRow.{LeaseRow}
use Rattle.lease_watch.specs.Rows.{IsInOrder, after_look, comes_before, key, listed_of, put_in, takes}

pub some_place : {X : Type 0} (test : X → Bool) (xs : List X) (i : ℕ) → position test xs ≡ Some i → i ≡ position_or_len test xs
some_place test xs i at = by (nat_lt (position_or_len test xs) (length xs)) refl at
  where
    by : (b : Bool) → nat_lt (position_or_len test xs) (length xs) ≡ b → cond b (Some (position_or_len test xs)) None ≡ Some i → i ≡ position_or_len test xs
    by true less at = cc
    by false less at = absurd (cc)

pub place_within : {X : Type 0} (test : X → Bool) (xs : List X) → position_or_len test xs ≤ length xs
place_within test xs = prefix_len-le-length (λ x. not (test x)) xs

pub no_place : {X : Type 0} (test : X → Bool) (xs : List X) → position test xs ≡ None → length xs ≡ position_or_len test xs
no_place test xs at = by (nat_lt (position_or_len test xs) (length xs)) refl at
  where
    by : (b : Bool) → nat_lt (position_or_len test xs) (length xs) ≡ b → cond b (Some (position_or_len test xs)) None ≡ None → length xs ≡ position_or_len test xs
    by true less at = absurd (cc)
    by false less at = omega (arith, ltb-false _ _ less, place_within test xs)

-- one list after another: each further lease is put where it belongs
module _ (q : ListQuery) (row : LeaseRow) where
  put_cons : (x : LeaseRow) (xs : List LeaseRow) → put_in q (x ∷ xs) row ≡ cond (comes_before q row x) (row ∷ x ∷ xs) (x ∷ put_in q xs row)
  put_cons x xs = by (comes_before q row x)
    where
      by : (b : Bool) → insert (x ∷ xs) (cond (not b) (1 + position_or_len (comes_before q row) xs) 0) row ≡ cond b (row ∷ x ∷ xs) (x ∷ put_in q xs row)
      by true = refl
      by false = rw one-add refl

  take_head : (n : ℕ) (x : LeaseRow) (xs : List LeaseRow) → take n (x ∷ take n xs) ≡ take n (x ∷ xs)
  take_head zero x xs = refl
  take_head (suc n) x xs = ap (λ (ys : List LeaseRow). x ∷ ys) (take-take n (suc n) xs (omega arith))

  -- what lies beyond the first n changes nothing in them
  take_put : (n : ℕ) (xs : List LeaseRow) → take n (put_in q (take n xs) row) ≡ take n (put_in q xs row)
  take_put zero xs = refl
  take_put (suc n) [] = refl
  take_put (suc n) (x ∷ xs) =
      ap (take (suc n)) (put_cons x (take n xs)) ∙ by (comes_before q row x) (take_put n xs) ∙ ap (take (suc n)) (sym (put_cons x xs))
    where
      by : (b : Bool) → take n (put_in q (take n xs) row) ≡ take n (put_in q xs row) → take (suc n) (cond b (row ∷ x ∷ take n xs) (x ∷ put_in q (take n xs) row)) ≡ take (suc n) (cond b (row ∷ x ∷ xs) (x ∷ put_in q xs row))
      by true rest = ap (λ (ys : List LeaseRow). row ∷ ys) (take_head n x xs)
      by false rest = ap (λ (ys : List LeaseRow). x ∷ ys) rest

-- a further lease
pub listed_more : (q : ListQuery) (all : List LeaseRow) (row : LeaseRow) → after_look q (listed_of q all) row ≡ listed_of q (all ++ row ∷ [])
listed_more q all row =
    by (takes q row) ∙ ap (λ (xs : List LeaseRow). take q.count (fold (put_in q) [] xs)) (sym (filter-append (takes q) all (row ∷ [])))
  where
    kept : List LeaseRow
    kept = filter (takes q) all

    by : (b : Bool) → cond b (take q.count (put_in q (listed_of q all) row)) (listed_of q all) ≡ take q.count (fold (put_in q) [] (kept ++ cond b (row ∷ []) []))
    by true = take_put q row q.count (fold (put_in q) [] kept) ∙ ap (take q.count) (sym (fold_push (put_in q) [] kept row))
    by false = ap (λ (xs : List LeaseRow). take q.count (fold (put_in q) [] xs)) (sym (append-nil kept))

-- the leases of a further client
pub listed_all : (q : ListQuery) (all more : List LeaseRow) → fold (after_look q) (listed_of q all) more ≡ listed_of q (all ++ more)
listed_all q all [] = ap (listed_of q) (sym (append-nil all))
listed_all q all (row ∷ more) =
    ap (λ (rows : List LeaseRow). fold (after_look q) rows more) (listed_more q all row)
    ∙ listed_all q (all ++ row ∷ []) more
    ∙ ap (listed_of q) (append_assoc all (row ∷ []) more)

-- lists stay in order
pub put_in_order : (q : ListQuery) (xs : List LeaseRow) (row : LeaseRow) → IsInOrder q xs → IsInOrder q (put_in q xs row)
put_in_order q xs row up =
    IsNonDecreasingBy-insert (key q) xs place row up (place_within test xs)
    (λ k d less. ltb-false _ _ (fails_before_first test xs k d less))
    (λ k d from within.
    let first = ltb-true _ _ (passes_at_first test xs d (omega (arith, from, within))) in
    omega (arith, first, up place k d from within))
  where
    test : LeaseRow → Bool
    test = comes_before q row

    place : ℕ
    place = position_or_len (comes_before q row) xs

pub after_in_order : (q : ListQuery) (xs : List LeaseRow) (row : LeaseRow) → IsInOrder q xs → IsInOrder q (after_look q xs row)
after_in_order q xs row up = by (takes q row)
  where
    by : (b : Bool) → IsInOrder q (cond b (take q.count (put_in q xs row)) xs)
    by true = IsNonDecreasingBy-take (key q) q.count (put_in q xs row) (put_in_order q xs row up)
    by false = up

fold_in_order : (q : ListQuery) (more xs : List LeaseRow) → IsInOrder q xs → IsInOrder q (fold (put_in q) xs more)
fold_in_order q [] xs up = up
fold_in_order q (row ∷ more) xs up = fold_in_order q more (put_in q xs row) (put_in_order q xs row up)

pub listed_in_order : (q : ListQuery) (all : List LeaseRow) → IsInOrder q (listed_of q all)
listed_in_order q all =
    IsNonDecreasingBy-take (key q) q.count (fold (put_in q) [] (filter (takes q) all))
    (fold_in_order q (filter (takes q) all) [] (IsNonDecreasingBy-short (key q) [] (omega arith)))

-- what comes behind all of a full list changes nothing
pub put_beyond : (q : ListQuery) (xs : List LeaseRow) (row last : LeaseRow) → 0 < length xs → length xs ≡ q.count → last ≡ get_or xs (length xs - 1) last → comes_before q row last ≡ false → IsInOrder q xs → take q.count (put_in q xs row) ≡ xs
put_beyond q xs row last some full is not_before up =
    ap (λ (i : ℕ). take q.count (insert xs i row)) end
    ∙ ap (take q.count) (insert_end xs row)
    ∙ take-append-le q.count xs (row ∷ []) (omega (arith, full))
    ∙ take_all q.count xs (omega (arith, full))
  where
    greatest : key q last ≤ key q row
    greatest = ltb-false _ _ not_before

    each : (k : ℕ) → k < length xs → key q (get_or xs k last) ≤ key q row
    each k less =
        let upto : key q (get_or xs k last) ≤ key q (get_or xs (length xs - 1) last) = up k (length xs - 1) last (omega (arith, less)) (omega (arith, some)) in
        let same : key q last ≡ key q (get_or xs (length xs - 1) last) = ap (key q) is in
        omega (arith, upto, same, greatest)

    end : position_or_len (comes_before q row) xs ≡ length xs
    end =
        position_or_len_is (comes_before q row) xs (length xs) last (omega arith)
        (λ k less. le-ltb _ _ (each k less))
        (λ beyond. absurd (omega (arith, beyond)))

pub not_true : (b : Bool) → IsTrue (not b) → b ≡ false
not_true true h = absurd (cc)
not_true false h = refl
