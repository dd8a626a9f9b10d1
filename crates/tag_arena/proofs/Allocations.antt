-- What is allocated, weighed, once a range is put in or taken out.
use Rattle.std.proofs.Common.{◌≡◌, ℕ, ◌+◌, ◌-◌, ◌≤◌, cond, is_some, inl, inr, sym, ap, ◌∙◌, List, [], ◌∷◌, map, Option, Some, None, arith}
use Rattle.std.specs.Prelude.{sum_by}
use Rattle.std.proofs.lemmas.List.Sums.{sum_by-cons}
use Rattle.std.proofs.lemmas.Bool.{cases_eq}
use Rattle.std.specs.Ordering.{nat_cmp, is_eq}
use Rattle.std.specs.Cmp.{nat_cmp_total}
use Rattle.std.specs.declared.cmp.Ordering.{Ordering}
use Rattle.std.specs.declared.cmp.Ordering.TheVariants.{Less, Equal, Greater}
use Rattle.std.specs.FinMap.{FinMap, get, insert, remove, entries, len, find, put, same_map, nat_cmp-IsAntisymmetric, entries-insert, get-entries, len-insert, len-remove, empty_of_len, get-empty}
use Rattle.std.specs.FinMap.Entries.{by_order}
use Rattle.deed_core.specs.Holding.{Holding}
use Rattle.deed_core.specs.Weights.{Gains, Loses}
use Rattle.tag_arena.specs.ArenaState.{ranges_of}
use Rattle.tag_arena.proofs.Ranges.{get_same, get_other, get_less, get_gone}

abbrev held : List (ℕ × Holding) → List Holding
held es = map (λ e. e.1) es

module _ (f : Holding → ℕ) (k : ℕ) (v : Holding) where
  sum-by_order : (e : ℕ × Holding) (es : List (ℕ × Holding)) (r : Ordering) → cond (is_eq r) (Some e.1) (find nat_cmp k es) ≡ None
      → (find nat_cmp k es ≡ None → sum_by f (held (put nat_cmp k v es)) ≡ sum_by f (held es) + f v)
      → sum_by f (held (by_order r ((k, v) ∷ e ∷ es) ((e.0, v) ∷ es) (e ∷ put nat_cmp k v es))) ≡ sum_by f (held (e ∷ es)) + f v
  sum-by_order e es Less none more = omega (arith, sum_by-cons f v (held (e ∷ es)))
  sum-by_order e es Equal none more = absurd (let both : Some e.1 ≡ None = none in cc)
  sum-by_order e es Greater none more = let m = more none in omega (arith, m, sum_by-cons f e.1 (held (put nat_cmp k v es)), sum_by-cons f e.1 (held es))

  -- a list of entries with one more
  sum-put : (es : List (ℕ × Holding)) → find nat_cmp k es ≡ None → sum_by f (held (put nat_cmp k v es)) ≡ sum_by f (held es) + f v
  sum-put [] none = omega (arith, sum_by-cons f v [])
  sum-put (e ∷ es) none = sum-by_order e es (nat_cmp k e.0) none (sum-put es)

pub gains_insert : (m : FinMap nat_cmp Holding) (k : ℕ) (v : Holding) → get m k ≡ None → Gains (ranges_of m) (ranges_of (insert m k v)) v
gains_insert m k v none f =
    ap (λ es. sum_by f (held es)) (entries-insert nat_cmp_total m k v) ∙ sum-put f k v (entries m) (sym (get-entries m k) ∙ none)

-- a range that is taken out and put back
pub insert-remove : (m : FinMap nat_cmp Holding) (k : ℕ) (v : Holding) → get m k ≡ Some v → insert (remove m k) k v ≡ m
insert-remove m k v at = same_map nat_cmp_total nat_cmp-IsAntisymmetric (insert (remove m k) k v) m (λ q.
    elim (cases_eq q k) [
      | inl e ↦ ap (get (insert (remove m k) k v)) e ∙ get_same (remove m k) k v ∙ sym at ∙ ap (get m) (sym e)
      | inr ne ↦ get_other (remove m k) k v q ne ∙ get_less m k v q ne
    ])

-- a range that is put in and taken out again
pub remove-insert : (m : FinMap nat_cmp Holding) (k : ℕ) (v : Holding) → get m k ≡ None → remove (insert m k v) k ≡ m
remove-insert m k v none = same_map nat_cmp_total nat_cmp-IsAntisymmetric (remove (insert m k v) k) m (λ q.
    elim (cases_eq q k) [
      | inl e ↦ ap (get (remove (insert m k v) k)) e ∙ get_gone (insert m k v) k v ∙ sym none ∙ ap (get m) (sym e)
      | inr ne ↦ get_less (insert m k v) k v q ne ∙ get_other m k v q ne
    ])

pub loses_remove : (m : FinMap nat_cmp Holding) (k : ℕ) (v : Holding) → get m k ≡ Some v → Loses (ranges_of m) (ranges_of (remove m k)) v
loses_remove m k v at f =
    ap (λ n. sum_by f (ranges_of n)) (sym (insert-remove m k v at)) ∙ gains_insert (remove m k) k v (get_gone m k v) f

pub len_more : (m : FinMap nat_cmp Holding) (k : ℕ) (v : Holding) → get m k ≡ None → len (insert m k v) ≡ len m + 1
len_more m k v none = len-insert nat_cmp_total m k v ∙ ap (λ o. cond (is_some o) (len m) (len m + 1)) none

pub some_allocated : (m : FinMap nat_cmp Holding) (k : ℕ) (v : Holding) → get m k ≡ Some v → 1 ≤ len m
some_allocated m k v at =
    elim (cases_eq (len m) 0) [
      | inr ne ↦ omega arith
      | inl e ↦
          let none : get m k ≡ None = ap (λ (n : FinMap nat_cmp Holding). get n k) (empty_of_len m e) ∙ get-empty nat_cmp k in
          absurd (let both : Some v ≡ None = sym at ∙ none in cc)
    ]

pub len_less : (m : FinMap nat_cmp Holding) (k : ℕ) (v : Holding) → get m k ≡ Some v → len (remove m k) + 1 ≡ len m
len_less m k v at =
    let less : len (remove m k) ≡ len m - 1 = len-remove nat_cmp_total m k ∙ ap (λ (o : Option Holding). cond (is_some o) (len m - 1) (len m)) at in
    omega (arith, less, some_allocated m k v at)
