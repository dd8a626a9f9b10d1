-- The totals of arenas, where one of them changes.
use Rattle.std.proofs.Common.{◌≡◌, ℕ, ◌+◌, ◌<◌, ◌≤◌, Bool, true, false, cond, not, nat_eq, one-add, List, [], ◌∷◌, ◌++◌, length, Some, None, get_or, position, refl, sym, ap, subst, ◌∙◌, arith}
use Rattle.std.specs.List.{position_or_len}
use Rattle.std.proofs.Math.ListN.{set}
use Rattle.std.proofs.lemmas.Bool.{eqb-true, eqb-false, ne_eqb}
use Rattle.lease_book.proofs.PlaceLemmas.{position-some, position-none}
use Rattle.lease_book.specs.Totals.{total_of, CountMore}
use Rattle.lease_book.specs.declared.totals.Total.{Total}

abbrev pub is_of : ℕ → Total → Bool
is_of arena t = nat_eq t.arena arena

-- two numbers aren't both one that differs
other_of : (a b c : ℕ) → nat_eq a b ≡ false → nat_eq a c ≡ true → nat_eq b c ≡ false
other_of a b c differs same = ne_eqb b c (λ e. eqb-false a b differs (eqb-true a c same ∙ sym e))

first_total : (arena : ℕ) (ts : List Total) (e : Total) → position_or_len (is_of arena) ts < length ts → e ≡ get_or ts (position_or_len (is_of arena) ts) e → total_of arena ts ≡ e.units
first_total arena [] e within stands = absurd (omega arith)
first_total arena (t ∷ ts) e within stands = by (nat_eq t.arena arena) within stands (first_total arena ts e)
  where
    by : (b : Bool) → cond (not b) (1 + position_or_len (is_of arena) ts) 0 < length (t ∷ ts) → e ≡ get_or (t ∷ ts) (cond (not b) (1 + position_or_len (is_of arena) ts) 0) e
        → (position_or_len (is_of arena) ts < length ts → e ≡ get_or ts (position_or_len (is_of arena) ts) e → total_of arena ts ≡ e.units)
        → cond b t.units (total_of arena ts) ≡ e.units
    by true within stands rest = sym (ap (λ (x : Total). x.units) stands)
    by false within stands rest = rest (omega arith) (rw one-add at stands)

-- what the first total of an arena becomes is what is counted of that arena
first_set : (arena : ℕ) (ts : List Total) (e : Total) (u other : ℕ) → position_or_len (is_of arena) ts < length ts → e ≡ get_or ts (position_or_len (is_of arena) ts) e
    → total_of other (set ts (position_or_len (is_of arena) ts) (record { arena = e.arena; units = u })) ≡ cond (nat_eq arena other) u (total_of other ts)
first_set arena [] e u other within stands = absurd (omega arith)
first_set arena (t ∷ ts) e u other within stands = by (nat_eq t.arena arena) refl within stands (first_set arena ts e u other)
  where
    own : (b : Bool) → cond b u (total_of other ts) ≡ cond b u (cond b t.units (total_of other ts))
    own true = refl
    own false = refl

    later : (b : Bool) → nat_eq t.arena other ≡ b → nat_eq t.arena arena ≡ false → (rest : ℕ) → rest ≡ cond (nat_eq arena other) u (total_of other ts)
        → cond b t.units rest ≡ cond (nat_eq arena other) u (cond b t.units (total_of other ts))
    later true same differs rest is = sym (ap (λ (c : Bool). cond c u t.units) (other_of t.arena arena other differs same))
    later false same differs rest is = is

    by : (b : Bool) → nat_eq t.arena arena ≡ b → cond (not b) (1 + position_or_len (is_of arena) ts) 0 < length (t ∷ ts)
        → e ≡ get_or (t ∷ ts) (cond (not b) (1 + position_or_len (is_of arena) ts) 0) e
        → (position_or_len (is_of arena) ts < length ts → e ≡ get_or ts (position_or_len (is_of arena) ts) e
        → total_of other (set ts (position_or_len (is_of arena) ts) (record { arena = e.arena; units = u })) ≡ cond (nat_eq arena other) u (total_of other ts))
        → total_of other (set (t ∷ ts) (cond (not b) (1 + position_or_len (is_of arena) ts) 0) (record { arena = e.arena; units = u })) ≡ cond (nat_eq arena other) u (total_of other (t ∷ ts))
    by true is within stands rest =
        let here : t.arena ≡ arena = eqb-true t.arena arena is in
        let there : e.arena ≡ arena = ap (λ (x : Total). x.arena) stands ∙ here in
        ap (λ (a : ℕ). cond (nat_eq a other) u (total_of other ts)) there ∙ own (nat_eq arena other)
        ∙ ap (λ (a : ℕ). cond (nat_eq arena other) u (cond (nat_eq a other) t.units (total_of other ts))) (sym here)
    by false is within stands rest = rw one-add (later (nat_eq t.arena other) refl is _ (rest (omega arith) (rw one-add at stands)))

none_of : (arena : ℕ) (ts : List Total) → length ts ≤ position_or_len (is_of arena) ts → total_of arena ts ≡ 0
none_of arena [] past = refl
none_of arena (t ∷ ts) past = by (nat_eq t.arena arena) past (none_of arena ts)
  where
    by : (b : Bool) → length (t ∷ ts) ≤ cond (not b) (1 + position_or_len (is_of arena) ts) 0 → (length ts ≤ position_or_len (is_of arena) ts → total_of arena ts ≡ 0)
        → cond b t.units (total_of arena ts) ≡ 0
    by true past rest = absurd (omega arith)
    by false past rest = rest (omega arith)

pushed_past : (arena u : ℕ) (ts : List Total) (other : ℕ) → length ts ≤ position_or_len (is_of arena) ts
    → total_of other (ts ++ record { arena = arena; units = u } ∷ []) ≡ total_of other ts + cond (nat_eq arena other) u 0
pushed_past arena u [] other past = omega arith
pushed_past arena u (t ∷ ts) other past = by (nat_eq t.arena arena) refl past (pushed_past arena u ts other)
  where
    later : (b : Bool) → nat_eq t.arena other ≡ b → nat_eq t.arena arena ≡ false → (rest : ℕ) → rest ≡ total_of other ts + cond (nat_eq arena other) u 0
        → cond b t.units rest ≡ cond b t.units (total_of other ts) + cond (nat_eq arena other) u 0
    later true same differs rest is = omega (arith, ap (λ (c : Bool). cond c u 0) (other_of t.arena arena other differs same))
    later false same differs rest is = is

    by : (b : Bool) → nat_eq t.arena arena ≡ b → length (t ∷ ts) ≤ cond (not b) (1 + position_or_len (is_of arena) ts) 0
        → (length ts ≤ position_or_len (is_of arena) ts → total_of other (ts ++ record { arena = arena; units = u } ∷ []) ≡ total_of other ts + cond (nat_eq arena other) u 0)
        → total_of other ((t ∷ ts) ++ record { arena = arena; units = u } ∷ []) ≡ total_of other (t ∷ ts) + cond (nat_eq arena other) u 0
    by true is past rest = absurd (omega arith)
    by false is past rest = later (nat_eq t.arena other) refl is _ (rest (omega arith))

-- What the calls of totals do.

module _ (arena : ℕ) (ts : List Total) (i : ℕ) (e : Total) (found : Some i ≡ position (is_of arena) ts) (stands : e ≡ get_or ts i e) where
  there : (position_or_len (is_of arena) ts ≡ i) × (i < length ts)
  there = position-some (is_of arena) ts i (sym found)

  pub its_total : total_of arena ts ≡ e.units
  its_total = first_total arena ts e (omega (arith, there.0, there.1)) (subst (λ (k : ℕ). e ≡ get_or ts k e) (sym there.0) stands)

  total_set : (u other : ℕ) → total_of other (set ts i (record { arena = e.arena; units = u })) ≡ cond (nat_eq arena other) u (total_of other ts)
  total_set u other =
      subst (λ (k : ℕ). total_of other (set ts k (record { arena = e.arena; units = u })) ≡ cond (nat_eq arena other) u (total_of other ts)) there.0
      (first_set arena ts e u other (omega (arith, there.0, there.1)) (subst (λ (k : ℕ). e ≡ get_or ts k e) (sym there.0) stands))

  pub total_less : (u units : ℕ) → u + units ≡ e.units → CountMore arena units ts (set ts i (record { arena = e.arena; units = u }))
  total_less u units is other = by (nat_eq arena other) refl (total_set u other)
    where
      by : (b : Bool) → nat_eq arena other ≡ b → total_of other (set ts i (record { arena = e.arena; units = u })) ≡ cond b u (total_of other ts)
          → total_of other ts ≡ total_of other (set ts i (record { arena = e.arena; units = u })) + cond b units 0
      by true same after =
          let own : total_of other ts ≡ e.units = subst (λ (a : ℕ). total_of a ts ≡ e.units) (eqb-true arena other same) its_total in
          omega arith
      by false same after = omega arith

  pub total_more : (u units : ℕ) → u ≡ e.units + units → CountMore arena units (set ts i (record { arena = e.arena; units = u })) ts
  total_more u units is other = by (nat_eq arena other) refl (total_set u other)
    where
      by : (b : Bool) → nat_eq arena other ≡ b → total_of other (set ts i (record { arena = e.arena; units = u })) ≡ cond b u (total_of other ts)
          → total_of other (set ts i (record { arena = e.arena; units = u })) ≡ total_of other ts + cond b units 0
      by true same after =
          let own : total_of other ts ≡ e.units = subst (λ (a : ℕ). total_of a ts ≡ e.units) (eqb-true arena other same) its_total in
          omega arith
      by false same after = omega arith

-- and where the arena has none yet
module _ (arena : ℕ) (ts : List Total) (none : None ≡ position (is_of arena) ts) where
  pub no_total : total_of arena ts ≡ 0
  no_total = none_of arena ts (position-none (is_of arena) ts (sym none))

  pub total_new : (u : ℕ) → CountMore arena u (ts ++ record { arena = arena; units = u } ∷ []) ts
  total_new u other = pushed_past arena u ts other (position-none (is_of arena) ts (sym none))

pub none_more : (arena units : ℕ) (ts : List Total) → units ≡ 0 → CountMore arena units ts ts
none_more arena units ts none other = by (nat_eq arena other)
  where
    by : (b : Bool) → total_of other ts ≡ total_of other ts + cond b units 0
    by true = omega arith
    by false = omega arith
