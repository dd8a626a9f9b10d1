-- Ranges and the units that they cover.
use Rattle.std.proofs.Common.{◌≡◌, ◌≢◌, ◌⊎◌, ℕ, ◌+◌, ◌-◌, ◌<◌, Bool, true, false, cond, refl, sym, subst, ap, ◌∙◌, inl, inr, ⊎_elim, List, [], ◌∷◌, length, get_or, Contains, AllPairs, Any, Some, None, nat_lt, arith}
use Rattle.std.proofs.lemmas.Bool.{ltb-true, lt-ltb}
use Rattle.std.proofs.lemmas.Bool.{cases_lt, cases_order, cases_eq}
use Rattle.std.proofs.lemmas.Bool.Decides.{nat_tests}
use Rattle.std.proofs.lemmas.List.{get_or_default}
use Rattle.std.specs.Ordering.{nat_cmp}
use Rattle.std.specs.FinMap.{FinMap, get, insert, remove, gets}
use Rattle.deed_core.specs.Holding.{Holding, Apart}
use Rattle.deed_core.specs.Extent.{Covers}
use Rattle.tag_arena.specs.Layout.{Holds, IsPartOf, IsAllocated}
use Rattle.tag_arena.specs.Calls.{rest_between, part, surrounds}
use Rattle.tag_arena.proofs.Members.{Contains-head, Contains-cases, Contains-nil}

-- two ranges are apart or share a unit
pub apart_or_share : (r s : Holding) → 0 < r.range.len → 0 < s.range.len → Apart r s ⊎ ((u : ℕ) × Covers r.range u × Covers s.range u)
apart_or_share r s hr hs =
    elim (cases_lt r.range.base (s.range.base + s.range.len)) [
      | inr ge ↦ inl (inr ge)
      | inl lt ↦ elim (cases_lt s.range.base (r.range.base + r.range.len)) [
        | inr ge ↦ inl (inl ge)
        | inl lt2 ↦ elim (cases_lt r.range.base s.range.base) [
          | inl below ↦ inr (s.range.base, (omega arith, omega arith), (omega arith, omega arith))
          | inr above ↦ inr (r.range.base, (omega arith, omega arith), (omega arith, omega arith))
        ]
      ]
    ]

pub not_both : (r s : Holding) (u : ℕ) → Apart r s → Covers r.range u → Covers s.range u → ⊥
not_both r s u apart cr cs = ⊎_elim (λ le. omega (arith, cr, cs)) (λ le. omega (arith, cr, cs)) apart

-- of two members of a list of ranges that don't overlap, the earlier shares no unit with the later
earlier_apart : (xs : List Holding) (i j : ℕ) (r s : Holding) → AllPairs Apart xs → i < j → j < length xs → get_or xs i r ≡ r → get_or xs j s ≡ s → Apart r s
earlier_apart xs i j r s apart lt below hr hs =
    let e : get_or xs j r ≡ s = get_or_default xs j r s below ∙ hs in
    let P : Holding → Type 0 = λ x. Apart x s in
    let Q : Holding → Type 0 = λ x. Apart (get_or xs i r) x in
    subst P hr (subst Q e (apart i j r lt below))

-- members of a list of ranges that don't overlap are equal if they share a unit
pub same_where_shared : (xs : List Holding) (r s : Holding) (u : ℕ) → AllPairs Apart xs → Contains xs r → Contains xs s → Covers r.range u → Covers s.range u → r ≡ s
same_where_shared xs r s u apart hr hs cr cs =
    elim (cases_order hr.0 hs.0) [
      | inl e ↦ sym hr.2 ∙ ap (λ k. get_or xs k r) e ∙ get_or_default xs hs.0 r s hs.1 ∙ hs.2
      | inr (inl lt) ↦ absurd (not_both r s u (earlier_apart xs hr.0 hs.0 r s apart lt hs.1 hr.2 hs.2) cr cs)
      | inr (inr gt) ↦ absurd (not_both s r u (earlier_apart xs hs.0 hr.0 s r apart gt hr.1 hs.2 hr.2) cs cr)
    ]

-- what a test of ranges says
pub surrounds-true : (r p : Holding) → surrounds r p ≡ true → Holds r p
surrounds-true r p e = record { from = grind (arith, nat_tests); to = grind (arith, nat_tests) }

pub true-surrounds : (r p : Holding) → Holds r p → surrounds r p ≡ true
true-surrounds r p h = grind (arith, nat_tests, h.from, h.to)

one_between : (b : Bool) (r x : Holding) → Contains (cond b (r ∷ []) []) x → (b ≡ true) × (x ≡ r)
one_between true r x h = (refl, sym (⊎_elim (λ e. e) (λ later. absurd (Contains-nil x later)) (Contains-cases r x [] h)))
one_between false r x h = absurd (Contains-nil x h)

pub between_is : (r : Holding) (low high : ℕ) (x : Holding) → Contains (rest_between r low high) x → (low < high) × (x ≡ part r low (high - low))
between_is r low high x h =
    let one = one_between (nat_lt low high) (part r low (high - low)) x h in
    (ltb-true low high one.0, one.1)

pub between_has : (r : Holding) (low high : ℕ) → low < high → Contains (rest_between r low high) (part r low (high - low))
between_has r low high lt =
    let P : Bool → Type 0 = λ b. Contains (cond b (part r low (high - low) ∷ []) []) (part r low (high - low)) in
    subst P (sym (lt-ltb low high lt)) (Contains-head (part r low (high - low)) [])

-- the allocated units after one more range, and after one less
module _ (m : FinMap nat_cmp Holding) (base : ℕ) (piece : Holding) where
  pub get_same : get (insert m base piece) base ≡ Some piece
  get_same = grind (arith, nat_tests, gets)

  pub get_other : (q : ℕ) → q ≢ base → get (insert m base piece) q ≡ get m q
  get_other q ne = grind (arith, nat_tests, gets)

  pub get_less : (q : ℕ) → q ≢ base → get (remove m base) q ≡ get m q
  get_less q ne = grind (arith, nat_tests, gets)

  pub get_gone : get (remove m base) base ≡ None
  get_gone = grind (arith, nat_tests, gets)

  -- a unit that the new range covers is allocated, and so is each that was, where nothing stood at its base
  pub new_allocated : (u : ℕ) → Covers piece.range u → IsAllocated (insert m base piece) u
  new_allocated u c = (base, piece, get_same, c)

  pub still_allocated : (u : ℕ) → get m base ≡ None → IsAllocated m u → IsAllocated (insert m base piece) u
  still_allocated u none a =
      elim (cases_eq a.0 base) [
        | inl e ↦ absurd (let some : get m base ≡ Some a.1 = ap (get m) (sym e) ∙ a.2 in cc)
        | inr ne ↦ (a.0, a.1, get_other a.0 ne ∙ a.2, a.3)
      ]

  same_piece : (t : Holding) (u : ℕ) → Some t ≡ Some piece → Covers t.range u → Covers piece.range u
  same_piece t u e c = let same : t ≡ piece = cc in subst (λ (h : Holding). Covers h.range u) same c

  pub allocated_cases : (u : ℕ) → IsAllocated (insert m base piece) u → Covers piece.range u ⊎ IsAllocated m u
  allocated_cases u a =
      elim (cases_eq a.0 base) [
        | inl e ↦ inl (same_piece a.1 u (sym a.2 ∙ ap (get (insert m base piece)) e ∙ get_same) a.3)
        | inr ne ↦ inr (a.0, a.1, sym (get_other a.0 ne) ∙ a.2, a.3)
      ]

  -- what stays allocated without the range at base
  pub was_allocated : (u : ℕ) → IsAllocated (remove m base) u → IsAllocated m u
  was_allocated u a =
      elim (cases_eq a.0 base) [
        | inl e ↦ absurd (let some : get (remove m base) base ≡ Some a.1 = ap (get (remove m base)) (sym e) ∙ a.2 in let none = get_gone in cc)
        | inr ne ↦ (a.0, a.1, sym (get_less a.0 ne) ∙ a.2, a.3)
      ]

  pub freed_cases : (u : ℕ) → get m base ≡ Some piece → IsAllocated m u → Covers piece.range u ⊎ IsAllocated (remove m base) u
  freed_cases u at a =
      elim (cases_eq a.0 base) [
        | inl e ↦ inl (same_piece a.1 u (sym a.2 ∙ ap (get m) e ∙ at) a.3)
        | inr ne ↦ inr (a.0, a.1, get_less a.0 ne ∙ a.2, a.3)
      ]

-- membership as `Any` has it
pub Any-member : {X : Type 0} {P : X → Type 0} → (xs : List X) → (h : Any P xs) → Contains xs h.1
Any-member xs h = (h.0, h.2, h.3)

pub member-Any : {X : Type 0} → (P : X → Type 0) (xs : List X) (x : X) → Contains xs x → P x → Any P xs
member-Any P xs x h p = (h.0, x, h.1, h.2, p)

-- a whole that holds a part with its root
pub holds_part : (s r : Holding) → IsPartOf s r → Holds s r
holds_part s r h = record { from = h.from; to = h.to }
