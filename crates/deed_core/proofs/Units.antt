-- Which ranges cover a unit.
use Rattle.std.proofs.Common.{◌≡◌, ◌⊎◌, ℕ, ◌+◌, ◌<◌, ◌≤◌, max, Bool, true, false, ltb, leb, refl, inl, inr, arith}
use Rattle.std.proofs.lemmas.Bool.Decides.{nat_tests}
use Rattle.deed_core.specs.Extent.{Extent, end_of, Overlap, part_below, part_from, union}
use Rattle.deed_core.specs.Covering.{covers}
use Rattle.deed_core.specs.Laws.{CountsTheUnit, OverlapCoversTwice, CutKeepsUnits, SplitKeepsUnits, JoinKeepsUnits}

-- what the number says
pub covers_is : (unit : ℕ) (e : Extent) → ((covers unit e ≡ 1) × (e.base ≤ unit) × (unit < end_of e)) ⊎ ((covers unit e ≡ 0) × ((unit < e.base) ⊎ (end_of e ≤ unit)))
covers_is unit e = by (leb e.base unit) (ltb unit (end_of e)) refl refl
  where
    by : (x y : Bool) → leb e.base unit ≡ x → ltb unit (end_of e) ≡ y → ((covers unit e ≡ 1) × (e.base ≤ unit) × (unit < end_of e)) ⊎ ((covers unit e ≡ 0) × ((unit < e.base) ⊎ (end_of e ≤ unit)))
    by true true p q = inl (rw (p, q) refl, grind (arith, nat_tests), grind (arith, nat_tests))
    by true false p q = inr (rw (p, q) refl, inr (grind (arith, nat_tests)))
    by false y p q = inr (rw p refl, inl (grind (arith, nat_tests)))

pub counts_the_unit : CountsTheUnit
counts_the_unit unit e = (grind (arith, covers_is unit e), ((λ is. grind (arith, covers_is unit e)), (λ within. grind (arith, covers_is unit e))))

pub covers_cut : CutKeepsUnits
covers_cut unit a b e first meet last = grind (arith, covers_is unit a, covers_is unit b, covers_is unit e)

pub split_keeps_units : SplitKeepsUnits
split_keeps_units unit at h inside = covers_cut unit (part_below at h.range) (part_from at h.range) h.range refl (omega (arith, inside)) (omega (arith, inside))

pub join_keeps_units : JoinKeepsUnits
join_keeps_units unit a b goes = covers_cut unit a.range b.range (union a.range b.range) refl goes.meets (omega (arith, goes.meets))

pub overlap_covers_twice : OverlapCoversTwice
overlap_covers_twice a b some other = (there, back)
  where
    there : Overlap a b → (unit : ℕ) × (covers unit a + covers unit b ≡ 2)
    there o =
        let u = max a.base b.base in
        let first : covers u a ≡ 1 = grind (arith, o, some, other, covers_is u a) in
        let second : covers u b ≡ 1 = grind (arith, o, some, other, covers_is u b) in
        (u, omega (arith, first, second))

    back : (unit : ℕ) × (covers unit a + covers unit b ≡ 2) → Overlap a b
    back t = (grind (arith, t.1, covers_is t.0 a, covers_is t.0 b), grind (arith, t.1, covers_is t.0 a, covers_is t.0 b))
