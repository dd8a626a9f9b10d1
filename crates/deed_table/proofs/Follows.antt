-- What follows from the rule.
use Rattle.std.proofs.Common.{◌≡◌, ◌≢◌, ◌⊎◌, ℕ, ◌+◌, ◌≤◌, List, [], ◌∷◌, set, ap, sym, ◌∙◌, arith, sum_by}
use mathlib.Core.Option.{some}
use lib.ListN.{get_elem?}
use Rattle.atomic_table.proofs.Lists.{set_else}
use Rattle.deed_core.proofs.LawProofs.{sum_by-smaller, sum_add}
use Rattle.deed_table.specs.declared.views.View.{View}
use Rattle.deed_table.specs.Piece.{piece_at, covering_of, count_of, CoverOnce}
use Rattle.deed_table.specs.View.{spent_view}
use Rattle.deed_table.specs.Rule.{one_if_left, CoversOnceEach, EachUnitOnce, OneSeatEach, LeftHasNoRange}
use Rattle.deed_table.specs.Seated.{NoTwoOverlap}
use Rattle.deed_table.proofs.Sums.{sum_by-set_at, le-sum_by}
use Rattle.deed_table.proofs.Covers.{covering_le, apart_once}
use Rattle.deed_table.proofs.Keeps.{ranged, opened_le}

pub units_once : EachUnitOnce
units_once views k root unit is_open = let a = k.each root unit in let b = k.one_place root in let c = opened_le views root unit in omega arith

-- two views at two places weigh no more than all
two_le : (f : View → ℕ) (views : List View) (i j : ℕ) (v w : View) → get_elem? views i ≡ some v → get_elem? views j ≡ some w → j ≢ i → f v + f w ≤ sum_by f views + f spent_view
two_le f views i j v w at too apart =
    let a = sum_by-set_at f views i v spent_view at in
    let b = le-sum_by f (set views i spent_view) j w (set_else views i j spent_view apart ∙ too) in
    omega arith

-- two seats cover no unit of a root twice
two_once : (views : List View) → CoversOnceEach views → (i j : ℕ) (v w : View) → get_elem? views i ≡ some v → get_elem? views j ≡ some w → j ≢ i
    → (root unit : ℕ) → ranged root unit v + ranged root unit w ≤ 1
two_once views k i j v w at too apart root unit =
    let a = two_le (ranged root unit) views i j v w at too apart in
    let b = k.each root unit in
    let c = opened_le views root unit in
    let d = k.one_place root in
    omega arith

pub seats_apart : OneSeatEach
seats_apart views k i j v w at too apart root unit = by (ranged root unit v) (ranged root unit w) (two_once views k i j v w at too apart root unit)
  where
    by : (m n : ℕ) → m + n ≤ 1 → (m ≡ 0) ⊎ (n ≡ 0)
    by m n h = grind arith

pub deeds_apart : NoTwoOverlap
deeds_apart views k i j first second at too apart a b some_a some_b one two same =
    apart_once a.root a.range b.range some_a some_b once
  where
    once : CoverOnce (piece_at a.root a.range ∷ piece_at a.root b.range ∷ [])
    once root unit =
        let most = two_once views k i j first.0 second.0 at too apart root unit in
        let x : ranged root unit first.0 ≡ covering_of root unit (piece_at a.root a.range ∷ []) = ap (covering_of root unit) one.one in
        let y : ranged root unit second.0 ≡ covering_of root unit (piece_at a.root b.range ∷ []) = ap (covering_of root unit) two.one ∙ ap (λ (r : ℕ). covering_of root unit (piece_at r b.range ∷ [])) (sym same) in
        omega arith

pub left_unopened : LeftHasNoRange
left_unopened views k root is_left_over =
    let s = sum_add (λ (v : View). count_of root v.roots) (one_if_left root) views in
    let a = k.one_place root in (
      omega arith,
      (λ unit.
          let b = k.each root unit in
          let c = sum_by-smaller (λ (v : View). covering_of root unit v.roots) (λ v. count_of root v.roots) views (λ w. covering_le root unit w.roots) in
          omega arith),
    )
