-- Each step keeps the rule.
use Rattle.std.proofs.Common.{◌≡◌, ℕ, ◌+◌, ◌≤◌, ◌==◌, List, [], ◌∷◌, ◌++◌, set, sym, refl, ap, ◌∙◌, subst, arith, sum_by}
use mathlib.Core.Option.{some}
use lib.ListN.{get_elem?}
use Rattle.std.proofs.lemmas.List.Sums.{sum_by-cons, sum_by-append}
use Rattle.atomic_table.proofs.Lists.{set_again}
use Rattle.deed_core.proofs.LawProofs.{covers_cut, sum_by-smaller}
use Rattle.deed_core.specs.Extent.{Extent}
use Rattle.deed_table.specs.declared.views.Piece.{Piece}
use Rattle.deed_table.specs.declared.views.View.{View}
use Rattle.deed_table.specs.Piece.{covers_of, covering_of, one_if_of, count_of, first_piece, other_pieces, CutsFirst, CoverOnce}
use Rattle.deed_table.specs.View.{numbers_of, spent_view, low_part, high_part, merged_view, view_of_both, first_part, other_part, numbers_below, numbers_after, opened_view, AreJoinable, NoneLeft}
use Rattle.deed_table.specs.Rule.{one_if_left, CoversOnceEach}
use Rattle.deed_table.proofs.Sums.{sum_by-set_at, sum_by-split, sum_by-join, le-sum_by}
use Rattle.deed_table.proofs.Covers.{one_if, none_covered, one_covered, covering_cut, covering_merged, covering_le}

-- the three numbers of a view that the rule adds up
abbrev pub ranged : ℕ → ℕ → View → ℕ
ranged root unit v = covering_of root unit v.ranges

abbrev pub rooted : ℕ → ℕ → View → ℕ
rooted root unit v = covering_of root unit v.roots

abbrev pub stood : ℕ → View → ℕ
stood root v = count_of root v.roots + one_if_left root v

-- what two views have together is what two others have
pub record Even (a b c d : View) : Type 0 where
  pub ranges : (root unit : ℕ) → ranged root unit a + ranged root unit b ≡ ranged root unit c + ranged root unit d
  pub roots : (root unit : ℕ) → rooted root unit a + rooted root unit b ≡ rooted root unit c + rooted root unit d
  pub numbers : (root : ℕ) → stood root a + stood root b ≡ stood root c + stood root d

pub keeps_split : (views : List View) (i : ℕ) (v low high : View) → CoversOnceEach views → get_elem? views i ≡ some v → Even low high v spent_view → CoversOnceEach (set views i low ++ high ∷ [])
keeps_split views i v low high k at e =
    record {
      each = λ root unit.
          let a = sum_by-split (ranged root unit) views i v low high at (omega (arith, e.ranges root unit)) in
          let b = sum_by-split (rooted root unit) views i v low high at (omega (arith, e.roots root unit)) in
          a ∙ (k.each root unit ∙ sym b);
      one_place = λ root.
          let a = sum_by-split (stood root) views i v low high at (let z = none_covered root (numbers_of spent_view) refl in omega (arith, e.numbers root)) in
          let b = k.one_place root in
          omega arith;
    }

pub keeps_join : (views : List View) (i j : ℕ) (v w both : View) → CoversOnceEach views → get_elem? views i ≡ some v → get_elem? (set views i both) j ≡ some w → Even both spent_view v w
    → CoversOnceEach (set (set views i both) j spent_view)
keeps_join views i j v w both k at too e =
    record {
      each = λ root unit.
          let a = sum_by-join (ranged root unit) views i j v w both spent_view at too (e.ranges root unit) in
          let b = sum_by-join (rooted root unit) views i j v w both spent_view at too (e.roots root unit) in
          a ∙ (k.each root unit ∙ sym b);
      one_place = λ root.
          let a = sum_by-join (stood root) views i j v w both spent_view at too (e.numbers root) in
          let b = k.one_place root in
          omega arith;
    }

pub even_cut : (at : ℕ) (v : View) → CutsFirst at v.ranges → Even (low_part at v) (high_part at v) v spent_view
even_cut at v inside =
    record {
      ranges = λ root unit. let c = covering_cut root unit at v.ranges inside in omega arith;
      roots = λ root unit. refl;
      numbers = λ root. refl;
    }

pub even_merged : (v w : View) → AreJoinable v w → Even (merged_view v w) spent_view v w
even_merged v w can =
    record {
      ranges = λ root unit. let c = covering_merged root unit v.ranges w.ranges can.0 in omega arith;
      roots = λ root unit. let c = sum_by-append (covers_of root unit) v.roots w.roots in omega arith;
      numbers = λ root.
          let a = sum_by-append (one_if_of root) v.roots w.roots in
          let z = none_covered root (numbers_of spent_view) refl in
          let x = none_covered root (numbers_of v) can.1 in
          let y = none_covered root (numbers_of w) can.2 in
          omega arith;
    }

pub even_beside : (v w : View) → NoneLeft v w → Even (view_of_both v w) spent_view v w
even_beside v w none =
    record {
      ranges = λ root unit. let c = sum_by-append (covers_of root unit) v.ranges w.ranges in omega arith;
      roots = λ root unit. let c = sum_by-append (covers_of root unit) v.roots w.roots in omega arith;
      numbers = λ root.
          let a = sum_by-append (one_if_of root) v.roots w.roots in
          let z = none_covered root (numbers_of spent_view) refl in
          let x = none_covered root (numbers_of v) none.0 in
          let y = none_covered root (numbers_of w) none.1 in
          omega arith;
    }

pub even_part : (v : View) → Even (first_part v) (other_part v) v spent_view
even_part v =
    record {
      ranges = λ root unit. by root unit v.ranges;
      roots = λ root unit. refl;
      numbers = λ root. refl;
    }
  where
    by : (root unit : ℕ) (ps : List Piece) → covering_of root unit (first_piece ps) + covering_of root unit (other_pieces ps) ≡ covering_of root unit ps + 0
    by root unit [] = refl
    by root unit (p ∷ ps) = omega (arith, sum_by-cons (covers_of root unit) p ps)

-- an opener, whose numbers are shared
pub even_share : (n : ℕ) (v : View) → n ≤ v.left → Even (numbers_after n v) (numbers_below n v) v spent_view
even_share n v left =
    record {
      ranges = λ root unit. refl;
      roots = λ root unit. refl;
      numbers = λ root.
          let c = covers_cut root (numbers_of (numbers_below n v)) (numbers_of (numbers_after n v)) (numbers_of v) refl refl (omega arith) in
          let z = none_covered root (numbers_of spent_view) refl in
          omega arith;
    }

-- a unit that is opened belongs to a root that stands
pub opened_le : (views : List View) (root unit : ℕ) → sum_by (rooted root unit) views ≤ sum_by (stood root) views
opened_le views root unit = sum_by-smaller (rooted root unit) (stood root) views (λ w. let d = covering_le root unit w.roots in omega arith)

-- what one view covers is covered once
pub looks : (views : List View) (i : ℕ) (v : View) → CoversOnceEach views → get_elem? views i ≡ some v → CoverOnce v.ranges
looks views i v k at root unit =
    let a = le-sum_by (ranged root unit) views i v at in
    let b = k.each root unit in
    let c = opened_le views root unit in
    let d = k.one_place root in
    omega arith

pub keeps_look : (views : List View) (i : ℕ) (v : View) → CoversOnceEach views → get_elem? views i ≡ some v → CoversOnceEach (set views i v)
keeps_look views i v k at = subst CoversOnceEach (sym (set_again views i v at)) k

-- the one number that is left becomes a root
pub keeps_open : (views : List View) (i : ℕ) (v : View) (e : Extent) → CoversOnceEach views → get_elem? views i ≡ some v → v.ranges ≡ [] → v.roots ≡ [] → v.left ≡ 1 → CoversOnceEach (set views i (opened_view e v))
keeps_open views i v e k at no_ranges no_roots one =
    let w = opened_view e v in
    record {
      each = λ root unit.
          let a = sum_by-set_at (ranged root unit) views i v w at in
          let b = sum_by-set_at (rooted root unit) views i v w at in
          let c = k.each root unit in
          let x : ranged root unit v ≡ 0 = ap (covering_of root unit) no_ranges in
          let y : rooted root unit v ≡ 0 = ap (covering_of root unit) no_roots in
          omega arith;
      one_place = λ root.
          let a = sum_by-set_at (stood root) views i v w at in
          let b = k.one_place root in
          let x : count_of root v.roots ≡ 0 = ap (count_of root) no_roots in
          let y = none_covered root (numbers_of spent_view) refl in
          let z : one_if_left root v ≡ one_if (root == v.first) = one_covered root (numbers_of v) one in
          omega arith;
    }
