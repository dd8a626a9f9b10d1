-- The rule over all views of the table, and what follows from it.
use mathlib.Core.Option.{some}
use lib.ListN.{get_elem?}
use Rattle.std.specs.Prelude.{◌≡◌, ◌≢◌, ◌⊎◌, ℕ, ◌+◌, ◌<◌, ◌≤◌, List, sum_by}
use Rattle.atomic_table.specs.Table.{Me, Step}
use Rattle.deed_core.specs.Extent.{Extent}
use Rattle.deed_core.specs.Covering.{covers}
use Rattle.deed_table.specs.declared.views.View.{View}
use Rattle.deed_table.specs.Piece.{covering_of, count_of, CoverOnce}
use Rattle.deed_table.specs.View.{numbers_of, opened_view, spent_view}

-- 1 where the root number is one of those left to the seat, else 0
abbrev pub one_if_left : ℕ → View → ℕ
one_if_left root v = covers root (numbers_of v)

-- how many ranges of all views cover the unit of the root
abbrev pub cover_count : ℕ → ℕ → List View → ℕ
cover_count root unit views = sum_by (λ v. covering_of root unit v.ranges) views

-- how many opened roots of all views have this number and this unit
abbrev pub open_count : ℕ → ℕ → List View → ℕ
open_count root unit views = sum_by (λ v. covering_of root unit v.roots) views

-- in how many views the root number is left
abbrev pub left_in : ℕ → List View → ℕ
left_in root views = sum_by (one_if_left root) views

-- in how many places the root number stands: as an opened root's, or as one that is left
abbrev pub standing_count : ℕ → List View → ℕ
standing_count root views = sum_by (λ v. count_of root v.roots + one_if_left root v) views

-- Each unit is covered as often as it is opened, and each root number stands in one place at most
pub record CoversOnceEach (views : List View) : Type 0 where
  pub each : (root unit : ℕ) → cover_count root unit views ≡ open_count root unit views
  pub one_place : (root : ℕ) → standing_count root views ≤ 1

-- a seat's view, and the slots that it has, which are none
abbrev pub Sitter : Type 0
Sitter = Me (Unit {0}) View

-- a look changes nothing, and tells that the view covers no unit twice
abbrev pub Learns : Step (Unit {0}) → Sitter → ℕ → Sitter → Type 0
Learns step old found new = (new ≡ old) × CoverOnce old.0.ranges

-- the first number left becomes a root of this range, which the view covers
abbrev pub Opens : Extent → Step (Unit {0}) → Sitter → ℕ → Sitter → Type 0
Opens range step old found new = new ≡ (opened_view range old.0, old.1)

-- from the opening of a root on, each of its units lies in one range of one view
abbrev pub EachUnitOnce : Type 0
EachUnitOnce = (views : List View) → CoversOnceEach views → (root unit : ℕ) →
    0 < open_count root unit views → cover_count root unit views ≡ 1

-- no unit lies in ranges of two seats
abbrev pub OneSeatEach : Type 0
OneSeatEach = (views : List View) → CoversOnceEach views → (i j : ℕ) (v w : View)
    → get_elem? views i ≡ some v → get_elem? views j ≡ some w → j ≢ i
    → (root unit : ℕ) → (covering_of root unit v.ranges ≡ 0) ⊎ (covering_of root unit w.ranges ≡ 0)

-- a number that is left is left to one seat, and has no range
abbrev pub LeftHasNoRange : Type 0
LeftHasNoRange = (views : List View) → CoversOnceEach views → (root : ℕ) →
    0 < left_in root views
    → (left_in root views ≡ 1) × ((unit : ℕ) → cover_count root unit views ≡ 0)

-- a seat that was joined into another covers nothing, opened nothing, and has no number left
abbrev pub SpentIsEmpty : Type 0
SpentIsEmpty = (root unit : ℕ) →
    (covering_of root unit spent_view.ranges ≡ 0) × (count_of root spent_view.roots ≡ 0)
    × (one_if_left root spent_view ≡ 0)
