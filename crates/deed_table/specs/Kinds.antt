-- The kinds of step that a seat takes, by what they do to the views of all seats, and what lasts
-- over any number of them.
use mathlib.Core.Option.{some}
use lib.ListN.{get_elem?}
use Rattle.std.specs.Prelude.{◌≡◌, ◌≢◌, ℕ, ◌^◌, ◌<◌, ◌≤◌, List, [], ◌∷◌, ◌++◌, set}
use Rattle.deed_core.specs.Extent.{Extent}
use Rattle.deed_table.specs.declared.views.View.{View}
use Rattle.deed_table.specs.Piece.{CutsFirst}
use Rattle.deed_table.specs.View.{opener, spent_view, low_part, high_part, merged_view}
use Rattle.deed_table.specs.View.{view_of_both}
use Rattle.deed_table.specs.View.{first_part}
use Rattle.deed_table.specs.View.{other_part, numbers_below, numbers_after, opened_view}
use Rattle.deed_table.specs.View.{AreJoinable}
use Rattle.deed_table.specs.View.{NoneLeft}
use Rattle.deed_table.specs.Rule.{CoversOnceEach, open_count, cover_count}

-- the seat i gives a part of its view to a new seat
abbrev pub SplitsInto : List View → List View → ℕ → View → View → View → Type 0
SplitsInto old new i v kept given =
    (get_elem? old i ≡ some v) × (new ≡ set old i kept ++ given ∷ [])

-- the seat i takes in the view of the seat j, which is spent
abbrev pub JoinsInto : List View → List View → ℕ → ℕ → View → View → View → Type 0
JoinsInto old new i j v w both =
    (get_elem? old i ≡ some v) × (get_elem? old j ≡ some w) × (j ≢ i)
    × (new ≡ set (set old i both) j spent_view)

pub data Steps (old new : List View) : Type 0 where
  -- a deed is cut
  cuts : (i at : ℕ) (v : View) → SplitsInto old new i v (low_part at v) (high_part at v) →
      CutsFirst at v.ranges → Steps old new
  -- two ranges beside each other are parted
  parts : (i : ℕ) (v : View) → SplitsInto old new i v (first_part v) (other_part v) → Steps old new
  -- an opener gives numbers away
  shares : (i n : ℕ) (v : View) →
      SplitsInto old new i v (numbers_after n v) (numbers_below n v) → n ≤ v.left → Steps old new
  -- two deeds that touch are made one
  merges : (i j : ℕ) (v w : View) → JoinsInto old new i j v w (merged_view v w) →
      AreJoinable v w → Steps old new
  -- two deeds are put beside each other
  gathers : (i j : ℕ) (v w : View) → JoinsInto old new i j v w (view_of_both v w) →
      NoneLeft v w → Steps old new
  -- the one number that is left to a seat becomes a root
  opens : (i : ℕ) (range : Extent) (v : View) → get_elem? old i ≡ some v →
      new ≡ set old i (opened_view range v) →
      v.ranges ≡ [] → v.roots ≡ [] → v.left ≡ 1 → Steps old new
  -- nothing changes
  looks : new ≡ old → Steps old new

-- each of the later views comes by a step from those before
abbrev pub AreSteps : List View → List (List View) → Type 0
AreSteps now [] = Unit {0}
AreSteps now (next ∷ later) = Steps now next × AreSteps next later

abbrev pub last_view : List View → List (List View) → List View
last_view now [] = now
last_view now (next ∷ later) = last_view next later

-- from the first opener on, the rule holds after any number of steps
abbrev pub RunsKeepRule : Type 0
RunsKeepRule = (later : List (List View)) → AreSteps (opener 0 (2 ^ 32) ∷ []) later →
    CoversOnceEach (last_view (opener 0 (2 ^ 32) ∷ []) later)

-- once a unit is opened, it is covered once after any number of steps
abbrev pub OpenedStaysCovered : Type 0
OpenedStaysCovered = (now : List View) (later : List (List View)) → CoversOnceEach now →
    AreSteps now later → (root unit : ℕ) → 0 < open_count root unit now →
    cover_count root unit (last_view now later) ≡ 1
