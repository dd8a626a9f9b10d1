-- What a token of the table keeps of its seat.
use mathlib.Core.Option.{some}
use lib.ListN.{get_elem?}
use Rattle.std.specs.Prelude.{◌≡◌, ◌≢◌, ℕ, ◌<◌, List, [], ◌∷◌}
use Rattle.atomic_table.specs.Seated.{TableId}
use Rattle.deed_core.specs.Extent.{IsRange, Overlap}
use Rattle.deed_core.specs.Holding.{Holding}
use Rattle.deed_table.specs.declared.views.View.{View}
use Rattle.deed_table.specs.Piece.{piece_of}
use Rattle.deed_table.specs.Rule.{Sitter, CoversOnceEach}

-- the root numbers that are left to an opener
pub record OpenerState : Type 0 where
  pub first : ℕ
  pub left : ℕ

-- a seat and its table have this name, and the table has a word to step on
pub record AreAt (name seat table : TableId) : Type 0 where
  pub seated : seat ≡ name
  pub tabled : table ≡ name
  pub has_word : 0 < name.words

-- the seat covers just what the deed with this holding covers
pub record SeatsDeed (held : Holding) (me : Sitter) : Type 0 where
  pub one : me.0.ranges ≡ piece_of held ∷ []
  pub none_left : me.0.left ≡ 0
  pub no_slot : me.1 ≡ []

-- the seat covers just what two deeds cover, which do not overlap
pub record SeatsTwo (first second : Holding) (me : Sitter) : Type 0 where
  pub two : me.0.ranges ≡ piece_of first ∷ piece_of second ∷ []
  pub none_left : me.0.left ≡ 0
  pub no_slot : me.1 ≡ []
  pub apart : ¬ Overlap first.range second.range

-- two deeds of one root, at any two seats of the table, do not overlap
abbrev pub NoTwoOverlap : Type 0
NoTwoOverlap = (views : List View) → CoversOnceEach views → (i j : ℕ) (first second : Sitter)
    → get_elem? views i ≡ some first.0 → get_elem? views j ≡ some second.0 → j ≢ i
    → (a b : Holding) → IsRange a.range → IsRange b.range → SeatsDeed a first
    → SeatsDeed b second → a.root ≡ b.root → ¬ Overlap a.range b.range
