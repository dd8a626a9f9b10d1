-- What a seat knows, and what is left of it when a seat is cut in two or two seats are made one.
use Rattle.std.specs.Prelude.{◌≡◌, ℕ, ◌+◌, ◌-◌, List, [], ◌∷◌, ◌++◌}
use Rattle.deed_core.specs.Extent.{Extent}
use Rattle.deed_table.specs.declared.views.Piece.{Piece}
use Rattle.deed_table.specs.declared.views.View.{View}
use Rattle.deed_table.specs.Piece.{piece_at, low_pieces, high_pieces, merged_pieces, first_piece}
use Rattle.deed_table.specs.Piece.{other_pieces, Touch}

-- the root numbers that are left
abbrev pub numbers_of : View → Extent
numbers_of v = record { base = v.first; len = v.left }

-- no range, no root, and these numbers left
abbrev pub opener : ℕ → ℕ → View
opener first left = record { ranges = []; roots = []; first = first; left = left }

-- nothing at all: a seat that was joined into another
abbrev pub spent_view : View
spent_view = opener 0 0

-- these ranges and opened roots, and no number left
abbrev pub holder : List Piece → List Piece → View
holder ranges roots = record { ranges = ranges; roots = roots; first = 0; left = 0 }

-- the part of a deed's view below the number, and the part from the number on
abbrev pub low_part : ℕ → View → View
low_part at v = record v { ranges = low_pieces at v.ranges }

abbrev pub high_part : ℕ → View → View
high_part at v = holder (high_pieces at v.ranges) []

-- what two views cover, with ranges that touch made one
abbrev pub merged_view : View → View → View
merged_view v w = holder (merged_pieces v.ranges w.ranges) (v.roots ++ w.roots)

-- what two views cover, beside each other
abbrev pub view_of_both : View → View → View
view_of_both v w = holder (v.ranges ++ w.ranges) (v.roots ++ w.roots)

-- the first range, with the roots, and the other ranges
abbrev pub first_part : View → View
first_part v = record v { ranges = first_piece v.ranges }

abbrev pub other_part : View → View
other_part v = holder (other_pieces v.ranges) []

-- the first n numbers that are left, and the others
abbrev pub numbers_below : ℕ → View → View
numbers_below n v = opener v.first n

abbrev pub numbers_after : ℕ → View → View
numbers_after n v = record v { first = v.first + n; left = v.left - n }

-- the first number that is left is a root of this range, which the view covers
abbrev pub opened_view : Extent → View → View
opened_view range v = holder (piece_at v.first range ∷ []) (piece_at v.first range ∷ [])

-- neither has a number left
abbrev pub NoneLeft : View → View → Type 0
NoneLeft v w = (v.left ≡ 0) × (w.left ≡ 0)

-- two views with no number left, whose first ranges can become one
abbrev pub AreJoinable : View → View → Type 0
AreJoinable v w = Touch v.ranges w.ranges × (v.left ≡ 0) × (w.left ≡ 0)
