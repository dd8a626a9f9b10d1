-- Ranges of roots, as a view has them, and how many of them cover a unit.
use Rattle.std.specs.Prelude.{ℕ, ◌≤◌, ◌==◌, if◌then◌else◌, List, [], ◌∷◌, ◌++◌, sum_by}
use Rattle.deed_core.specs.Extent.{Extent, IsInside, part_below, part_from, union}
use Rattle.deed_core.specs.Holding.{Holding, GoesOn}
use Rattle.deed_core.specs.Covering.{covers}
use Rattle.deed_table.specs.declared.views.Piece.{Piece}

-- a range of the root with this number
abbrev pub piece_at : ℕ → Extent → Piece
piece_at root e = record { root = root; base = e.base; len = e.len }

-- what a deed with this holding covers
abbrev pub piece_of : Holding → Piece
piece_of h = piece_at h.root h.range

abbrev pub extent_of : Piece → Extent
extent_of p = record { base = p.base; len = p.len }

abbrev pub holding_of : Piece → Holding
holding_of p = record { root = p.root; range = extent_of p }

-- 1 where the piece covers this unit of this root, else 0
abbrev pub covers_of : ℕ → ℕ → Piece → ℕ
covers_of root unit p = if root == p.root then covers unit (extent_of p) else 0

-- how many of the pieces cover the unit of the root
abbrev pub covering_of : ℕ → ℕ → List Piece → ℕ
covering_of root unit pieces = sum_by (covers_of root unit) pieces

-- 1 where the piece is of the root, else 0
abbrev pub one_if_of : ℕ → Piece → ℕ
one_if_of root p = if root == p.root then 1 else 0

-- how many of the pieces are of the root
abbrev pub count_of : ℕ → List Piece → ℕ
count_of root pieces = sum_by (one_if_of root) pieces

-- no unit of any root is covered twice
abbrev pub CoverOnce : List Piece → Type 0
CoverOnce pieces = (root unit : ℕ) → covering_of root unit pieces ≤ 1

-- the number cuts the first piece into two, neither of them empty
abbrev pub CutsFirst : ℕ → List Piece → Type 0
CutsFirst at [] = Unit {0}
CutsFirst at (p ∷ ps) = IsInside at (extent_of p)

-- the first piece below the number
abbrev pub low_pieces : ℕ → List Piece → List Piece
low_pieces at [] = []
low_pieces at (p ∷ ps) = piece_at p.root (part_below at (extent_of p)) ∷ []

-- the first piece from the number on, and the other pieces
abbrev pub high_pieces : ℕ → List Piece → List Piece
high_pieces at [] = []
high_pieces at (p ∷ ps) = piece_at p.root (part_from at (extent_of p)) ∷ ps

-- the first pieces are of one root, and the second of them goes on where the first ends
abbrev pub Touch : List Piece → List Piece → Type 0
Touch [] qs = Unit {0}
Touch (p ∷ ps) [] = Unit {0}
Touch (p ∷ ps) (q ∷ qs) = GoesOn (holding_of p) (holding_of q)

-- the first pieces made one, and the other pieces
abbrev pub merged_pieces : List Piece → List Piece → List Piece
merged_pieces [] qs = qs
merged_pieces (p ∷ ps) [] = p ∷ ps
merged_pieces (p ∷ ps) (q ∷ qs) = piece_at p.root (union (extent_of p) (extent_of q)) ∷ (ps ++ qs)

abbrev pub first_piece : List Piece → List Piece
first_piece [] = []
first_piece (p ∷ ps) = p ∷ []

abbrev pub other_pieces : List Piece → List Piece
other_pieces [] = []
other_pieces (p ∷ ps) = ps
