-- Deeds that may be missing, since what they would cover has no units.
use Rattle.std.specs.Prelude.{
  ℕ,
  ◌+◌,
  ◌-◌,
  ◌==◌,
  min,
  List,
  [],
  ◌∷◌,
  Option,
  Some,
  None,
  if◌then◌else◌,
}
use Rattle.deed_core.specs.Holding.{Holding, piece, GoesOn, join_of}

-- the `len` units from `base` on, where there is one
abbrev pub piece_or_none : ℕ → ℕ → ℕ → Option Holding
piece_or_none root base len = if len == 0 then None else Some (piece root base len)

-- the first `len` units of a part
abbrev pub front_of : ℕ → Option Holding → Option Holding
front_of len None = None
front_of len (Some h) = piece_or_none h.root h.range.base (min len h.range.len)

-- the units behind those
abbrev pub back_of : ℕ → Option Holding → Option Holding
back_of len None = None
back_of len (Some h) = piece_or_none h.root (h.range.base + len) (h.range.len - len)

-- the second goes on where the first ends
abbrev pub Follows : Option Holding → Option Holding → Type 0
Follows (Some a) (Some b) = GoesOn a b
Follows (Some a) None = Unit {0}
Follows None b = Unit {0}

-- what the two cover together
abbrev pub joined_parts : Option Holding → Option Holding → Option Holding
joined_parts (Some a) (Some b) = Some (join_of a b)
joined_parts (Some a) None = Some a
joined_parts None b = b

-- what a row of parts and what is behind it cover together
abbrev pub joined_row : List (Option Holding) → Option Holding → Option Holding
joined_row [] rest = rest
joined_row (x ∷ xs) rest = joined_parts x (joined_row xs rest)

-- each part of the row goes on where the one before it ends, and so does the rest
abbrev pub AreEndToEnd : List (Option Holding) → Option Holding → Type 0
AreEndToEnd [] rest = Unit {0}
AreEndToEnd (x ∷ xs) rest = Follows x (joined_row xs rest) × AreEndToEnd xs rest
