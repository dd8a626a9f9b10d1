-- The allocated ranges of an arena, in their cells.
use Rattle.std.specs.Prelude.{◌≡◌, ◌≢◌, ◌<◌, ℕ, length, List, [], ◌∷◌}
use Rattle.std.specs.Prelude.{Option, Some, None, slice_index_or, ◌==◌, if◌then◌else◌}
use Rattle.std.specs.Ordering.{nat_cmp}
use Rattle.std.specs.FinMap.{FinMap, empty, insert}
use Rattle.deed_core.specs.Holding.{Holding}
use Rattle.tag_arena.specs.declared.cells.Standing.{Standing}
use Rattle.tag_arena.specs.declared.cells.Standing.TheVariants.{Free, Allocated}

-- the allocated range that stands there, if one does
abbrev pub allocated_of : Standing → Option Holding
allocated_of (Free slot) = None
allocated_of (Allocated range) = Some range

-- the range of so many units of a root from a base on, or none where there is no unit
abbrev pub held_in : ℕ → ℕ → ℕ → Option Holding
held_in root base len = if len == 0 then None
    else Some (record { root = root; range = record { base = base; len = len } })

-- what is allocated in a cell
abbrev pub allocated_at : List (Option Holding) → ℕ → Option Holding
allocated_at cells k = slice_index_or cells k None

-- what is allocated in a cell begins at a base
abbrev pub IsAt : ℕ → ℕ → List (Option Holding) → Type 0
IsAt base k cells = (h : Holding) × (allocated_at cells k ≡ Some h) × (h.range.base ≡ base)

-- there is such a cell, with nothing allocated in it
abbrev pub IsVacant : ℕ → List (Option Holding) → Type 0
IsVacant k cells = (k < length cells) × (allocated_at cells k ≡ None)

-- no two allocated ranges begin at one base
abbrev pub AreOnce : List (Option Holding) → Type 0
AreOnce cells = (j k : ℕ) (g h : Holding) → allocated_at cells j ≡ Some g
    → allocated_at cells k ≡ Some h → g.range.base ≡ h.range.base → j ≡ k

-- the same is allocated in each
abbrev pub SameCells : List (Option Holding) → List (Option Holding) → Type 0
SameCells old new = (k : ℕ) → allocated_at new k ≡ allocated_at old k

-- one cell has changed
pub record CellBecomes (old new : List (Option Holding)) (k : ℕ)
    (what : Option Holding) : Type 0 where
  pub changed : allocated_at new k ≡ what
  pub others : (j : ℕ) → j ≢ k → allocated_at new j ≡ allocated_at old j

-- the allocated ranges, each at its base
unfoldable pub tags_in : List (Option Holding) → FinMap nat_cmp Holding
tags_in [] = empty
tags_in (None ∷ rest) = tags_in rest
tags_in (Some h ∷ rest) = insert (tags_in rest) h.range.base h
