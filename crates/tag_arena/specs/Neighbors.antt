-- Taking a free neighbor of a range out of the list of free ranges.
use Rattle.std.specs.Prelude.{◌≡◌, ◌≢◌, ℕ, ◌<◌, ◌⊎◌, List, All, HoldsAt, Option, Some, None, length}
use Rattle.std.specs.Prelude.{remove}
use Rattle.deed_core.specs.Extent.{Extent, end_of}
use Rattle.std.specs.Option.{option_map_or}
use Rattle.deed_core.specs.Holding.{Holding, Apart}
use Rattle.tag_arena.specs.Layout.{IsPartOf}
use Rattle.tag_arena.specs.declared.cells.Beside.{Beside}
use Rattle.tag_arena.specs.declared.cells.Side.TheVariants.{Allocated}

-- new is old without the range r
abbrev pub Without : List Holding → Holding → List Holding → Type 0
Without old r new = (k : ℕ) × (k < length old) × HoldsAt (λ x. x ≡ r) old k × (new ≡ remove old k)

-- the free range that ends at base is taken, unless the span begins there
abbrev pub TakesLeft : ℕ → ℕ → List Holding → Option Holding → List Holding → Type 0
TakesLeft start base old None new = (new ≡ old)
    × ((base ≡ start) ⊎ All (λ r. end_of r.range ≢ base) old)
TakesLeft start base old (Some r) new = (start < base) × (end_of r.range ≡ base) × Without old r new

-- the free range that begins at end is taken, unless the span ends there
abbrev pub TakesRight : ℕ → ℕ → List Holding → Option Holding → List Holding → Type 0
TakesRight end limit old None new = (new ≡ old)
    × ((end ≡ limit) ⊎ All (λ r. r.range.base ≢ end) old)
TakesRight end limit old (Some r) new = (end < limit) × (r.range.base ≡ end) × Without old r new

-- the range has units, and lies inside the span or apart from it
abbrev pub IsBeside : Holding → Holding → Type 0
IsBeside span r = (0 < r.range.len) × (IsPartOf span r ⊎ Apart r span)

-- the free neighbors of the piece inside the span are taken out of the list, and the merged
-- range is the piece and these
pub record Merges (span piece : Holding) (old : List Holding) (merged : Holding)
    (new : List Holding) : Type 0 where
  pub left : Option Holding
  pub right : Option Holding
  pub mid : List Holding
  pub takes_left : TakesLeft span.range.base piece.range.base old left mid
  pub takes_right : TakesRight (end_of piece.range) (end_of span.range) mid right new
  pub root : merged.root ≡ piece.root
  pub base : merged.range.base ≡ option_map_or (λ r. r.range.base) left piece.range.base
  pub end : end_of merged.range ≡ option_map_or (λ r. end_of r.range) right (end_of piece.range)

-- what is known to be allocated beside the range is so: no free range ends or begins there
pub record IsKnownBeside (b : Beside) (e : Extent) (free : List Holding) : Type 0 where
  pub left : b.left ≡ Allocated → All (λ r. end_of r.range ≢ e.base) free
  pub right : b.right ≡ Allocated → All (λ r. r.range.base ≢ end_of e) free
