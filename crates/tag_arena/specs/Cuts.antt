-- A free range that is cut.
use Rattle.std.specs.Prelude.{◌≡◌, ℕ, ◌-◌, List, ◌++◌, filter, not, Option}
use Rattle.std.specs.Prelude.{option_to_list}
use Rattle.deed_core.specs.Extent.{end_of}
use Rattle.deed_core.specs.Holding.{Holding}
use Rattle.tag_arena.specs.Calls.{part, rest_between, rests, surrounds}

-- the units from `base` to `end` of the whole, and what is left of it below and above them
pub record IsCut (whole : Holding) (base end : ℕ) (low : Option Holding) (piece : Holding)
    (high : Option Holding) : Type 0 where
  pub piece_is : piece ≡ part whole base (end - base)
  pub low_is : option_to_list low ≡ rest_between whole whole.range.base base
  pub high_is : option_to_list high ≡ rest_between whole end (end_of whole.range)

-- the free range round the piece goes, and its rests become newest, the low one first
abbrev pub CarvesOut : (range piece : Holding) → (old new : List Holding) → Type 0
CarvesOut range piece old new =
    new ≡ filter (λ r. not (surrounds r piece)) old ++ rests range piece
