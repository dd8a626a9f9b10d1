-- A choice among the free ranges.
use Rattle.std.specs.Prelude.{ℕ, ◌<◌, ◌≤◌, List, All, Contains, Option, Some, None}
use Rattle.deed_core.specs.Extent.{Covers}
use Rattle.deed_core.specs.Holding.{Holding}
use Rattle.deed_core.specs.declared.requests.Request.{Request}
use Rattle.deed_core.specs.Request.{IsPlain, rounding_of}
use Rattle.tag_arena.specs.Choice.{IsInstant}
use Rattle.tag_arena.specs.Place.{IsLeast, Serves, ServesIn}
use Rattle.tag_arena.specs.declared.searches.Fit.{Fit}

-- the address alone
abbrev pub base_of : Option Fit → Option ℕ
base_of None = None
base_of (Some f) = Some f.base

-- it is in one of the free ranges, which serves the request there
pub record IsFit (quantum : ℕ) (q : Request) (free : List Holding) (f : Fit) : Type 0 where
  pub among : Contains free f.range
  pub serves : ServesIn quantum q f.range f.base

-- the one with the unit in it, where there is one
abbrev pub IsWith : ℕ → List Holding → Option Holding → Type 0
IsWith unit free None = All (λ r. ¬ Covers r.range unit) free
IsWith unit free (Some h) = Contains free h × Covers h.range unit

-- it asks for no place, and a power-of-two list serves it
abbrev pub ServedByList : ℕ → Request → List Holding → Type 0
ServedByList quantum q free =
    IsPlain q × ((range : Holding) × IsInstant quantum (rounding_of quantum q.size) free range)

-- the least address from `start` on that serves, or none where no such address does
abbrev pub IsEarliest : ℕ → Request → List Holding → ℕ → Option ℕ → Type 0
IsEarliest quantum q free start choice = IsLeast (λ b. Serves quantum q free b × (start ≤ b)) choice

-- no range that begins below `from` serves at `start` or past it
abbrev pub NoneBelow : ℕ → Request → List Holding → (start from : ℕ) → Type 0
NoneBelow quantum q free start from = (r : Holding) (b : ℕ) → Contains free r
    → r.range.base < from → ServesIn quantum q r b → start ≤ b → ⊥
