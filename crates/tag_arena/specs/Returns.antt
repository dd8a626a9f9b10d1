-- A range that comes back.
use Rattle.std.specs.Prelude.{◌≡◌, ◌≢◌, Bool, true, List, [], ◌∷◌, ◌++◌, Option, Some, None}
use Rattle.deed_core.specs.Holding.{Holding}
use Rattle.tag_arena.specs.Neighbors.{Merges}
use Rattle.tag_arena.specs.declared.returns.Became.{Became}
use Rattle.tag_arena.specs.declared.returns.Became.TheVariants.{Whole, Free}

-- the whole of a span that was lent, where the piece became that
abbrev pub whole_of : {D : Type 0} → Became D → Option Holding
whole_of (Whole deed) = Some deed
whole_of (Free slot) = None

-- the merged range is newest, or, where it is the whole of a span that was lent, goes
abbrev pub Leaves : Bool → (span merged : Holding) → (mid new : List Holding) → Option Holding
    → Type 0
Leaves lent span merged mid new None = (lent ≡ true → merged ≢ span) × (new ≡ mid ++ merged ∷ [])
Leaves lent span merged mid new (Some back) = (lent ≡ true) × (merged ≡ span) × (back ≡ merged)
    × (new ≡ mid)

-- the piece came back, and was merged with its free neighbors inside the span
pub record ComesBack (lent : Bool) (span piece : Holding) (old new : List Holding)
    (back : Option Holding) : Type 0 where
  pub merged : Holding
  pub mid : List Holding
  pub merges : Merges span piece old merged mid
  pub leaves : Leaves lent span merged mid new back
