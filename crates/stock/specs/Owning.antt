-- A stock that is being made of a setup and the deeds of its spans.
use Rattle.std.specs.Prelude.{◌≡◌, ℕ, ◌+◌, List, sum_by}
use Rattle.deed_core.specs.Holding.{Holding}
use Rattle.stock.specs.Spaces.{SpaceState}

-- what the arena owns weighs
abbrev pub weight_owned : (Holding → ℕ) → SpaceState → ℕ
weight_owned f s = sum_by f s.arena.owned

-- of the deeds some are owned spans, and the others are left
abbrev pub AreOwnedOrLeft : List Holding → List SpaceState → List Holding → Type 0
AreOwnedOrLeft deeds spaces left =
    (f : Holding → ℕ) → sum_by f deeds ≡ sum_by (weight_owned f) spaces + sum_by f left
