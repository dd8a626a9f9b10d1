-- Rounds that are alike, as those of one quantum cache.
use Rattle.std.specs.Prelude.{◌≡◌, ℕ, List, All}
use Rattle.deed_core.specs.Tag.{Tag}
use Rattle.deed_core.specs.Covering.{units_in}

-- each of them has as many units
pub record AreAlike (rounds : List Tag) : Type 0 where
  pub each : ℕ
  pub alike : All (λ t. units_in t.holding ≡ each) rounds
