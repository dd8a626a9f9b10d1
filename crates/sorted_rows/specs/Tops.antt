-- What is known of rows without a look at their entries.
use Rattle.std.specs.Prelude.{◌≡◌, ◌≢◌, ◌<◌, ℕ, List, [], get_or, length}
use Rattle.sorted_rows.specs.declared.tops.TheConstants.{UNTOLD}
use Rattle.sorted_rows.specs.Weights.{greatest_weight}

-- a row's top is its greatest weight, if anything is told of it
abbrev pub IsTop : {X : Type 0} → (weight : X → ℕ) → ℕ → List X → Type 0
IsTop weight top r = top ≢ UNTOLD → top ≡ greatest_weight weight r

-- each row is described by what stands at its place
pub record Describes {H X : Type 0} (describes : H → List X → Type 0) (heads : List H)
    (rows : List (List X)) : Type 0 where
  pub same : length heads ≡ length rows
  pub each : (k : ℕ) (h : H) → k < length rows → describes (get_or heads k h) (get_or rows k [])

-- what a caller sees: the rows, and how many may stand there
pub record HeadedState (X : Type 0) : Type 0 where
  pub items : List (List X)
  pub capacity : ℕ
