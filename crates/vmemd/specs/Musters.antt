-- Workers that gather.
use Rattle.std.specs.Prelude.{◌≤◌, ℕ}

-- so many workers at least were found to have their CPUs
abbrev pub AreReady : {M : Type 0} → (M → ℕ → Type 0) → M → ℕ → Type 0
AreReady may_count muster workers = (ready : ℕ) × may_count muster ready × (workers ≤ ready)
