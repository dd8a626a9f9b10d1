-- How a system is tidied.
use Rattle.std.specs.Prelude.{◌≡◌, ℕ, zero, suc}

-- the arenas below this number were reaped, each once, the last of them first
abbrev pub ReapsBelow : {U : Type 0} → (U → ℕ → U → Type 0) → ℕ → U → U → Type 0
ReapsBelow may_reap zero old new = new ≡ old
ReapsBelow {U} may_reap (suc arena) old new = (mid : U) × may_reap old arena mid
    × ReapsBelow may_reap arena mid new

-- it was drained once, then each arena reaped once, then it ticked once
abbrev pub Tidies : {U : Type 0} → (U → ℕ) → (U → U → Type 0) → (U → ℕ → U → Type 0)
    → (U → U → Type 0) → U → U → Type 0
Tidies {U} arenas may_drain may_reap may_tick old new = (drained : U) × (reaped : U)
    × may_drain old drained × ReapsBelow may_reap (arenas drained) drained reaped
    × may_tick reaped new
