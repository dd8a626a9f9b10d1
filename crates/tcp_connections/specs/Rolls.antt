-- What a roll counts.
use Rattle.std.specs.Prelude.{◌≡◌, ℕ, Bool, true, false, ◌+◌, ◌-◌, ◌^◌, min, Option, Some, None}
use Rattle.std.specs.Prelude.{Result, Ok, Err}
use Rattle.tcp_connections.specs.declared.rolls.NotEntered.{NotEntered}
use Rattle.tcp_connections.specs.declared.rolls.NotEntered.TheVariants.{Full, Ended, Memory}
use Rattle.tcp_connections.specs.declared.rolls.Row.{Row}

-- a count of what came once more, which stays at the greatest number
abbrev pub one_more : ℕ → ℕ
one_more n = min (n + 1) (2 ^ 64 - 1)

-- how many were turned away, once one more came to this
abbrev pub refused_after : Result ℕ NotEntered → ℕ → ℕ
refused_after (Ok key) n = n
refused_after (Err Full) n = one_more n
refused_after (Err Ended) n = n
refused_after (Err Memory) n = n

-- and how many failed
abbrev pub failed_after : Result ℕ NotEntered → ℕ → ℕ
failed_after (Ok key) n = n
failed_after (Err Full) n = n
failed_after (Err Ended) n = n
failed_after (Err Memory) n = one_more n

-- how many were begun, once this row is begun, which counts only the first time
abbrev pub begun_once : Bool → ℕ → ℕ
begun_once false n = one_more n
begun_once true n = n

abbrev pub begun_after : Option Row → ℕ → ℕ
begun_after None n = n
begun_after (Some row) n = begun_once row.begun n

-- the row as it stands then
abbrev pub begun_row : Option Row → Option Row
begun_row None = None
begun_row (Some row) = Some (record row { begun = true })

-- a row stands there, and wasn't begun
abbrev pub IsUnbegun : Option Row → Type 0
IsUnbegun None = ⊥
IsUnbegun (Some row) = row.begun ≡ false
