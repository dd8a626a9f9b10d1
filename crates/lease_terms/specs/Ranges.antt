-- The ranges of the values that stand in requests and replies.
use Rattle.std.specs.Prelude.{ℕ, ◌≤◌}
use Rattle.lease_terms.specs.declared.values.TheConstants.{LARGEST, LAST_CLIENT}

-- clients are numbered from 1 on
abbrev pub IsClient : ℕ → Type 0
IsClient n = (1 ≤ n) × (n ≤ LAST_CLIENT)

-- so are the incarnations of a client, and the requests of an incarnation
abbrev pub IsOrdinal : ℕ → Type 0
IsOrdinal n = (1 ≤ n) × (n ≤ LARGEST)

-- units, numbers of units and bounds on them go from 0 on
abbrev pub IsQuantity : ℕ → Type 0
IsQuantity n = n ≤ LARGEST
