-- The CPUs that lines name.
use Rattle.std.specs.Prelude.{ℕ, ◌≤◌, List, Result}
use Rattle.lease_proto.specs.declared.faults.LineFault.{LineFault}
use Rattle.lease_proto.specs.declared.limits.TheConstants.{LAST_CPU}
use Rattle.lease_proto.specs.Words.{number_in}
use Rattle.lease_proto.specs.Values.{number_within}

-- they are numbered from 0 on
abbrev pub IsCpu : ℕ → Type 0
IsCpu n = n ≤ LAST_CPU

-- a CPU
abbrev pub cpu_in : List ℕ → Result ℕ LineFault
cpu_in word = number_within 0 LAST_CPU (number_in word)
