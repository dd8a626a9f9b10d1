-- What a script writes that begins with no arena, and is answered by a lease desk.
use Rattle.std.specs.Prelude.{ℕ, List, Option}
use Rattle.lease_machine.specs.Machine.{LeaseStep}
use Rattle.stock_desk.specs.Openings.{IsOpenedFrom}
use Rattle.vmemd.specs.Scripts.{RunsWhole, RunFails}
use Rattle.vmemd_setup.specs.Settings.{TakesSetupLine, RefusesSetupLine, CanTakeSetupLine}
use Rattle.vmemd_setup.specs.Settings.{no_arenas}
use Rattle.vmemd_setup.specs.declared.faults.ScriptFault.{ScriptFault}

-- A script is answered to its end.
abbrev pub ScriptEnds : List ℕ → Option (List ℕ) → Option (List ℕ) → Type 0
ScriptEnds input before after =
    RunsWhole TakesSetupLine IsOpenedFrom LeaseStep no_arenas input before after

-- A script ends early.
abbrev pub ScriptFails : Option (List ℕ) → Option (List ℕ) → Option (List ℕ) → Option (List ℕ)
    → ScriptFault → Type 0
ScriptFails unread left before after fault =
    RunFails TakesSetupLine RefusesSetupLine CanTakeSetupLine IsOpenedFrom LeaseStep no_arenas
    unread left before after fault
