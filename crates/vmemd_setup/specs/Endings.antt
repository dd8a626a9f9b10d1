-- How the program ends: the fault of a script or a server, and the exit status.
use Rattle.std.specs.Prelude.{ℕ, Result, Ok, Err}
use Rattle.lease_server.specs.declared.faults.ServeFault.{ServeFault}
use Rattle.lease_server.specs.declared.faults.ServeFault.TheVariants as serving
use Rattle.vmemd_setup.specs.declared.faults.RunFault.{RunFault}
use Rattle.vmemd_setup.specs.declared.faults.ScriptFault.{ScriptFault}
use Rattle.vmemd_setup.specs.declared.faults.ScriptFault.TheVariants.{Setup, Read, Write, Memory}

-- the exit status of a fault
abbrev pub exit_of : ScriptFault → ℕ
exit_of (Setup line word) = 2
exit_of Read = 1
exit_of Write = 1
exit_of Memory = 1

-- the exit status of a program whose script ends so
abbrev pub status_of : Result (Unit {0}) ScriptFault → ℕ
status_of (Ok _) = 0
status_of (Err fault) = exit_of fault

-- the exit status of a server that ends so
abbrev pub run_status : Result (Unit {0}) RunFault → ℕ
run_status (Ok _) = 0
run_status (Err fault) = 1

-- the script's fault where serving its lines ended early
abbrev pub serving_fault : ServeFault → ScriptFault
serving_fault serving.Read = Read
serving_fault serving.Turns = Read
serving_fault serving.Write = Write
serving_fault serving.Memory = Memory
