use Rattle.std.proofs.Common.{◌≡◌, None}
use Rattle.lease_threads.proofs.systems.System.reap_all.Given as goal

abbrev pub invariant-loop-arena : goal.invariant-loop-arena
invariant-loop-arena g l = l.cpu.hand ≡ None
