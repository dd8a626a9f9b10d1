use Rattle.std.proofs.Common.{◌≡◌, None}
use Rattle.lease_threads.proofs.systems.System.end_leases.Given as goal

abbrev pub invariant-loop : goal.invariant-loop
invariant-loop g l =
    (goal.iterator-loop g).can_next l.iterator' × (goal.iterator-loop g).is_finite l.iterator'
    × (l.cpu.hand ≡ None)
