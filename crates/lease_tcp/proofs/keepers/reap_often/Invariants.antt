use Rattle.std.proofs.Common.{◌≡◌}
use Rattle.lease_tcp.proofs.keepers.reap_often.Given as goal

abbrev pub invariant-loop : goal.invariant-loop
invariant-loop g l = l.reaped.arena ≡ l.fn.arena
