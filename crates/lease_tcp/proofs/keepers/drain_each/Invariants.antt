use Rattle.std.proofs.Common.{◌≡◌}
use Rattle.lease_tcp.proofs.keepers.drain_each.Given as goal

-- a seat more each time
abbrev pub invariant-loop-seat : goal.invariant-loop-seat
invariant-loop-seat g l = l.drained ≡ l.seat-index
