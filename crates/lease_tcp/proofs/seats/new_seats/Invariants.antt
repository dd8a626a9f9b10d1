use Rattle.std.proofs.Common.{◌≡◌, ◌+◌, length}
use Rattle.lease_tcp.proofs.seats.new_seats.Given as goal

-- a seat more each time
abbrev pub invariant-loop-number : goal.invariant-loop-number
invariant-loop-number g l = length l.seats.items ≡ length l.fn.seats.items + l.number
