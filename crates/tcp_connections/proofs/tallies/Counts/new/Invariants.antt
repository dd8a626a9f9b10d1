use Rattle.std.proofs.Common.{◌≡◌, vec_len}
use Rattle.tcp_connections.proofs.tallies.Counts.new.Given as goal

abbrev pub invariant-loop : goal.invariant-loop
invariant-loop l = vec_len l.tallies ≡ l.counter
