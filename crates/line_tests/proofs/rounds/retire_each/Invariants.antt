use Rattle.std.proofs.Common.{vec_len}
use Rattle.line_tests.proofs.rounds.retire_each.Given as goal

-- a seat less each time
abbrev pub decreases-loop-seat : goal.decreases-loop-seat
decreases-loop-seat g l = vec_len l.seats
