use Rattle.std.proofs.Common.{vec_len}
use Rattle.cross_tests.proofs.arenas.give_all.Given as goal

abbrev pub decreases-loop-segment : goal.decreases-loop-segment
decreases-loop-segment g l = vec_len l.held
