use Rattle.std.proofs.Common.{vec_len}
use Rattle.running_tests.proofs.one_lock.close_all.Given as goal

abbrev pub decreases-loop-roots : goal.decreases-loop-roots
decreases-loop-roots g l = vec_len l.roots
