use Rattle.std.proofs.Common.{vec_len}
use Rattle.lease_threads.proofs.openings.end_all.Given as goal

abbrev pub decreases-loop-arena : goal.decreases-loop-arena
decreases-loop-arena g l = vec_len l.made
