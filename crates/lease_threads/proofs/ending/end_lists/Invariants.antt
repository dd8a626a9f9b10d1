use Rattle.std.proofs.Common.{vec_len}
use Rattle.lease_threads.specs.Ends.{AreClosed}
use Rattle.lease_threads.proofs.ending.end_lists.Given as goal

abbrev pub invariant-loop-list : goal.invariant-loop-list
invariant-loop-list g l = AreClosed l.lists.items

abbrev pub decreases-loop-list : goal.decreases-loop-list
decreases-loop-list g l = vec_len l.lists
