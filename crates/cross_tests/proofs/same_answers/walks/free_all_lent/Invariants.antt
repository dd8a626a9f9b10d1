use Rattle.std.proofs.Common.{vec_len}
use Rattle.cross_tests.proofs.same_answers.walks.free_all_lent.Given as goal

abbrev pub decreases-loop-twins : goal.decreases-loop-twins
decreases-loop-twins g l = vec_len l.held
