use Rattle.deed_table.proofs.Follows.{left_unopened}
use Rattle.deed_table.proofs.laws.left_has_no_range.Goals as goal

pub returns : goal.returns
returns c = left_unopened
