use Rattle.deed_table.proofs.Runs.{opened_stays_covered}
use Rattle.deed_table.proofs.laws.opened_stays_covered.Goals as goal

pub returns : goal.returns
returns c = opened_stays_covered
