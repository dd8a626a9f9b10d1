use Rattle.deed_table.proofs.Runs.{runs_keep_rule}
use Rattle.deed_table.proofs.laws.runs_keep_rule.Goals as goal

pub returns : goal.returns
returns c = runs_keep_rule
