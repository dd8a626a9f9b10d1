use Rattle.lease_machine.proofs.Ruling.{steps_keep_rules, runs_keep_rules}
use Rattle.lease_machine.proofs.laws.rule_laws.Goals as goal

pub returns-clause-steps : goal.returns-clause-steps
returns-clause-steps c = steps_keep_rules

pub returns-clause-runs : goal.returns-clause-runs
returns-clause-runs c = runs_keep_rules
