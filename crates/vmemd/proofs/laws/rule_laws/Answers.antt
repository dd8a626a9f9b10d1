use Rattle.vmemd.proofs.RuleLemmas.{ends_are_scripts, fails_are_scripts, script_keeps_rules, script_clients_replies, script_grants_apart, script_new_grants_apart}
use Rattle.vmemd.proofs.laws.rule_laws.Goals as goal

pub returns-clause-ends : goal.returns-clause-ends
returns-clause-ends c = ends_are_scripts

pub returns-clause-fails : goal.returns-clause-fails
returns-clause-fails c = fails_are_scripts

pub returns-clause-keeps : goal.returns-clause-keeps
returns-clause-keeps c = script_keeps_rules

pub returns-clause-apart : goal.returns-clause-apart
returns-clause-apart c = script_grants_apart

pub returns-clause-replies : goal.returns-clause-replies
returns-clause-replies c = script_clients_replies

pub returns-clause-anew : goal.returns-clause-anew
returns-clause-anew c = script_new_grants_apart
