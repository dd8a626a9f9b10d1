use Rattle.lease_history.proofs.EntryLemmas.{hellos_keep_known, sweeps_keep_known, settlements_keep_known}
use Rattle.lease_history.proofs.laws.entry_laws.Goals as goal

pub returns-clause-hello : goal.returns-clause-hello
returns-clause-hello c = hellos_keep_known

pub returns-clause-swept : goal.returns-clause-swept
returns-clause-swept c = sweeps_keep_known

pub returns-clause-settled : goal.returns-clause-settled
returns-clause-settled c = settlements_keep_known
