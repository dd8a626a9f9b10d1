use Rattle.lease_machine.proofs.FreshCpus.{fresh_is_picture, selected_is_picture, fresh_cpu_fits}
use Rattle.lease_machine.proofs.laws.picture_laws.Goals as goal

pub returns-clause-fresh : goal.returns-clause-fresh
returns-clause-fresh c = fresh_is_picture

pub returns-clause-selected : goal.returns-clause-selected
returns-clause-selected c = selected_is_picture

pub returns-clause-cpu : goal.returns-clause-cpu
returns-clause-cpu c = fresh_cpu_fits
