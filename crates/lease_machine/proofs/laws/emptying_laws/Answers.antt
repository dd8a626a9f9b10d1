use Rattle.lease_machine.proofs.Emptied.{reap_leaves_none, offline_has_no_round, tick_and_reap_empty}
use Rattle.lease_machine.proofs.laws.emptying_laws.Goals as goal

pub returns-clause-reaped : goal.returns-clause-reaped
returns-clause-reaped c = reap_leaves_none

pub returns-clause-offline : goal.returns-clause-offline
returns-clause-offline c = offline_has_no_round

pub returns-clause-emptied : goal.returns-clause-emptied
returns-clause-emptied c = tick_and_reap_empty
