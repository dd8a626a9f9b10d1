use Rattle.lease_machine.proofs.CachedUnits.{cached_units_fit}
use Rattle.lease_machine.proofs.ReapLaws.{reap_reaps, reaps_none, reapings_add}
use Rattle.lease_machine.proofs.laws.reap_laws.Goals as goal

pub returns-clause-reap : goal.returns-clause-reap
returns-clause-reap c = reap_reaps

pub returns-clause-none : goal.returns-clause-none
returns-clause-none c = reaps_none

pub returns-clause-add : goal.returns-clause-add
returns-clause-add c = reapings_add

pub returns-clause-fit : goal.returns-clause-fit
returns-clause-fit c = cached_units_fit
