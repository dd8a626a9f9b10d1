use Rattle.lease_machine.proofs.Fitting.{grants_fit, kept_grants_fit}
use Rattle.lease_machine.proofs.CachedReach.{grants_were_reachable}
use Rattle.lease_machine.proofs.Agreeing.{repeats_fit}
use Rattle.lease_machine.proofs.laws.grant_laws.Goals as goal

pub returns-clause-fits : goal.returns-clause-fits
returns-clause-fits c = grants_fit

pub returns-clause-kept_grants : goal.returns-clause-kept_grants
returns-clause-kept_grants c = kept_grants_fit

pub returns-clause-reachable : goal.returns-clause-reachable
returns-clause-reachable c = grants_were_reachable

pub returns-clause-repeats : goal.returns-clause-repeats
returns-clause-repeats c = repeats_fit
