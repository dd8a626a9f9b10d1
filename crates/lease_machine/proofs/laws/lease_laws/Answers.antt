use Rattle.lease_machine.proofs.Leases.{leases_move}
use Rattle.lease_machine.proofs.GrantedApart.{grants_stay_apart}
use Rattle.lease_machine.proofs.Unsettled.{new_grants_stay_apart}
use Rattle.lease_machine.proofs.laws.lease_laws.Goals as goal

pub returns-clause-moves : goal.returns-clause-moves
returns-clause-moves c = leases_move

pub returns-clause-apart : goal.returns-clause-apart
returns-clause-apart c = grants_stay_apart

pub returns-clause-anew : goal.returns-clause-anew
returns-clause-anew c = new_grants_stay_apart
