use Rattle.lease_history.proofs.HeldLemmas.{clients_begin_known}
use Rattle.lease_history.proofs.MoveLemmas.{moves_keep_known}
use Rattle.lease_history.proofs.laws.move_laws.Goals as goal

pub returns-clause-begins : goal.returns-clause-begins
returns-clause-begins c = clients_begin_known

pub returns-clause-moves : goal.returns-clause-moves
returns-clause-moves c = moves_keep_known
