use Rattle.lease_history.proofs.HeldLemmas.{held_is_leased}
use Rattle.lease_history.proofs.AnsweredLemmas.{open_clients_agree, waiting_is_answered}
use Rattle.lease_history.proofs.laws.held_laws.Goals as goal

pub returns-clause-held : goal.returns-clause-held
returns-clause-held c = held_is_leased

pub returns-clause-agree : goal.returns-clause-agree
returns-clause-agree c = open_clients_agree

pub returns-clause-waiting : goal.returns-clause-waiting
returns-clause-waiting c = waiting_is_answered
