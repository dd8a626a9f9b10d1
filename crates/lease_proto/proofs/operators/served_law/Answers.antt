use Rattle.lease_proto.proofs.OperatorLemmas.{clients_are_served, operators_are_served}
use Rattle.lease_proto.proofs.operators.served_law.Goals as goal

pub returns-clause-clients : goal.returns-clause-clients
returns-clause-clients c = clients_are_served

pub returns-clause-operators : goal.returns-clause-operators
returns-clause-operators c = operators_are_served
