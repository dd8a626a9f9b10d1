use Rattle.lease_machine.proofs.HelloRuns.{hello_runs}
use Rattle.lease_machine.proofs.RequestRuns.{request_runs}
use Rattle.lease_machine.proofs.laws.conversation_laws.Goals as goal

pub returns-clause-request : goal.returns-clause-request
returns-clause-request g c = request_runs g.row.D.Denot

pub returns-clause-hello : goal.returns-clause-hello
returns-clause-hello g c = hello_runs g.row.D.Denot
