use Rattle.lease_call.proofs.CallHands.{request_handles, line_handles}
use Rattle.lease_call.proofs.laws.hand_laws.Goals as goal

pub returns-clause-request : goal.returns-clause-request
returns-clause-request g c = request_handles _

pub returns-clause-hello : goal.returns-clause-hello
returns-clause-hello g c = line_handles _
