use Rattle.lease_call.proofs.CallHands.{request_keeps, hello_keeps, event_hands_back}
use Rattle.lease_call.proofs.laws.kept_laws.Goals as goal

pub returns-clause-request : goal.returns-clause-request
returns-clause-request g c = request_keeps _

pub returns-clause-hello : goal.returns-clause-hello
returns-clause-hello g c = hello_keeps _

pub returns-clause-event : goal.returns-clause-event
returns-clause-event g c = event_hands_back _
