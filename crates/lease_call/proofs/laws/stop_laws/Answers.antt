use Rattle.lease_call.proofs.CallStops.{request_stops, hello_stops_last, event_goes_on}
use Rattle.lease_call.proofs.laws.stop_laws.Goals as goal

pub returns-clause-request : goal.returns-clause-request
returns-clause-request g c = request_stops _

pub returns-clause-hello : goal.returns-clause-hello
returns-clause-hello g c = hello_stops_last _

pub returns-clause-event : goal.returns-clause-event
returns-clause-event g c = event_goes_on _
