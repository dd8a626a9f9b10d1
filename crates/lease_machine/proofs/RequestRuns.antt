-- A request's list of steps over a picture is a step of the lease machine, by what it asks.
use Rattle.lease_proto.specs.declared.lines.Op.TheVariants as ops
use Rattle.lease_machine.specs.Conversations.{RequestRuns}
use Rattle.lease_machine.proofs.LeaseRuns.{lease_runs}
use Rattle.lease_machine.proofs.ReleaseRuns.{release_runs}

pub request_runs : (D : Type 0) → RequestRuns D
request_runs D d id (ops.Lease l) b s a is path = lease_runs D d id l b s a is path
request_runs D d id (ops.Release l) b s a is path = release_runs D d id l b s a is path
