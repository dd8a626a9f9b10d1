use Rattle.lease_call.proofs.CallBounds.{lease_is_short, release_is_short, hello_is_short}
use Rattle.lease_call.proofs.laws.lock_laws.Goals as goal

pub returns-clause-lease : goal.returns-clause-lease
returns-clause-lease g c = lease_is_short _

pub returns-clause-release : goal.returns-clause-release
returns-clause-release g c = release_is_short _

pub returns-clause-hello : goal.returns-clause-hello
returns-clause-hello g c = hello_is_short _
