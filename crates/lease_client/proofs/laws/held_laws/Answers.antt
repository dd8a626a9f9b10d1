use Rattle.lease_client.proofs.HeldLemmas.{held_is_since_grant}
use Rattle.lease_client.proofs.laws.held_laws.Goals as goal

pub returns-clause-since : goal.returns-clause-since
returns-clause-since c = held_is_since_grant
