use Rattle.lease_machine.proofs.Homes.{audit_tells_leases, audit_is_whole, audit_is_told}
use Rattle.lease_machine.proofs.laws.audit_laws.Goals as goal

pub returns-clause-leases : goal.returns-clause-leases
returns-clause-leases c = audit_tells_leases

pub returns-clause-whole : goal.returns-clause-whole
returns-clause-whole c = audit_is_whole

pub returns-clause-told : goal.returns-clause-told
returns-clause-told c = audit_is_told
