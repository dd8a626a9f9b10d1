use Rattle.stock_audit.proofs.LawProofs as laws
use Rattle.stock_audit.proofs.laws.move_laws.Goals as goal

pub returns-clause-pops : goal.returns-clause-pops
returns-clause-pops c = laws.pops_keep

pub returns-clause-pushes : goal.returns-clause-pushes
returns-clause-pushes c = laws.pushes_keep

pub returns-clause-changes : goal.returns-clause-changes
returns-clause-changes c = laws.changes_keep

pub returns-clause-leases : goal.returns-clause-leases
returns-clause-leases c = laws.leases_keep

pub returns-clause-releases : goal.returns-clause-releases
returns-clause-releases c = laws.releases_keep

pub returns-clause-cpus : goal.returns-clause-cpus
returns-clause-cpus c = laws.cpus_keep
