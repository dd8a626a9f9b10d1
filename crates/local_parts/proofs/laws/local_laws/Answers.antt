use Rattle.local_parts.proofs.LawProofs as laws
use Rattle.local_parts.proofs.laws.local_laws.Goals as goal

pub returns-clause-conserves : goal.returns-clause-conserves
returns-clause-conserves g c = laws.plan_conserves _

pub returns-clause-setup : goal.returns-clause-setup
returns-clause-setup g c = laws.plan_keeps_setup _

pub returns-clause-home : goal.returns-clause-home
returns-clause-home g c = laws.plan_in_one_home _
