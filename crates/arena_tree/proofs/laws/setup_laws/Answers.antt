use Rattle.arena_tree.proofs.OneReason.{one_refusal}
use Rattle.arena_tree.proofs.TreeNames.{own_name}
use Rattle.arena_tree.proofs.laws.setup_laws.Goals as goal

pub returns-clause-one : goal.returns-clause-one
returns-clause-one c = one_refusal

pub returns-clause-name : goal.returns-clause-name
returns-clause-name c = own_name
