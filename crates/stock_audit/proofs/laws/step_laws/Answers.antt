use Rattle.stock_audit.proofs.LawProofs as laws
use Rattle.stock_audit.proofs.laws.step_laws.Goals as goal

pub returns-clause-hands : goal.returns-clause-hands
returns-clause-hands c = laws.hand_steps_keep

pub returns-clause-swaps : goal.returns-clause-swaps
returns-clause-swaps c = laws.swaps_keep
