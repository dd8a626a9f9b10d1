use Rattle.stock_audit.proofs.LawProofs as laws
use Rattle.stock_audit.proofs.laws.reach_laws.Goals as goal

pub returns-clause-above : goal.returns-clause-above
returns-clause-above c = laws.free_above_is_free

pub returns-clause-given : goal.returns-clause-given
returns-clause-given c = laws.given_was_reachable

pub returns-clause-fitted : goal.returns-clause-fitted
returns-clause-fitted c = laws.given_fitted_in
