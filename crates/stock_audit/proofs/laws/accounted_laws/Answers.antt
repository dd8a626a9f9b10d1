use Rattle.stock_audit.proofs.LawProofs as laws
use Rattle.stock_audit.proofs.laws.accounted_laws.Goals as goal

pub returns-clause-fresh : goal.returns-clause-fresh
returns-clause-fresh c = laws.fresh_is_accounted

pub returns-clause-balances : goal.returns-clause-balances
returns-clause-balances c = laws.accounted_balances
