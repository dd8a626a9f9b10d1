use Rattle.stock_audit.proofs.LawProofs as laws
use Rattle.stock_audit.proofs.laws.sum_laws.Goals as goal

pub returns-clause-lengths : goal.returns-clause-lengths
returns-clause-lengths c = laws.audit_adds_up

pub returns-clause-home : goal.returns-clause-home
returns-clause-home c = laws.unit_adds_up

pub returns-clause-weigh : goal.returns-clause-weigh
returns-clause-weigh c = laws.units_weigh
