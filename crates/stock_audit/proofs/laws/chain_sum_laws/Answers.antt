use Rattle.stock_audit.proofs.LawProofs as laws
use Rattle.stock_audit.proofs.laws.chain_sum_laws.Goals as goal

pub returns-clause-tops : goal.returns-clause-tops
returns-clause-tops c = laws.tops_stand

pub returns-clause-home : goal.returns-clause-home
returns-clause-home c = laws.chain_unit_adds_up

pub returns-clause-lengths : goal.returns-clause-lengths
returns-clause-lengths c = laws.chain_adds_up

pub returns-clause-free : goal.returns-clause-free
returns-clause-free c = laws.free_is_not_out

pub returns-clause-reachable : goal.returns-clause-reachable
returns-clause-reachable c = laws.reachable_is_not_held
