use Rattle.stock.proofs.LawProofs as laws
use Rattle.stock.proofs.laws.one_home_laws.Goals as goal

pub returns-clause-home : goal.returns-clause-home
returns-clause-home c = laws.one_home

pub returns-clause-lengths : goal.returns-clause-lengths
returns-clause-lengths c = laws.adds_up
