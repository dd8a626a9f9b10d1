use Rattle.stock.proofs.LawProofs as laws
use Rattle.stock.proofs.laws.never_refused_laws.Goals as goal

pub returns-clause-tagged : goal.returns-clause-tagged
returns-clause-tagged c = laws.always_tagged

pub returns-clause-out : goal.returns-clause-out
returns-clause-out c = laws.always_out

pub returns-clause-imports : goal.returns-clause-imports
returns-clause-imports c = laws.always_imports

pub returns-clause-slab : goal.returns-clause-slab
returns-clause-slab c = laws.always_slab

pub returns-clause-grid : goal.returns-clause-grid
returns-clause-grid c = laws.always_on_grid
