use Rattle.stock.proofs.LawProofs as laws
use Rattle.stock.proofs.laws.frame_laws.Goals as goal

pub returns-clause-weighs : goal.returns-clause-weighs
returns-clause-weighs c = laws.out_weighs

pub returns-clause-then : goal.returns-clause-then
returns-clause-then c = laws.frames_then

pub returns-clause-pops : goal.returns-clause-pops
returns-clause-pops c = laws.pops

pub returns-clause-pushes : goal.returns-clause-pushes
returns-clause-pushes c = laws.pushes

pub returns-clause-changes : goal.returns-clause-changes
returns-clause-changes c = laws.changes
