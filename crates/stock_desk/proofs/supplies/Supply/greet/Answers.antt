use Rattle.stock_desk.proofs.Greeted.{greets}
use Rattle.stock_desk.proofs.supplies.Supply.greet.Goals as goal

pub returns-clause-picture : goal.returns-clause-picture
returns-clause-picture c = (greets _ _ _ c.in-Ok.greeting c.in-Ok.ensures).picture

pub returns-clause-setup : goal.returns-clause-setup
returns-clause-setup c = (greets _ _ _ c.in-Ok.greeting c.in-Ok.ensures).setup

pub returns-clause-step : goal.returns-clause-step
returns-clause-step c = rw c.greeted.ensures ((greets _ _ _ c.in-Ok.greeting c.in-Ok.ensures).step)
