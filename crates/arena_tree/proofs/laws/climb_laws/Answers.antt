use Rattle.arena_tree.proofs.ClimbBounds.{climb_is_short, return_is_short}
use Rattle.arena_tree.proofs.ClimbGrants.{gives_climb}
use Rattle.arena_tree.proofs.ClimbHands.{handles_return, handles_climb}
use Rattle.arena_tree.proofs.ClimbTold.{climb_tells, return_tells, no_fit_is_told}
use Rattle.arena_tree.proofs.laws.climb_laws.Goals as goal

pub returns-clause-climb : goal.returns-clause-climb
returns-clause-climb c = handles_climb

pub returns-clause-back : goal.returns-clause-back
returns-clause-back c = handles_return

pub returns-clause-climb_short : goal.returns-clause-climb_short
returns-clause-climb_short c = climb_is_short

pub returns-clause-back_short : goal.returns-clause-back_short
returns-clause-back_short c = return_is_short

pub returns-clause-gives : goal.returns-clause-gives
returns-clause-gives c = gives_climb

pub returns-clause-tells : goal.returns-clause-tells
returns-clause-tells c = climb_tells

pub returns-clause-back_tells : goal.returns-clause-back_tells
returns-clause-back_tells c = return_tells

pub returns-clause-no_fit : goal.returns-clause-no_fit
returns-clause-no_fit c = no_fit_is_told
