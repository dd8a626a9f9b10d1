use Rattle.magazine_layer.proofs.rounds.run_one.Goals as goal

pub returns-in-Give-clause-step : goal.returns-in-Give-clause-step
returns-in-Give-clause-step g c = rw c.in-Give.is c.give_round.ensures.gives

pub returns-in-Take-clause-step : goal.returns-in-Take-clause-step
returns-in-Take-clause-step g c = rw c.in-Take.is c.take_round.ensures.takes
