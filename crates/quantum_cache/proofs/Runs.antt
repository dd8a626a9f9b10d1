-- How a list of steps is gone through: by an event, by a list within it, or at its end.
use Rattle.arena_tree.proofs.LawProofs.{ran_done, ran_ask, ran_then}

-- an event and an end
pub ruleset asks = (ran_ask, ran_done)

-- a list of steps, an event and an end
pub ruleset goes_on = (ran_then, ran_ask, ran_done)

-- a list of steps and an end
pub ruleset ends = (ran_then, ran_done)
