use Rattle.tag_arena.proofs.OneChoice.{best_one, next_one, instant_one, carve_one}
use Rattle.tag_arena.proofs.laws.one_choice_laws.Goals as goal

pub returns-clause-best : goal.returns-clause-best
returns-clause-best c = best_one

pub returns-clause-next : goal.returns-clause-next
returns-clause-next c = next_one

pub returns-clause-instant : goal.returns-clause-instant
returns-clause-instant c = instant_one

pub returns-clause-carve : goal.returns-clause-carve
returns-clause-carve c = carve_one
