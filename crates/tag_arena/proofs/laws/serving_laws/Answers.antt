use Rattle.tag_arena.proofs.Serving.{none_serves, choice_serves, carves_exactly}
use Rattle.tag_arena.proofs.laws.serving_laws.Goals as goal

pub returns-clause-none : goal.returns-clause-none
returns-clause-none c = none_serves

pub returns-clause-some : goal.returns-clause-some
returns-clause-some c = choice_serves

pub returns-clause-exact : goal.returns-clause-exact
returns-clause-exact c = carves_exactly
