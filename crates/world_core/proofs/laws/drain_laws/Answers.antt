use Rattle.world_core.proofs.Draining.{adopts_what_is_there, loses_by_adopting, drains_all}
use Rattle.world_core.proofs.laws.drain_laws.Goals as goal

pub returns-clause-adopts : goal.returns-clause-adopts
returns-clause-adopts c = adopts_what_is_there

pub returns-clause-loses : goal.returns-clause-loses
returns-clause-loses c = loses_by_adopting

pub returns-clause-drains : goal.returns-clause-drains
returns-clause-drains c = drains_all
