use Rattle.world_core.proofs.Safety.{always_safe}
use Rattle.world_core.proofs.laws.always_safe.Goals as goal

pub returns : goal.returns
returns c = always_safe
