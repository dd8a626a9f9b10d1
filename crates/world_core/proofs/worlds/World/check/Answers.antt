use Rattle.std.proofs.Common.{subst}
use Rattle.world_core.specs.IsWorld.{IsWorld}
use Rattle.world_core.proofs.Safety.{safe}
use Rattle.world_core.proofs.worlds.World.check.Goals as goal

pub returns : goal.returns
returns g c = safe c.args.self.now (subst IsWorld c.self.view_is c.self.invariant)
