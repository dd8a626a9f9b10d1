use Rattle.world_core.proofs.Keeps.{happens_keeps}
use Rattle.world_core.proofs.Safety.{safe}
use Rattle.world_core.proofs.worlds.World.step.Goals as goal

pub invariant_of-self : goal.invariant_of-self
invariant_of-self g c = happens_keeps c.args.event c.step.result c.self.inside.parts c.step.new.self c.self.invariant c.step.ensures

pub returns-clause-safe : goal.returns-clause-safe
returns-clause-safe g c = safe c.step.new.self (happens_keeps c.args.event c.step.result c.self.inside.parts c.step.new.self c.self.invariant c.step.ensures)
