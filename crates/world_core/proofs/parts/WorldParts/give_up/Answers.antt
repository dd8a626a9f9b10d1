use Rattle.world_core.specs.declared.events.WorldEvent.TheVariants as events
use Rattle.world_core.specs.Moves.{TaskGivenUp}
use Rattle.world_core.proofs.CallLemmas.{tried}
use Rattle.world_core.proofs.parts.WorldParts.give_up.Goals as goal

pub returns : goal.returns
returns g c =
    tried (events.GivesUp c.args.cpu) (TaskGivenUp c.args.cpu) c.abandon.result c.args.self.now c.abandon.new.self (c.in-Some.task.id, c.in-Some.task.op, c.in-Some.ensures.some) (c.in-Some.task.id, c.in-Some.task.op, c.in-Some.ensures.some) (λ m. m) c.abandon.ensures
