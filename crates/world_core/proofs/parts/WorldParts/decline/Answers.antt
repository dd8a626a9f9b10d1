use Rattle.std.proofs.Common.{inl, inr, refl}
use Rattle.world_core.specs.declared.events.WorldEvent.TheVariants as events
use Rattle.world_core.specs.Moves.{TaskAnswered, TaskRefused}
use Rattle.world_core.specs.Events.{MayDecline}
use Rattle.world_core.proofs.CallLemmas.{tried}
use Rattle.world_core.proofs.parts.WorldParts.decline.Goals as goal

pub returns-in-Some-number_answer : goal.returns-in-Some-number_answer
returns-in-Some-number_answer g c =
    let may : MayDecline c.args.refusal = c.if-not-may_decline.ensures.0 refl in
    tried (events.Declines c.args.cpu c.args.refusal) (TaskAnswered c.args.cpu) c.end.result c.args.self.now c.end.new.self (may, c.in-Some.task.id, c.in-Some.task.op, c.in-Some.ensures.some) (may, c.in-Some.task.id, c.in-Some.task.op, c.in-Some.ensures.some) (λ m. inr m) c.end.ensures

pub returns-in-None : goal.returns-in-None
returns-in-None g c =
    let may : MayDecline c.args.refusal = c.if-not-may_decline.ensures.0 refl in
    tried (events.Declines c.args.cpu c.args.refusal) (TaskRefused c.args.cpu c.args.refusal) c.refuse.result c.args.self.now c.refuse.new.self (may, c.in-Some.task.id, c.in-Some.task.op, c.in-Some.ensures.some) (may, c.in-Some.task.id, c.in-Some.task.op, c.in-Some.ensures.some) (λ m. inl m) c.refuse.ensures
