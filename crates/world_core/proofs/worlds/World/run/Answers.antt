use Rattle.std.proofs.Common.{◌≡◌, ◌+◌, List, [], ◌∷◌, ◌++◌, take, sym, subst, Some, arith}
use Rattle.std.specs.Prelude.{slice_get}
use Rattle.deed_core.proofs.LawProofs.{slice_get_here}
use Rattle.world_core.specs.declared.events.WorldEvent.{WorldEvent}
use Rattle.world_core.specs.declared.events.Outcome.{Outcome}
use Rattle.world_core.specs.Events.{HappensTo}
use Rattle.world_core.proofs.Members.{take_next}
use Rattle.world_core.proofs.Keeps.{happens_more}
use Rattle.world_core.proofs.worlds.World.run.Goals as goal

pub loop-event-preserved : goal.loop-event-preserved
loop-event-preserved g c =
    let events = c.args.events.now in
    let at : slice_get events c.loop-event.event-index ≡ Some c.event-item.result = slice_get_here events c.loop-event.event-index c.event-item.result c.loop-event-test.true c.event-item.is in
    let more = happens_more (take c.loop-event.event-index events) c.loop-event.outcomes.items c.event-item.result c.step.result c.args.self.now c.loop-event.self c.step.new.self c.loop-event.invariant.0 c.step.ensures.ended in
    let told : HappensTo (take (c.loop-event.event-index + 1) events) (c.loop-event.outcomes.items ++ c.step.result ∷ []) c.args.self.now c.step.new.self =
    subst (λ (list : List WorldEvent). HappensTo list (c.loop-event.outcomes.items ++ c.step.result ∷ []) c.args.self.now c.step.new.self) (sym (take_next events c.loop-event.event-index c.event-item.result at)) more in (
      subst (λ (outcomes : List Outcome). HappensTo (take (c.loop-event.event-index + 1) events) outcomes c.args.self.now c.step.new.self) (sym c.push_reserved.ensures.items) told,
      omega (arith, c.push_reserved.ensures.len, c.loop-event.invariant.1),
      omega (arith, c.push_reserved.ensures.capacity, c.loop-event.invariant.2),
    )
