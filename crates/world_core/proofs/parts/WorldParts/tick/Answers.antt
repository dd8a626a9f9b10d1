use Rattle.std.proofs.Common.{◌≡◌, subst}
use Rattle.world_core.specs.WorldState.{WorldState, entries_of}
use Rattle.world_core.specs.Events.{EndsAs}
use Rattle.world_core.specs.declared.events.WorldEvent.TheVariants as events
use Rattle.world_core.specs.declared.events.Outcome.TheVariants.{Done}
use Rattle.world_core.proofs.CallLemmas.{ticks}
use Rattle.world_core.proofs.parts.WorldParts.tick.Goals as goal

pub returns : goal.returns
returns g c =
    let w : WorldState = record { stock = c.self.inside.stock; names = c.self.inside.names.items; owners = c.self.inside.owners.items; caches = c.self.inside.caches.items; hands = c.self.inside.hands.items; tasks = c.self.inside.tasks.items; failed = c.self.inside.failed.items; book = c.self.inside.book; entries = entries_of c.self.inside.log.items; clients = c.self.inside.clients.items; requests = c.self.inside.requests.items; replies = c.self.inside.replies.items } in
    let view : w ≡ c.args.self.now = c.self.view_is in
    let v : WorldState = record w { stock = c.tick.new.self } in
    subst (λ x. EndsAs (events.Ticks c.args.arena c.args.cache) Done x v) view
    (ticks w c.args.arena c.args.cache c.tick.new.self c.tick.ensures.ticked c.count.ensures.stock c.tick.ensures.frame c.tick.ensures.fixed)
