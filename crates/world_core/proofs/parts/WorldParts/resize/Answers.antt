use Rattle.std.proofs.Common.{◌≡◌, subst, rules}
use Rattle.world_core.specs.WorldState.{WorldState, entries_of}
use Rattle.world_core.specs.Events.{EndsAs}
use Rattle.world_core.specs.declared.events.WorldEvent.TheVariants as events
use Rattle.world_core.specs.declared.events.EventFault.TheVariants as faults
use Rattle.world_core.specs.declared.events.Outcome.TheVariants.{Done, Refused}
use Rattle.magazine_layer.specs.Magazines.{IsSize}
use Rattle.world_core.proofs.CallLemmas.{resizes, resize_is_no_greater}
use Rattle.world_core.proofs.parts.WorldParts.resize.Goals as goal

pub returns-in-Ok : goal.returns-in-Ok
returns-in-Ok g c =
    let w : WorldState = record { stock = c.self.inside.stock; names = c.self.inside.names.items; owners = c.self.inside.owners.items; caches = c.self.inside.caches.items; hands = c.self.inside.hands.items; tasks = c.self.inside.tasks.items; failed = c.self.inside.failed.items; book = c.self.inside.book; entries = entries_of c.self.inside.log.items; clients = c.self.inside.clients.items; requests = c.self.inside.requests.items; replies = c.self.inside.replies.items } in
    let view : w ≡ c.args.self.now = c.self.view_is in
    let sized : IsSize c.args.size = search rules in
    let v : WorldState = record w { stock = c.resize-resized.new.self } in
    subst (λ x. EndsAs (events.Resizes c.args.arena c.args.cache c.args.size) Done x v) view
    (resizes w c.args.arena c.args.cache c.args.size c.resize-resized.new.self sized c.in-Ok.ensures.resized c.count.ensures.stock c.in-Ok.ensures.frame c.in-Ok.ensures.fixed)

pub returns-in-Err : goal.returns-in-Err
returns-in-Err g c =
    let w : WorldState = record { stock = c.self.inside.stock; names = c.self.inside.names.items; owners = c.self.inside.owners.items; caches = c.self.inside.caches.items; hands = c.self.inside.hands.items; tasks = c.self.inside.tasks.items; failed = c.self.inside.failed.items; book = c.self.inside.book; entries = entries_of c.self.inside.log.items; clients = c.self.inside.clients.items; requests = c.self.inside.requests.items; replies = c.self.inside.replies.items } in
    let view : w ≡ c.args.self.now = c.self.view_is in
    let sized : IsSize c.args.size = search rules in
    let v : WorldState = record w { stock = c.resize-resized.new.self } in
    subst (λ x. EndsAs (events.Resizes c.args.arena c.args.cache c.args.size) (Refused faults.NotGreater) x v) view
    (resize_is_no_greater w c.args.arena c.args.cache c.args.size c.resize-resized.new.self _ sized c.in-Err.ensures.resized)
