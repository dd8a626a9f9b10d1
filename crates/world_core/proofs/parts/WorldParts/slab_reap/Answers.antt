use Rattle.std.proofs.Common.{◌≡◌, None, subst, ap, ◌∙◌, rules}
use Rattle.std.specs.Prelude.{slice_get}
use Rattle.world_core.specs.WorldState.{WorldState, entries_of}
use Rattle.world_core.specs.Events.{EndsAs, HasInHand}
use Rattle.world_core.specs.declared.events.WorldEvent.TheVariants as events
use Rattle.world_core.specs.declared.events.Outcome.TheVariants.{Done, NotEnabled}
use Rattle.world_core.proofs.CallLemmas.{reaps_slab, reaps_none}
use Rattle.world_core.proofs.parts.WorldParts.slab_reap.Goals as goal

pub returns-in-Some : goal.returns-in-Some
returns-in-Some g c =
    let w : WorldState = record { stock = c.self.inside.stock; names = c.self.inside.names.items; owners = c.self.inside.owners.items; caches = c.self.inside.caches.items; hands = c.self.inside.hands.items; tasks = c.self.inside.tasks.items; failed = c.self.inside.failed.items; book = c.self.inside.book; entries = entries_of c.self.inside.log.items; clients = c.self.inside.clients.items; requests = c.self.inside.requests.items; replies = c.self.inside.replies.items } in
    let view : w ≡ c.args.self.now = c.self.view_is in
    let empty : HasInHand w c.args.cpu None = (let e : HasInHand c.args.self.now c.args.cpu None = search rules in ap (λ (x : WorldState). slice_get x.hands c.args.cpu) view ∙ e) in
    let v : WorldState = record w { stock = c.slab_reap-reaped.new.self; hands = c.put.new.hands.items } in
    subst (λ x. EndsAs (events.SlabReaps c.args.cpu c.args.arena c.args.cache) Done x v) view
    (reaps_slab w c.args.cpu c.args.arena c.args.cache c.in-Some.span c.slab_reap-reaped.new.self c.put.new.hands.items empty c.in-Some.ensures.reaped c.count.ensures.stock c.in-Some.ensures.frame c.in-Some.ensures.fixed c.put.ensures)

pub returns-in-None : goal.returns-in-None
returns-in-None g c =
    let w : WorldState = record { stock = c.self.inside.stock; names = c.self.inside.names.items; owners = c.self.inside.owners.items; caches = c.self.inside.caches.items; hands = c.self.inside.hands.items; tasks = c.self.inside.tasks.items; failed = c.self.inside.failed.items; book = c.self.inside.book; entries = entries_of c.self.inside.log.items; clients = c.self.inside.clients.items; requests = c.self.inside.requests.items; replies = c.self.inside.replies.items } in
    let view : w ≡ c.args.self.now = c.self.view_is in
    let v : WorldState = record w { stock = c.slab_reap-reaped.new.self } in
    subst (λ x. EndsAs (events.SlabReaps c.args.cpu c.args.arena c.args.cache) NotEnabled x v) view
    (reaps_none w c.args.cpu c.args.arena c.args.cache c.slab_reap-reaped.new.self c.in-None.ensures.reaped)
