use Rattle.std.proofs.Common.{◌≡◌, Some, sym, subst, ap, ◌∙◌}
use Rattle.std.specs.Prelude.{slice_get}
use Rattle.std.proofs.lemmas.Bool.{false≢true}
use Rattle.deed_core.specs.Tag.{Tag}
use Rattle.world_core.specs.WorldState.{WorldState, entries_of}
use Rattle.world_core.specs.IsWorld.{IsWorld}
use Rattle.world_core.specs.Events.{EndsAs, HasInHand}
use Rattle.world_core.specs.declared.events.WorldEvent.TheVariants as events
use Rattle.world_core.specs.declared.events.Outcome.TheVariants.{Done}
use Rattle.world_core.proofs.CallLemmas.{puts_chunk, one_held, others, held_out}
use Rattle.world_core.proofs.parts.WorldParts.slab_put.Goals as goal

pub returns-in-Ok : goal.returns-in-Ok
returns-in-Ok g c =
    let w : WorldState = record { stock = c.self.inside.stock; names = c.self.inside.names.items; owners = c.self.inside.owners.items; caches = c.self.inside.caches.items; hands = c.self.inside.hands.items; tasks = c.self.inside.tasks.items; failed = c.self.inside.failed.items; book = c.self.inside.book; entries = entries_of c.self.inside.log.items; clients = c.self.inside.clients.items; requests = c.self.inside.requests.items; replies = c.self.inside.replies.items } in
    let view : w ≡ c.args.self.now = c.self.view_is in
    let world : IsWorld w = subst IsWorld (sym view) c.requires.world in
    let v : WorldState = record w { stock = c.slab_put-done.new.self; hands = c.take-chunk.new.hands.items } in
    subst (λ x. EndsAs (events.SlabPuts c.args.cpu) Done x v) view
    (puts_chunk w c.args.cpu c.take-chunk.result c.slab_put-done.new.self c.take-chunk.new.hands.items world c.take-chunk.ensures.held c.in-Ok.ensures.put c.count.ensures.stock c.in-Ok.ensures.frame c.in-Ok.ensures.fixed c.take-chunk.ensures.emptied)

pub unreachable-requires : goal.unreachable-requires
unreachable-requires g c =
    let w : WorldState = record { stock = c.self.inside.stock; names = c.self.inside.names.items; owners = c.self.inside.owners.items; caches = c.self.inside.caches.items; hands = c.self.inside.hands.items; tasks = c.self.inside.tasks.items; failed = c.self.inside.failed.items; book = c.self.inside.book; entries = entries_of c.self.inside.log.items; clients = c.self.inside.clients.items; requests = c.self.inside.requests.items; replies = c.self.inside.replies.items } in
    let view : w ≡ c.args.self.now = c.self.view_is in
    let world : IsWorld w = subst IsWorld (sym view) c.requires.world in
    let seen : HasInHand w c.args.cpu (Some c.in-Some.seen) = ap (λ (x : WorldState). slice_get x.hands c.args.cpu) view ∙ c.in-Some.ensures.some in
    let segment : c.in-Some.seen ≡ c.take-chunk.result = one_held w c.args.cpu c.in-Some.seen c.take-chunk.result seen c.take-chunk.ensures.held in
    let route = ap (λ (t : Tag). t.route) (sym segment) ∙ sym c.route.ensures ∙ c.in-Cached.is in
    absurd (false≢true (c.in-Err.ensures.never _ route (others w c.args.cpu) (held_out w c.args.cpu c.take-chunk.result world c.take-chunk.ensures.held).accounts))
