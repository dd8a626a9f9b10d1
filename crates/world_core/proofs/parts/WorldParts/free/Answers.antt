use Rattle.std.proofs.Common.{◌≡◌, Some, sym, subst, ap, ◌∙◌}
use Rattle.std.specs.Prelude.{slice_get}
use Rattle.std.proofs.lemmas.Bool.{false≢true}
use Rattle.deed_core.specs.Tag.{Tag}
use Rattle.deed_core.specs.declared.segments.Route.TheVariants.{Direct}
use Rattle.world_core.specs.WorldState.{WorldState, entries_of}
use Rattle.world_core.specs.IsWorld.{IsWorld}
use Rattle.world_core.specs.Events.{EndsAs, HasInHand}
use Rattle.world_core.specs.declared.events.WorldEvent.TheVariants as events
use Rattle.world_core.specs.declared.events.Outcome.TheVariants.{Done}
use Rattle.world_core.proofs.CallLemmas.{frees, one_held, others, held_out}
use Rattle.world_core.proofs.parts.WorldParts.free.Goals as goal

pub returns-in-Ok : goal.returns-in-Ok
returns-in-Ok g c =
    let w : WorldState = record { stock = c.self.inside.stock; names = c.self.inside.names.items; owners = c.self.inside.owners.items; caches = c.self.inside.caches.items; hands = c.self.inside.hands.items; tasks = c.self.inside.tasks.items; failed = c.self.inside.failed.items; book = c.self.inside.book; entries = entries_of c.self.inside.log.items; clients = c.self.inside.clients.items; requests = c.self.inside.requests.items; replies = c.self.inside.replies.items } in
    let view : w ≡ c.args.self.now = c.self.view_is in
    let v : WorldState = record w { stock = c.free-freed.new.self; hands = c.put_answer.new.hands.items } in
    subst (λ x. EndsAs (events.Frees c.args.cpu) Done x v) view
    (frees w c.args.cpu c.take-segment.result c.in-Ok.back c.free-freed.new.self c.take-segment.new.hands.items c.put_answer.new.hands.items c.take-segment.ensures.held c.in-Ok.ensures.freed c.count.ensures.stock c.in-Ok.ensures.frame c.in-Ok.ensures.fixed c.take-segment.ensures.emptied c.put_answer.ensures)

pub unreachable-requires : goal.unreachable-requires
unreachable-requires g c =
    let w : WorldState = record { stock = c.self.inside.stock; names = c.self.inside.names.items; owners = c.self.inside.owners.items; caches = c.self.inside.caches.items; hands = c.self.inside.hands.items; tasks = c.self.inside.tasks.items; failed = c.self.inside.failed.items; book = c.self.inside.book; entries = entries_of c.self.inside.log.items; clients = c.self.inside.clients.items; requests = c.self.inside.requests.items; replies = c.self.inside.replies.items } in
    let view : w ≡ c.args.self.now = c.self.view_is in
    let world : IsWorld w = subst IsWorld (sym view) c.requires.world in
    let seen : HasInHand w c.args.cpu (Some c.in-Some.seen) = ap (λ (x : WorldState). slice_get x.hands c.args.cpu) view ∙ c.in-Some.ensures.some.0 in
    let segment : c.in-Some.seen ≡ c.take-segment.result = one_held w c.args.cpu c.in-Some.seen c.take-segment.result seen c.take-segment.ensures.held in
    let route : c.take-segment.result.route ≡ Direct = ap (λ (t : Tag). t.route) (sym segment) ∙ c.in-Some.ensures.some.1 in
    absurd (false≢true (c.in-Err.ensures.never route (others w c.args.cpu) (held_out w c.args.cpu c.take-segment.result world c.take-segment.ensures.held).accounts))
