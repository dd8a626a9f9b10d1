use Rattle.std.proofs.Common.{◌≡◌, None, subst, ap, ◌∙◌, rules}
use Rattle.std.specs.Prelude.{slice_get}
use Rattle.world_core.specs.WorldState.{WorldState, entries_of}
use Rattle.world_core.specs.Events.{EndsAs, HasInHand}
use Rattle.world_core.specs.declared.events.WorldEvent.TheVariants as events
use Rattle.world_core.specs.declared.events.EventFault.TheVariants as faults
use Rattle.world_core.specs.declared.events.Outcome.TheVariants.{Done, NoMemory, Refused}
use Rattle.world_core.proofs.CallLemmas.{carves, carve_is_bad, carve_fits_none, carve_wants_memory}
use Rattle.world_core.proofs.parts.WorldParts.carve.Goals as goal

pub returns-in-Ok : goal.returns-in-Ok
returns-in-Ok g c =
    let w : WorldState = record { stock = c.self.inside.stock; names = c.self.inside.names.items; owners = c.self.inside.owners.items; caches = c.self.inside.caches.items; hands = c.self.inside.hands.items; tasks = c.self.inside.tasks.items; failed = c.self.inside.failed.items; book = c.self.inside.book; entries = entries_of c.self.inside.log.items; clients = c.self.inside.clients.items; requests = c.self.inside.requests.items; replies = c.self.inside.replies.items } in
    let view : w ≡ c.args.self.now = c.self.view_is in
    let empty : HasInHand w c.args.cpu None = (let e : HasInHand c.args.self.now c.args.cpu None = search rules in ap (λ (x : WorldState). slice_get x.hands c.args.cpu) view ∙ e) in
    let v : WorldState = record w { stock = c.carve-carved.new.self; hands = c.put.new.hands.items } in
    subst (λ x. EndsAs (events.Carves c.args.cpu c.args.arena c.args.request.now) Done x v) view
    (carves w c.args.cpu c.args.arena c.args.request.now c.in-Ok.segment c.carve-carved.new.self c.put.new.hands.items empty c.in-Ok.ensures.carved c.count-2.ensures.stock c.in-Ok.ensures.frame c.in-Ok.ensures.fixed c.put.ensures)

pub returns-in-BadRequest : goal.returns-in-BadRequest
returns-in-BadRequest g c =
    let w : WorldState = record { stock = c.self.inside.stock; names = c.self.inside.names.items; owners = c.self.inside.owners.items; caches = c.self.inside.caches.items; hands = c.self.inside.hands.items; tasks = c.self.inside.tasks.items; failed = c.self.inside.failed.items; book = c.self.inside.book; entries = entries_of c.self.inside.log.items; clients = c.self.inside.clients.items; requests = c.self.inside.requests.items; replies = c.self.inside.replies.items } in
    let view : w ≡ c.args.self.now = c.self.view_is in
    let empty : HasInHand w c.args.cpu None = (let e : HasInHand c.args.self.now c.args.cpu None = search rules in ap (λ (x : WorldState). slice_get x.hands c.args.cpu) view ∙ e) in
    let v : WorldState = record w { stock = c.carve-carved.new.self } in
    subst (λ x. EndsAs (events.Carves c.args.cpu c.args.arena c.args.request.now) (Refused faults.BadRequest) x v) view
    (carve_is_bad w c.args.cpu c.args.arena c.args.request.now c.carve-carved.new.self empty (rw c.in-BadRequest.is at c.in-Err.ensures.carved))

pub returns-in-NoFit : goal.returns-in-NoFit
returns-in-NoFit g c =
    let w : WorldState = record { stock = c.self.inside.stock; names = c.self.inside.names.items; owners = c.self.inside.owners.items; caches = c.self.inside.caches.items; hands = c.self.inside.hands.items; tasks = c.self.inside.tasks.items; failed = c.self.inside.failed.items; book = c.self.inside.book; entries = entries_of c.self.inside.log.items; clients = c.self.inside.clients.items; requests = c.self.inside.requests.items; replies = c.self.inside.replies.items } in
    let view : w ≡ c.args.self.now = c.self.view_is in
    let empty : HasInHand w c.args.cpu None = (let e : HasInHand c.args.self.now c.args.cpu None = search rules in ap (λ (x : WorldState). slice_get x.hands c.args.cpu) view ∙ e) in
    let v : WorldState = record w { stock = c.carve-carved.new.self } in
    subst (λ x. EndsAs (events.Carves c.args.cpu c.args.arena c.args.request.now) (Refused faults.NoFit) x v) view
    (carve_fits_none w c.args.cpu c.args.arena c.args.request.now c.carve-carved.new.self empty (rw c.in-NoFit.is at c.in-Err.ensures.carved))

pub returns-in-NoMemory : goal.returns-in-NoMemory
returns-in-NoMemory g c =
    let w : WorldState = record { stock = c.self.inside.stock; names = c.self.inside.names.items; owners = c.self.inside.owners.items; caches = c.self.inside.caches.items; hands = c.self.inside.hands.items; tasks = c.self.inside.tasks.items; failed = c.self.inside.failed.items; book = c.self.inside.book; entries = entries_of c.self.inside.log.items; clients = c.self.inside.clients.items; requests = c.self.inside.requests.items; replies = c.self.inside.replies.items } in
    let view : w ≡ c.args.self.now = c.self.view_is in
    let empty : HasInHand w c.args.cpu None = (let e : HasInHand c.args.self.now c.args.cpu None = search rules in ap (λ (x : WorldState). slice_get x.hands c.args.cpu) view ∙ e) in
    let v : WorldState = record w { stock = c.carve-carved.new.self } in
    subst (λ x. EndsAs (events.Carves c.args.cpu c.args.arena c.args.request.now) NoMemory x v) view
    (carve_wants_memory w c.args.cpu c.args.arena c.args.request.now c.carve-carved.new.self empty (rw c.in-NoMemory.is at c.in-Err.ensures.carved))
