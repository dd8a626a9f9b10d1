use Rattle.std.proofs.Common.{◌≡◌, Some, sym, subst, ap, ◌∙◌, arith}
use Rattle.std.specs.Prelude.{slice_get}
use Rattle.deed_core.specs.Tag.{Tag}
use Rattle.deed_core.specs.declared.segments.Route.TheVariants.{Direct}
use Rattle.world_core.specs.WorldState.{WorldState, entries_of}
use Rattle.world_core.specs.IsWorld.{IsWorld}
use Rattle.world_core.specs.Events.{EndsAs, HasInHand}
use Rattle.world_core.specs.declared.events.WorldEvent.TheVariants as events
use Rattle.world_core.specs.declared.events.EventFault.TheVariants as faults
use Rattle.world_core.specs.declared.events.Outcome.TheVariants.{Done, NoMemory, Refused}
use Rattle.world_core.proofs.CallLemmas.{emptied, one_held, others, held_out, on_grid, adds_slab, slab_is_wrong, slab_wants_memory, never_overlaps}
use Rattle.world_core.proofs.parts.WorldParts.slab_add.Goals as goal

pub slab_add-added-requires-clause-grid : goal.slab_add-added-requires-clause-grid
slab_add-added-requires-clause-grid g c =
    let w : WorldState = record { stock = c.self.inside.stock; names = c.self.inside.names.items; owners = c.self.inside.owners.items; caches = c.self.inside.caches.items; hands = c.self.inside.hands.items; tasks = c.self.inside.tasks.items; failed = c.self.inside.failed.items; book = c.self.inside.book; entries = entries_of c.self.inside.log.items; clients = c.self.inside.clients.items; requests = c.self.inside.requests.items; replies = c.self.inside.replies.items } in
    let view : w ≡ c.args.self.now = c.self.view_is in
    let world : IsWorld w = subst IsWorld (sym view) c.requires.world in
    let seen : HasInHand w c.args.cpu (Some c.in-Some.seen) = ap (λ (x : WorldState). slice_get x.hands c.args.cpu) view ∙ c.in-Some.ensures.some.0 in
    let segment : c.in-Some.seen ≡ c.take-span.result = one_held w c.args.cpu c.in-Some.seen c.take-span.result seen c.take-span.ensures.held in
    let route : c.take-span.result.route ≡ Direct = ap (λ (t : Tag). t.route) (sym segment) ∙ c.in-Some.ensures.some.1 in
    let home : c.take-span.result.arena ≡ c.args.arena = ap (λ (t : Tag). t.arena) (sym segment) ∙ (let e : c.in-Some.seen.arena ≡ c.args.arena = omega arith in e) in
    on_grid w c.args.cpu c.take-span.result c.args.arena world c.take-span.ensures.held route home

pub put-requires : goal.put-requires
put-requires g c =
    let w : WorldState = record { stock = c.self.inside.stock; names = c.self.inside.names.items; owners = c.self.inside.owners.items; caches = c.self.inside.caches.items; hands = c.self.inside.hands.items; tasks = c.self.inside.tasks.items; failed = c.self.inside.failed.items; book = c.self.inside.book; entries = entries_of c.self.inside.log.items; clients = c.self.inside.clients.items; requests = c.self.inside.requests.items; replies = c.self.inside.replies.items } in
    let view : w ≡ c.args.self.now = c.self.view_is in
    record { empty = emptied w.hands c.take-span.new.hands.items c.args.cpu c.take-span.result c.take-span.ensures.held c.take-span.ensures.emptied }

pub returns-in-Ok : goal.returns-in-Ok
returns-in-Ok g c =
    let w : WorldState = record { stock = c.self.inside.stock; names = c.self.inside.names.items; owners = c.self.inside.owners.items; caches = c.self.inside.caches.items; hands = c.self.inside.hands.items; tasks = c.self.inside.tasks.items; failed = c.self.inside.failed.items; book = c.self.inside.book; entries = entries_of c.self.inside.log.items; clients = c.self.inside.clients.items; requests = c.self.inside.requests.items; replies = c.self.inside.replies.items } in
    let view : w ≡ c.args.self.now = c.self.view_is in
    let seen : HasInHand w c.args.cpu (Some c.in-Some.seen) = ap (λ (x : WorldState). slice_get x.hands c.args.cpu) view ∙ c.in-Some.ensures.some.0 in
    let segment : c.in-Some.seen ≡ c.take-span.result = one_held w c.args.cpu c.in-Some.seen c.take-span.result seen c.take-span.ensures.held in
    let route : c.take-span.result.route ≡ Direct = ap (λ (t : Tag). t.route) (sym segment) ∙ c.in-Some.ensures.some.1 in
    let home : c.take-span.result.arena ≡ c.args.arena = ap (λ (t : Tag). t.arena) (sym segment) ∙ (let e : c.in-Some.seen.arena ≡ c.args.arena = omega arith in e) in
    let v : WorldState = record w { stock = c.slab_add-added.new.self; hands = c.put.new.hands.items } in
    subst (λ x. EndsAs (events.SlabAdds c.args.cpu c.args.arena c.args.cache) Done x v) view
    (adds_slab w c.args.cpu c.args.arena c.args.cache c.take-span.result c.take-span.ensures.held home route c.in-Ok.chunk c.slab_add-added.new.self c.take-span.new.hands.items c.put.new.hands.items c.in-Ok.ensures.added c.count.ensures.stock c.in-Ok.ensures.frame c.in-Ok.ensures.fixed c.take-span.ensures.emptied c.put.ensures)

pub put-requires-in-WrongSize : goal.put-requires-in-WrongSize
put-requires-in-WrongSize g c =
    let w : WorldState = record { stock = c.self.inside.stock; names = c.self.inside.names.items; owners = c.self.inside.owners.items; caches = c.self.inside.caches.items; hands = c.self.inside.hands.items; tasks = c.self.inside.tasks.items; failed = c.self.inside.failed.items; book = c.self.inside.book; entries = entries_of c.self.inside.log.items; clients = c.self.inside.clients.items; requests = c.self.inside.requests.items; replies = c.self.inside.replies.items } in
    let view : w ≡ c.args.self.now = c.self.view_is in
    record { empty = emptied w.hands c.take-span.new.hands.items c.args.cpu c.take-span.result c.take-span.ensures.held c.take-span.ensures.emptied }

pub returns-in-WrongSize : goal.returns-in-WrongSize
returns-in-WrongSize g c =
    let w : WorldState = record { stock = c.self.inside.stock; names = c.self.inside.names.items; owners = c.self.inside.owners.items; caches = c.self.inside.caches.items; hands = c.self.inside.hands.items; tasks = c.self.inside.tasks.items; failed = c.self.inside.failed.items; book = c.self.inside.book; entries = entries_of c.self.inside.log.items; clients = c.self.inside.clients.items; requests = c.self.inside.requests.items; replies = c.self.inside.replies.items } in
    let view : w ≡ c.args.self.now = c.self.view_is in
    let seen : HasInHand w c.args.cpu (Some c.in-Some.seen) = ap (λ (x : WorldState). slice_get x.hands c.args.cpu) view ∙ c.in-Some.ensures.some.0 in
    let segment : c.in-Some.seen ≡ c.take-span.result = one_held w c.args.cpu c.in-Some.seen c.take-span.result seen c.take-span.ensures.held in
    let route : c.take-span.result.route ≡ Direct = ap (λ (t : Tag). t.route) (sym segment) ∙ c.in-Some.ensures.some.1 in
    let home : c.take-span.result.arena ≡ c.args.arena = ap (λ (t : Tag). t.arena) (sym segment) ∙ (let e : c.in-Some.seen.arena ≡ c.args.arena = omega arith in e) in
    let v : WorldState = record w { stock = c.slab_add-added.new.self; hands = c.put-in-WrongSize.new.hands.items } in
    subst (λ x. EndsAs (events.SlabAdds c.args.cpu c.args.arena c.args.cache) (Refused faults.WrongSize) x v) view
    (slab_is_wrong w c.args.cpu c.args.arena c.args.cache c.take-span.result c.take-span.ensures.held home route c.in-WrongSize.span c.slab_add-added.new.self c.take-span.new.hands.items c.put-in-WrongSize.new.hands.items (rw c.in-WrongSize.is at c.in-Err.ensures.added) c.take-span.ensures.emptied c.put-in-WrongSize.ensures)

pub put-requires-in-NoMemory : goal.put-requires-in-NoMemory
put-requires-in-NoMemory g c =
    let w : WorldState = record { stock = c.self.inside.stock; names = c.self.inside.names.items; owners = c.self.inside.owners.items; caches = c.self.inside.caches.items; hands = c.self.inside.hands.items; tasks = c.self.inside.tasks.items; failed = c.self.inside.failed.items; book = c.self.inside.book; entries = entries_of c.self.inside.log.items; clients = c.self.inside.clients.items; requests = c.self.inside.requests.items; replies = c.self.inside.replies.items } in
    let view : w ≡ c.args.self.now = c.self.view_is in
    record { empty = emptied w.hands c.take-span.new.hands.items c.args.cpu c.take-span.result c.take-span.ensures.held c.take-span.ensures.emptied }

pub returns-in-NoMemory : goal.returns-in-NoMemory
returns-in-NoMemory g c =
    let w : WorldState = record { stock = c.self.inside.stock; names = c.self.inside.names.items; owners = c.self.inside.owners.items; caches = c.self.inside.caches.items; hands = c.self.inside.hands.items; tasks = c.self.inside.tasks.items; failed = c.self.inside.failed.items; book = c.self.inside.book; entries = entries_of c.self.inside.log.items; clients = c.self.inside.clients.items; requests = c.self.inside.requests.items; replies = c.self.inside.replies.items } in
    let view : w ≡ c.args.self.now = c.self.view_is in
    let seen : HasInHand w c.args.cpu (Some c.in-Some.seen) = ap (λ (x : WorldState). slice_get x.hands c.args.cpu) view ∙ c.in-Some.ensures.some.0 in
    let segment : c.in-Some.seen ≡ c.take-span.result = one_held w c.args.cpu c.in-Some.seen c.take-span.result seen c.take-span.ensures.held in
    let route : c.take-span.result.route ≡ Direct = ap (λ (t : Tag). t.route) (sym segment) ∙ c.in-Some.ensures.some.1 in
    let home : c.take-span.result.arena ≡ c.args.arena = ap (λ (t : Tag). t.arena) (sym segment) ∙ (let e : c.in-Some.seen.arena ≡ c.args.arena = omega arith in e) in
    let v : WorldState = record w { stock = c.slab_add-added.new.self; hands = c.put-in-NoMemory.new.hands.items } in
    subst (λ x. EndsAs (events.SlabAdds c.args.cpu c.args.arena c.args.cache) NoMemory x v) view
    (slab_wants_memory w c.args.cpu c.args.arena c.args.cache c.take-span.result c.take-span.ensures.held home route c.in-NoMemory.span c.slab_add-added.new.self c.take-span.new.hands.items c.put-in-NoMemory.new.hands.items (rw c.in-NoMemory.is at c.in-Err.ensures.added) c.take-span.ensures.emptied c.put-in-NoMemory.ensures)

pub unreachable-requires : goal.unreachable-requires
unreachable-requires g c =
    let w : WorldState = record { stock = c.self.inside.stock; names = c.self.inside.names.items; owners = c.self.inside.owners.items; caches = c.self.inside.caches.items; hands = c.self.inside.hands.items; tasks = c.self.inside.tasks.items; failed = c.self.inside.failed.items; book = c.self.inside.book; entries = entries_of c.self.inside.log.items; clients = c.self.inside.clients.items; requests = c.self.inside.requests.items; replies = c.self.inside.replies.items } in
    let view : w ≡ c.args.self.now = c.self.view_is in
    let world : IsWorld w = subst IsWorld (sym view) c.requires.world in
    never_overlaps c.in-Err.fault (λ b e. c.in_default-fault.not-WrongSize b e) (λ b e. c.in_default-fault.not-NoMemory b e) (c.in-Err.ensures.never (others w c.args.cpu) (held_out w c.args.cpu c.take-span.result world c.take-span.ensures.held).accounts)
