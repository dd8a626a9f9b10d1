use Rattle.std.proofs.Common.{◌≡◌, sym, subst, rules}
use Rattle.world_core.specs.WorldState.{WorldState, entries_of}
use Rattle.world_core.specs.IsWorld.{IsWorld}
use Rattle.world_core.specs.Events.{EndsAs, IsReady}
use Rattle.world_core.specs.declared.events.WorldEvent.TheVariants as events
use Rattle.world_core.specs.declared.events.Outcome.TheVariants.{Done, NoMemory}
use Rattle.world_core.proofs.CallLemmas.{emptied, others, held_out, imports, import_wants_memory, only_memory, importer, may_import}
use Rattle.world_core.proofs.parts.WorldParts.add_carve.Goals as goal

pub returns-in-Ok : goal.returns-in-Ok
returns-in-Ok g c =
    let w : WorldState = record { stock = c.self.inside.stock; names = c.self.inside.names.items; owners = c.self.inside.owners.items; caches = c.self.inside.caches.items; hands = c.self.inside.hands.items; tasks = c.self.inside.tasks.items; failed = c.self.inside.failed.items; book = c.self.inside.book; entries = entries_of c.self.inside.log.items; clients = c.self.inside.clients.items; requests = c.self.inside.requests.items; replies = c.self.inside.replies.items } in
    let view : w ≡ c.args.self.now = c.self.view_is in
    let ready : IsReady (events.AddCarves c.args.cpu c.args.child c.args.size) w = (let e : IsReady (events.AddCarves c.args.cpu c.args.child c.args.size) c.args.self.now = search rules in subst (λ (x : WorldState). IsReady (events.AddCarves c.args.cpu c.args.child c.args.size) x) (sym view) e) in
    let v : WorldState = record w { stock = c.add_carve-imported.new.self; hands = c.put.new.hands.items } in
    subst (λ x. EndsAs (events.AddCarves c.args.cpu c.args.child c.args.size) Done x v) view
    (imports w c.args.cpu c.args.child c.args.size c.take-span.result c.in-Ok.segment c.plain.result c.add_carve-imported.new.self c.take-span.new.hands.items c.put.new.hands.items ready c.take-span.ensures.held c.plain.ensures.value c.in-Ok.ensures.carved c.count.ensures.stock c.in-Ok.ensures.frame c.in-Ok.ensures.fixed c.take-span.ensures.emptied c.put.ensures)

pub put-requires-in-NoMemory : goal.put-requires-in-NoMemory
put-requires-in-NoMemory g c =
    let w : WorldState = record { stock = c.self.inside.stock; names = c.self.inside.names.items; owners = c.self.inside.owners.items; caches = c.self.inside.caches.items; hands = c.self.inside.hands.items; tasks = c.self.inside.tasks.items; failed = c.self.inside.failed.items; book = c.self.inside.book; entries = entries_of c.self.inside.log.items; clients = c.self.inside.clients.items; requests = c.self.inside.requests.items; replies = c.self.inside.replies.items } in
    let view : w ≡ c.args.self.now = c.self.view_is in
    record { empty = emptied w.hands c.take-span.new.hands.items c.args.cpu c.take-span.result c.take-span.ensures.held c.take-span.ensures.emptied }

pub returns-in-NoMemory : goal.returns-in-NoMemory
returns-in-NoMemory g c =
    let w : WorldState = record { stock = c.self.inside.stock; names = c.self.inside.names.items; owners = c.self.inside.owners.items; caches = c.self.inside.caches.items; hands = c.self.inside.hands.items; tasks = c.self.inside.tasks.items; failed = c.self.inside.failed.items; book = c.self.inside.book; entries = entries_of c.self.inside.log.items; clients = c.self.inside.clients.items; requests = c.self.inside.requests.items; replies = c.self.inside.replies.items } in
    let view : w ≡ c.args.self.now = c.self.view_is in
    let ready : IsReady (events.AddCarves c.args.cpu c.args.child c.args.size) w = (let e : IsReady (events.AddCarves c.args.cpu c.args.child c.args.size) c.args.self.now = search rules in subst (λ (x : WorldState). IsReady (events.AddCarves c.args.cpu c.args.child c.args.size) x) (sym view) e) in
    let v : WorldState = record w { stock = c.add_carve-imported.new.self; hands = c.put-in-NoMemory.new.hands.items } in
    subst (λ x. EndsAs (events.AddCarves c.args.cpu c.args.child c.args.size) NoMemory x v) view
    (import_wants_memory w c.args.cpu c.args.child c.args.size c.take-span.result c.in-NoMemory.span c.plain.result c.add_carve-imported.new.self c.take-span.new.hands.items c.put-in-NoMemory.new.hands.items ready c.take-span.ensures.held (rw c.in-NoMemory.is at c.in-Err.ensures.carved) c.take-span.ensures.emptied c.put-in-NoMemory.ensures)

pub unreachable-requires : goal.unreachable-requires
unreachable-requires g c =
    let w : WorldState = record { stock = c.self.inside.stock; names = c.self.inside.names.items; owners = c.self.inside.owners.items; caches = c.self.inside.caches.items; hands = c.self.inside.hands.items; tasks = c.self.inside.tasks.items; failed = c.self.inside.failed.items; book = c.self.inside.book; entries = entries_of c.self.inside.log.items; clients = c.self.inside.clients.items; requests = c.self.inside.requests.items; replies = c.self.inside.replies.items } in
    let view : w ≡ c.args.self.now = c.self.view_is in
    let world : IsWorld w = subst IsWorld (sym view) c.requires.world in
    only_memory c.in-Err.fault (λ b e. c.in_default.not-NoMemory b e) (c.in-Err.ensures.never (others w c.args.cpu) (held_out w c.args.cpu c.take-span.result world c.take-span.ensures.held).accounts)

pub add_carve-imported-requires : goal.add_carve-imported-requires
add_carve-imported-requires g c =
    let w : WorldState = record { stock = c.self.inside.stock; names = c.self.inside.names.items; owners = c.self.inside.owners.items; caches = c.self.inside.caches.items; hands = c.self.inside.hands.items; tasks = c.self.inside.tasks.items; failed = c.self.inside.failed.items; book = c.self.inside.book; entries = entries_of c.self.inside.log.items; clients = c.self.inside.clients.items; requests = c.self.inside.requests.items; replies = c.self.inside.replies.items } in
    let view : w ≡ c.args.self.now = c.self.view_is in
    let ready : IsReady (events.AddCarves c.args.cpu c.args.child c.args.size) w = (let e : IsReady (events.AddCarves c.args.cpu c.args.child c.args.size) c.args.self.now = search rules in subst (λ (x : WorldState). IsReady (events.AddCarves c.args.cpu c.args.child c.args.size) x) (sym view) e) in
    record {
      within = importer w c.args.cpu c.args.child c.args.size ready;
      can = λ s at. may_import w c.args.cpu c.args.child c.args.size c.take-span.result c.plain.result s ready c.take-span.ensures.held c.plain.ensures.value at;
    }
