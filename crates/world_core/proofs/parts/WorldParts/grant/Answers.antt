use Rattle.std.proofs.Common.{◌≡◌, sym, subst, ap, ◌∙◌, refl, List, ℕ, Some, None, set, inl, inr, arith}
use Rattle.std.specs.Prelude.{slice_get}
use Rattle.std.proofs.lemmas.Option.{slice_get_within}
use Rattle.deed_core.proofs.LawProofs.{slice_get-set}
use Rattle.lease_terms.specs.declared.refusals.Refusal.TheVariants.{Leases}
use Rattle.lease_history.specs.Told.{reply_to}
use Rattle.world_core.specs.WorldState.{WorldState, arena_name, entries_of}
use Rattle.world_core.specs.Moves.{TaskGranted, TaskRefused, HasAllLeases}
use Rattle.world_core.specs.Events.{CanGrant}
use Rattle.world_core.proofs.PartLemmas.{onto, logged_on}
use Rattle.world_core.proofs.BookLemmas.{grants, refuses, put_back, all_leases}
use Rattle.world_core.proofs.parts.WorldParts.grant.Goals as goal

pub take-segment-requires : goal.take-segment-requires
take-segment-requires g c =
    let w : WorldState = record { stock = c.self.inside.stock; names = c.self.inside.names.items; owners = c.self.inside.owners.items; caches = c.self.inside.caches.items; hands = c.self.inside.hands.items; tasks = c.self.inside.tasks.items; failed = c.self.inside.failed.items; book = c.self.inside.book; entries = entries_of c.self.inside.log.items; clients = c.self.inside.clients.items; requests = c.self.inside.requests.items; replies = c.self.inside.replies.items } in
    let view : w ≡ c.args.self.now = c.self.view_is in
    let can = subst (λ (x : WorldState). CanGrant x c.args.cpu c.args.grant.now.id c.args.grant.now.lease c.args.grant.now.segment c.args.grant.now.quantum) (sym view) c.requires.can in
    record { held = (c.args.grant.now.segment, can.holds) }

pub index_mut-requires : goal.index_mut-requires
index_mut-requires g c =
    let w : WorldState = record { stock = c.self.inside.stock; names = c.self.inside.names.items; owners = c.self.inside.owners.items; caches = c.self.inside.caches.items; hands = c.self.inside.hands.items; tasks = c.self.inside.tasks.items; failed = c.self.inside.failed.items; book = c.self.inside.book; entries = entries_of c.self.inside.log.items; clients = c.self.inside.clients.items; requests = c.self.inside.requests.items; replies = c.self.inside.replies.items } in
    let view : w ≡ c.args.self.now = c.self.view_is in
    let can = subst (λ (x : WorldState). CanGrant x c.args.cpu c.args.grant.now.id c.args.grant.now.lease c.args.grant.now.segment c.args.grant.now.quantum) (sym view) c.requires.can in
    let within = slice_get_within w.tasks c.args.cpu _ can.serves in
    omega arith

pub returns-in-Ok-settle : goal.returns-in-Ok-settle
returns-in-Ok-settle g c =
    let w : WorldState = record { stock = c.self.inside.stock; names = c.self.inside.names.items; owners = c.self.inside.owners.items; caches = c.self.inside.caches.items; hands = c.self.inside.hands.items; tasks = c.self.inside.tasks.items; failed = c.self.inside.failed.items; book = c.self.inside.book; entries = entries_of c.self.inside.log.items; clients = c.self.inside.clients.items; requests = c.self.inside.requests.items; replies = c.self.inside.replies.items } in
    let view : w ≡ c.args.self.now = c.self.view_is in
    let can = subst (λ (x : WorldState). CanGrant x c.args.cpu c.args.grant.now.id c.args.grant.now.lease c.args.grant.now.segment c.args.grant.now.quantum) (sym view) c.requires.can in
    let held : Some (Some c.take-segment.result) ≡ Some (Some c.args.grant.now.segment) = sym c.take-segment.ensures.held ∙ can.holds in
    let same : c.take-segment.result ≡ c.args.grant.now.segment = cc in
    let v : WorldState = record w { hands = c.take-segment.new.hands.items; tasks = set w.tasks c.args.cpu None; book = c.settle.new.self; entries = entries_of c.push_reserved.new.self.items; replies = c.push_reserved-in-Ok-settle.new.self.items } in
    let move = grants w c.args.cpu c.args.grant.now.id c.args.grant.now.lease c.args.grant.now.segment c.take-segment.result c.args.grant.now.quantum c.demand-request.result c.settle.new.self c.in-Ok-settle.receipt c.reply.result c.reply_to.result
    c.take-segment.new.hands.items (set w.tasks c.args.cpu None) (entries_of c.push_reserved.new.self.items) c.push_reserved-in-Ok-settle.new.self.items can same c.demand-request.ensures c.in-Ok-settle.ensures.granted c.reply.ensures.value
    (c.reply_to.ensures ∙ ap (λ (names : List (List ℕ)). reply_to (arena_name names) c.args.grant.now.id c.reply.result) c.deref.ensures.value)
    c.take-segment.ensures.emptied refl (logged_on _ _ _ (onto _ _ _ _ c.push_reserved.ensures.items c.reserve.ensures.items)) (onto _ _ _ _ c.push_reserved-in-Ok-settle.ensures.items c.reserve-2.ensures.items) in
    inl (subst (λ (x : WorldState). TaskGranted c.args.cpu x v) view move)

pub put-requires : goal.put-requires
put-requires g c =
    let w : WorldState = record { stock = c.self.inside.stock; names = c.self.inside.names.items; owners = c.self.inside.owners.items; caches = c.self.inside.caches.items; hands = c.self.inside.hands.items; tasks = c.self.inside.tasks.items; failed = c.self.inside.failed.items; book = c.self.inside.book; entries = entries_of c.self.inside.log.items; clients = c.self.inside.clients.items; requests = c.self.inside.requests.items; replies = c.self.inside.replies.items } in
    let view : w ≡ c.args.self.now = c.self.view_is in
    let can = subst (λ (x : WorldState). CanGrant x c.args.cpu c.args.grant.now.id c.args.grant.now.lease c.args.grant.now.segment c.args.grant.now.quantum) (sym view) c.requires.can in
    let within = slice_get_within w.hands c.args.cpu _ can.holds in
    record { empty = ap (λ hands. slice_get hands c.args.cpu) c.take-segment.ensures.emptied ∙ slice_get-set w.hands c.args.cpu None within }

pub index_mut-requires-in-Refused : goal.index_mut-requires-in-Refused
index_mut-requires-in-Refused g c =
    let w : WorldState = record { stock = c.self.inside.stock; names = c.self.inside.names.items; owners = c.self.inside.owners.items; caches = c.self.inside.caches.items; hands = c.self.inside.hands.items; tasks = c.self.inside.tasks.items; failed = c.self.inside.failed.items; book = c.self.inside.book; entries = entries_of c.self.inside.log.items; clients = c.self.inside.clients.items; requests = c.self.inside.requests.items; replies = c.self.inside.replies.items } in
    let view : w ≡ c.args.self.now = c.self.view_is in
    let can = subst (λ (x : WorldState). CanGrant x c.args.cpu c.args.grant.now.id c.args.grant.now.lease c.args.grant.now.segment c.args.grant.now.quantum) (sym view) c.requires.can in
    let within = slice_get_within w.tasks c.args.cpu _ can.serves in
    omega arith

pub returns-in-Refused : goal.returns-in-Refused
returns-in-Refused g c =
    let w : WorldState = record { stock = c.self.inside.stock; names = c.self.inside.names.items; owners = c.self.inside.owners.items; caches = c.self.inside.caches.items; hands = c.self.inside.hands.items; tasks = c.self.inside.tasks.items; failed = c.self.inside.failed.items; book = c.self.inside.book; entries = entries_of c.self.inside.log.items; clients = c.self.inside.clients.items; requests = c.self.inside.requests.items; replies = c.self.inside.replies.items } in
    let view : w ≡ c.args.self.now = c.self.view_is in
    let can = subst (λ (x : WorldState). CanGrant x c.args.cpu c.args.grant.now.id c.args.grant.now.lease c.args.grant.now.segment c.args.grant.now.quantum) (sym view) c.requires.can in
    let held : Some (Some c.take-segment.result) ≡ Some (Some c.args.grant.now.segment) = sym c.take-segment.ensures.held ∙ can.holds in
    let same : c.take-segment.result ≡ c.args.grant.now.segment = cc in
    let back = put_back w.hands c.args.cpu c.args.grant.now.segment c.in-Err.not_leased.segment c.take-segment.new.hands.items c.put.new.hands.items can.holds c.take-segment.ensures.emptied c.put.ensures (c.in-Err.ensures.handed_back ∙ same) in
    let told = rw c.in-Refused.is at c.in-Err.ensures.answer in
    let v : WorldState = record w { hands = c.put.new.hands.items; tasks = set w.tasks c.args.cpu None; book = c.settle.new.self; entries = entries_of c.push_reserved-in-Refused.new.self.items; replies = c.push_reserved-in-Refused-2.new.self.items } in
    let move = refuses w c.args.cpu c.args.grant.now.id _ Leases c.settle.new.self _ c.put.new.hands.items (set w.tasks c.args.cpu None) (entries_of c.push_reserved-in-Refused.new.self.items) c.push_reserved-in-Refused-2.new.self.items
    can.serves told.0 back refl (logged_on _ _ _ (onto _ _ _ _ c.push_reserved-in-Refused.ensures.items c.reserve.ensures.items)) (onto _ _ _ _ c.push_reserved-in-Refused-2.ensures.items c.reserve-2.ensures.items) in
    let all = all_leases w c.args.cpu c.args.grant.now.id _ can.serves told.1 in
    inr (subst (λ (x : WorldState). TaskRefused c.args.cpu Leases x v) view move, subst (λ (x : WorldState). HasAllLeases x c.args.cpu) view all)

pub returns-in-Again : goal.returns-in-Again
returns-in-Again g c =
    let w : WorldState = record { stock = c.self.inside.stock; names = c.self.inside.names.items; owners = c.self.inside.owners.items; caches = c.self.inside.caches.items; hands = c.self.inside.hands.items; tasks = c.self.inside.tasks.items; failed = c.self.inside.failed.items; book = c.self.inside.book; entries = entries_of c.self.inside.log.items; clients = c.self.inside.clients.items; requests = c.self.inside.requests.items; replies = c.self.inside.replies.items } in
    let view : w ≡ c.args.self.now = c.self.view_is in
    let can = subst (λ (x : WorldState). CanGrant x c.args.cpu c.args.grant.now.id c.args.grant.now.lease c.args.grant.now.segment c.args.grant.now.quantum) (sym view) c.requires.can in
    let held : Some (Some c.take-segment.result) ≡ Some (Some c.args.grant.now.segment) = sym c.take-segment.ensures.held ∙ can.holds in
    let same : c.take-segment.result ≡ c.args.grant.now.segment = cc in
    let back = put_back w.hands c.args.cpu c.args.grant.now.segment c.in-Err.not_leased.segment c.take-segment.new.hands.items c.put.new.hands.items can.holds c.take-segment.ensures.emptied c.put.ensures (c.in-Err.ensures.handed_back ∙ same) in
    let told = rw c.in-Again.is at c.in-Err.ensures.answer in
    let kept = told.1 in
    (λ j. record w { hands = back j; book = kept j; entries = entries_of (c.reserve.ensures.items j); replies = c.reserve-2.ensures.items j }) ∙ view
