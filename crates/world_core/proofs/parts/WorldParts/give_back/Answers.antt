use Rattle.std.proofs.Common.{◌≡◌, sym, subst, refl, None, set, inl, inr}
use Rattle.lease_terms.specs.declared.refusals.Refusal.TheVariants.{NotYours}
use Rattle.world_core.specs.WorldState.{WorldState, entries_of}
use Rattle.world_core.specs.IsWorld.{IsWorld}
use Rattle.world_core.specs.Moves.{TaskReleased, TaskRefused, HasNoSuchLease}
use Rattle.world_core.specs.Events.{CanRelease}
use Rattle.world_core.proofs.PartLemmas.{onto, logged_on}
use Rattle.world_core.proofs.BookLemmas.{releases, refuses, no_such_lease}
use Rattle.world_core.proofs.parts.WorldParts.give_back.Goals as goal

pub returns-in-Ok-release : goal.returns-in-Ok-release
returns-in-Ok-release g c =
    let w : WorldState = record { stock = c.self.inside.stock; names = c.self.inside.names.items; owners = c.self.inside.owners.items; caches = c.self.inside.caches.items; hands = c.self.inside.hands.items; tasks = c.self.inside.tasks.items; failed = c.self.inside.failed.items; book = c.self.inside.book; entries = entries_of c.self.inside.log.items; clients = c.self.inside.clients.items; requests = c.self.inside.requests.items; replies = c.self.inside.replies.items } in
    let view : w ≡ c.args.self.now = c.self.view_is in
    let can = subst (λ (x : WorldState). CanRelease x c.args.cpu c.args.release.now.id c.args.release.now.line c.args.release.now.arena) (sym view) c.requires.can in
    let v : WorldState = record w { hands = c.put.new.hands.items; tasks = set w.tasks c.args.cpu None; book = c.release.new.self; entries = entries_of c.push_reserved.new.self.items; replies = c.push_reserved-in-Ok-release.new.self.items } in
    let move = releases w c.args.cpu c.args.release.now.id c.args.release.now.line c.args.release.now.arena _ c.release.new.self _ c.put.new.hands.items (set w.tasks c.args.cpu None) (entries_of c.push_reserved.new.self.items) c.push_reserved-in-Ok-release.new.self.items
    can c.in-Ok-release.ensures.released c.put.ensures refl (logged_on _ _ _ (onto _ _ _ _ c.push_reserved.ensures.items c.reserve.ensures.items)) (onto _ _ _ _ c.push_reserved-in-Ok-release.ensures.items c.reserve-2.ensures.items) in
    inl (subst (λ (x : WorldState). TaskReleased c.args.cpu x v) view move)

pub returns-in-Refused : goal.returns-in-Refused
returns-in-Refused g c =
    let w : WorldState = record { stock = c.self.inside.stock; names = c.self.inside.names.items; owners = c.self.inside.owners.items; caches = c.self.inside.caches.items; hands = c.self.inside.hands.items; tasks = c.self.inside.tasks.items; failed = c.self.inside.failed.items; book = c.self.inside.book; entries = entries_of c.self.inside.log.items; clients = c.self.inside.clients.items; requests = c.self.inside.requests.items; replies = c.self.inside.replies.items } in
    let view : w ≡ c.args.self.now = c.self.view_is in
    let can = subst (λ (x : WorldState). CanRelease x c.args.cpu c.args.release.now.id c.args.release.now.line c.args.release.now.arena) (sym view) c.requires.can in
    let world = subst IsWorld (sym view) c.requires.world in
    let told = rw c.in-Refused.is at c.in-Err.ensures.answer in
    let v : WorldState = record w { tasks = set w.tasks c.args.cpu None; book = c.release.new.self; entries = entries_of c.push_reserved-in-Refused.new.self.items; replies = c.push_reserved-in-Refused-2.new.self.items } in
    let move = refuses w c.args.cpu c.args.release.now.id _ NotYours c.release.new.self _ w.hands (set w.tasks c.args.cpu None) (entries_of c.push_reserved-in-Refused.new.self.items) c.push_reserved-in-Refused-2.new.self.items
    can.serves told.0 refl refl (logged_on _ _ _ (onto _ _ _ _ c.push_reserved-in-Refused.ensures.items c.reserve.ensures.items)) (onto _ _ _ _ c.push_reserved-in-Refused-2.ensures.items c.reserve-2.ensures.items) in
    let without = no_such_lease w c.args.cpu c.args.release.now.id c.args.release.now.line c.args.release.now.arena world can told.1 in
    inr (subst (λ (x : WorldState). TaskRefused c.args.cpu NotYours x v) view move, subst (λ (x : WorldState). HasNoSuchLease x c.args.cpu) view without)
