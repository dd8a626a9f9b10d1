use Rattle.std.proofs.Common.{◌≡◌, ℕ, arith, Some, set, sym, subst, ap, ◌∙◌}
use Rattle.std.specs.Prelude.{slice_get}
use Rattle.std.proofs.lemmas.Option.{slice_get_within}
use Rattle.deed_core.proofs.LawProofs.{slice_get_here}
use Rattle.magazine_layer.specs.Magazines.{MagazineState, after_change}
use Rattle.stock.specs.OwnCaches.{OwnCacheState}
use Rattle.world_core.specs.WorldState.{WorldState, entries_of}
use Rattle.world_core.specs.IsWorld.{IsWorld}
use Rattle.world_core.specs.Moves.{IsOwnFor}
use Rattle.world_core.specs.Events.{EndsAs, HasDepot, CanGrowTo}
use Rattle.world_core.specs.declared.events.WorldEvent.TheVariants as events
use Rattle.world_core.specs.declared.events.Outcome.TheVariants.{Done}
use Rattle.world_core.proofs.OwnLemmas.{found_own}
use Rattle.world_core.proofs.SwapLemmas.{grows, changes, has_room}
use Rattle.world_core.proofs.parts.WorldParts.change.Goals as goal

pub change-requires-clause-room : goal.change-requires-clause-room
change-requires-clause-room g c =
    let w : WorldState = record { stock = c.self.inside.stock; names = c.self.inside.names.items; hands = c.self.inside.hands.items; tasks = c.self.inside.tasks.items; failed = c.self.inside.failed.items; owners = c.self.inside.owners.items; caches = c.self.inside.caches.items; book = c.self.inside.book; entries = entries_of c.self.inside.log.items; clients = c.self.inside.clients.items; requests = c.self.inside.requests.items; replies = c.self.inside.replies.items } in
    let view : w ≡ c.args.self.now = c.self.view_is in
    let world : IsWorld w = subst IsWorld (sym view) c.requires.world in
    let own : OwnCacheState = c.index_mut-own.result.now in
    let found = subst (λ (x : WorldState). (o : OwnCacheState) × IsOwnFor x c.args.cpu c.args.arena c.args.cache c.in-Some.index o) (sym view) c.in-Some.ensures.some in
    let at : slice_get w.caches c.in-Some.index ≡ Some own = slice_get_here w.caches c.in-Some.index own (slice_get_within w.caches c.in-Some.index found.0 found.1.mine.at) c.index_mut-own.ensures.value in
    let here : IsOwnFor w c.args.cpu c.args.arena c.args.cache c.in-Some.index own = found_own w c.args.cpu c.args.arena c.args.cache c.in-Some.index own found at in
    let ready : HasDepot w c.args.cpu c.args.arena c.args.cache (CanGrowTo c.args.size) = subst (λ (x : WorldState). HasDepot x c.args.cpu c.args.arena c.args.cache (CanGrowTo c.args.size)) (sym view) c.in-Some.ensures.ready in
    let can = grows w c.args.cpu c.args.arena c.args.cache c.in-Some.index own world here c.args.size ready in
    let size : c.in-Ok.loaded.size ≡ c.args.size = ap (λ (m : MagazineState). m.size) c.in-Ok.ensures.first in
    omega (arith, size, has_room own.cpu c.args.size (world.shaped c.in-Some.index own at) can.0 can.1)

pub returns : goal.returns
returns g c =
    let w : WorldState = record { stock = c.self.inside.stock; names = c.self.inside.names.items; hands = c.self.inside.hands.items; tasks = c.self.inside.tasks.items; failed = c.self.inside.failed.items; owners = c.self.inside.owners.items; caches = c.self.inside.caches.items; book = c.self.inside.book; entries = entries_of c.self.inside.log.items; clients = c.self.inside.clients.items; requests = c.self.inside.requests.items; replies = c.self.inside.replies.items } in
    let view : w ≡ c.args.self.now = c.self.view_is in
    let world : IsWorld w = subst IsWorld (sym view) c.requires.world in
    let own : OwnCacheState = c.index_mut-own.result.now in
    let found = subst (λ (x : WorldState). (o : OwnCacheState) × IsOwnFor x c.args.cpu c.args.arena c.args.cache c.in-Some.index o) (sym view) c.in-Some.ensures.some in
    let at : slice_get w.caches c.in-Some.index ≡ Some own = slice_get_here w.caches c.in-Some.index own (slice_get_within w.caches c.in-Some.index found.0 found.1.mine.at) c.index_mut-own.ensures.value in
    let here : IsOwnFor w c.args.cpu c.args.arena c.args.cache c.in-Some.index own = found_own w c.args.cpu c.args.arena c.args.cache c.in-Some.index own found at in
    let ready : HasDepot w c.args.cpu c.args.arena c.args.cache (CanGrowTo c.args.size) = subst (λ (x : WorldState). HasDepot x c.args.cpu c.args.arena c.args.cache (CanGrowTo c.args.size)) (sym view) c.in-Some.ensures.ready in
    let can = grows w c.args.cpu c.args.arena c.args.cache c.in-Some.index own world here c.args.size ready in
    let size : c.in-Ok.loaded.size ≡ c.args.size = ap (λ (m : MagazineState). m.size) c.in-Ok.ensures.first in
    let next : OwnCacheState = c.change.new.self in
    let changed : next.cpu ≡ after_change c.args.size own.cpu = c.change.ensures.changed ∙ ap (λ (n : ℕ). after_change n own.cpu) size in
    let v : WorldState = record w { caches = set w.caches c.in-Some.index next } in
    subst (λ x. EndsAs (events.Changes c.args.cpu c.args.arena c.args.cache c.args.size) Done x v) view
    (changes w c.args.cpu c.args.arena c.args.cache c.in-Some.index own world here c.args.size next _ ready changed c.change.ensures.weights c.change.ensures.index c.indexes.ensures.own c.size.ensures.shape (λ j. set w.caches c.in-Some.index next))
