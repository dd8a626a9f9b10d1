use Rattle.std.proofs.Common.{◌≡◌, None, Some, set, sym, subst, ap, ◌∙◌, rules}
use Rattle.std.specs.Prelude.{slice_get}
use Rattle.std.proofs.lemmas.Option.{slice_get_within}
use Rattle.deed_core.proofs.LawProofs.{slice_get_here}
use Rattle.stock.specs.OwnCaches.{OwnCacheState}
use Rattle.world_core.specs.WorldState.{WorldState, entries_of}
use Rattle.world_core.specs.IsWorld.{IsWorld}
use Rattle.world_core.specs.Moves.{IsOwnFor}
use Rattle.world_core.specs.Events.{EndsAs, HasInHand}
use Rattle.world_core.specs.declared.events.WorldEvent.TheVariants as events
use Rattle.world_core.specs.declared.events.Outcome.TheVariants.{Done, NotEnabled}
use Rattle.world_core.proofs.OwnLemmas.{found_own, pops_round, pops_none}
use Rattle.world_core.proofs.parts.WorldParts.pop.Goals as goal

pub returns-in-Some-popped : goal.returns-in-Some-popped
returns-in-Some-popped g c =
    let w : WorldState = record { stock = c.self.inside.stock; names = c.self.inside.names.items; hands = c.self.inside.hands.items; tasks = c.self.inside.tasks.items; failed = c.self.inside.failed.items; owners = c.self.inside.owners.items; caches = c.self.inside.caches.items; book = c.self.inside.book; entries = entries_of c.self.inside.log.items; clients = c.self.inside.clients.items; requests = c.self.inside.requests.items; replies = c.self.inside.replies.items } in
    let view : w ≡ c.args.self.now = c.self.view_is in
    let world : IsWorld w = subst IsWorld (sym view) c.requires.world in
    let empty : HasInHand w c.args.cpu None = (let e : HasInHand c.args.self.now c.args.cpu None = search rules in ap (λ (x : WorldState). slice_get x.hands c.args.cpu) view ∙ e) in
    let own : OwnCacheState = c.index_mut-own.result.now in
    let found = subst (λ (x : WorldState). (o : OwnCacheState) × IsOwnFor x c.args.cpu c.args.arena c.args.cache c.in-Some.index o) (sym view) c.in-Some.ensures.some in
    let at : slice_get w.caches c.in-Some.index ≡ Some own = slice_get_here w.caches c.in-Some.index own (slice_get_within w.caches c.in-Some.index found.0 found.1.mine.at) c.index_mut-own.ensures.value in
    let here : IsOwnFor w c.args.cpu c.args.arena c.args.cache c.in-Some.index own = found_own w c.args.cpu c.args.arena c.args.cache c.in-Some.index own found at in
    let next : OwnCacheState = c.pop-popped.new.self in
    let v : WorldState = record w { hands = c.put.new.hands.items; caches = set w.caches c.in-Some.index next } in
    subst (λ x. EndsAs (events.Pops c.args.cpu c.args.arena c.args.cache) Done x v) view
    (pops_round w c.args.cpu c.args.arena c.args.cache c.in-Some.index own next world empty here c.in-Some-popped.ensures.index c.in-Some-popped.round _ _ c.in-Some-popped.ensures.popped c.in-Some-popped.ensures.weights c.indexes.ensures.own c.size.ensures.shape c.put.ensures (λ j. set w.caches c.in-Some.index next))

pub returns-in-None : goal.returns-in-None
returns-in-None g c =
    let w : WorldState = record { stock = c.self.inside.stock; names = c.self.inside.names.items; hands = c.self.inside.hands.items; tasks = c.self.inside.tasks.items; failed = c.self.inside.failed.items; owners = c.self.inside.owners.items; caches = c.self.inside.caches.items; book = c.self.inside.book; entries = entries_of c.self.inside.log.items; clients = c.self.inside.clients.items; requests = c.self.inside.requests.items; replies = c.self.inside.replies.items } in
    let view : w ≡ c.args.self.now = c.self.view_is in
    let world : IsWorld w = subst IsWorld (sym view) c.requires.world in
    let empty : HasInHand w c.args.cpu None = (let e : HasInHand c.args.self.now c.args.cpu None = search rules in ap (λ (x : WorldState). slice_get x.hands c.args.cpu) view ∙ e) in
    let own : OwnCacheState = c.index_mut-own.result.now in
    let found = subst (λ (x : WorldState). (o : OwnCacheState) × IsOwnFor x c.args.cpu c.args.arena c.args.cache c.in-Some.index o) (sym view) c.in-Some.ensures.some in
    let at : slice_get w.caches c.in-Some.index ≡ Some own = slice_get_here w.caches c.in-Some.index own (slice_get_within w.caches c.in-Some.index found.0 found.1.mine.at) c.index_mut-own.ensures.value in
    let here : IsOwnFor w c.args.cpu c.args.arena c.args.cache c.in-Some.index own = found_own w c.args.cpu c.args.arena c.args.cache c.in-Some.index own found at in
    let next : OwnCacheState = c.pop-popped.new.self in
    let v : WorldState = record w { caches = set w.caches c.in-Some.index next } in
    subst (λ x. EndsAs (events.Pops c.args.cpu c.args.arena c.args.cache) NotEnabled x v) view
    (pops_none w c.args.cpu c.args.arena c.args.cache c.in-Some.index own next world empty here c.in-None.ensures.index _ c.in-None.ensures.popped (λ j. set w.caches c.in-Some.index next))
