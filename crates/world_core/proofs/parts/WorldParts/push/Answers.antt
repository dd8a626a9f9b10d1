use Rattle.std.proofs.Common.{◌≡◌, Some, set, sym, subst}
use Rattle.std.specs.Prelude.{slice_get}
use Rattle.std.proofs.lemmas.Option.{slice_get_within}
use Rattle.deed_core.proofs.LawProofs.{slice_get_here}
use Rattle.stock.specs.OwnCaches.{OwnCacheState}
use Rattle.world_core.specs.WorldState.{WorldState, entries_of}
use Rattle.world_core.specs.IsWorld.{IsWorld}
use Rattle.world_core.specs.Moves.{TakesHand}
use Rattle.world_core.specs.Events.{EndsAs}
use Rattle.world_core.specs.declared.events.WorldEvent.TheVariants as events
use Rattle.world_core.specs.declared.events.Outcome.TheVariants.{Done, NotEnabled}
use Rattle.world_core.proofs.OwnLemmas.{found_taking, pushes_chunk, pushes_none}
use Rattle.deed_core.specs.Tag.{Tag}
use Rattle.world_core.proofs.parts.WorldParts.push.Goals as goal

pub push-pushed-requires : goal.push-pushed-requires
push-pushed-requires g c =
    let w : WorldState = record { stock = c.self.inside.stock; names = c.self.inside.names.items; hands = c.self.inside.hands.items; tasks = c.self.inside.tasks.items; failed = c.self.inside.failed.items; owners = c.self.inside.owners.items; caches = c.self.inside.caches.items; book = c.self.inside.book; entries = entries_of c.self.inside.log.items; clients = c.self.inside.clients.items; requests = c.self.inside.requests.items; replies = c.self.inside.replies.items } in
    let view : w ≡ c.args.self.now = c.self.view_is in
    let world : IsWorld w = subst IsWorld (sym view) c.requires.world in
    let own : OwnCacheState = c.index_mut-own.result.now in
    let t : Tag = c.take-chunk.result in
    let found = subst (λ (x : WorldState). (o : OwnCacheState) × (u : Tag) × TakesHand x c.args.cpu c.in-Some.index o u) (sym view) c.in-Some.ensures.some in
    let at : slice_get w.caches c.in-Some.index ≡ Some own = slice_get_here w.caches c.in-Some.index own (slice_get_within w.caches c.in-Some.index found.0 found.2.mine.at) c.index_mut-own.ensures.value in
    let takes : TakesHand w c.args.cpu c.in-Some.index own t = found_taking w c.args.cpu c.in-Some.index own t found at c.take-chunk.ensures.held in
    record { chunk = takes.takes }

pub returns-in-Ok : goal.returns-in-Ok
returns-in-Ok g c =
    let w : WorldState = record { stock = c.self.inside.stock; names = c.self.inside.names.items; hands = c.self.inside.hands.items; tasks = c.self.inside.tasks.items; failed = c.self.inside.failed.items; owners = c.self.inside.owners.items; caches = c.self.inside.caches.items; book = c.self.inside.book; entries = entries_of c.self.inside.log.items; clients = c.self.inside.clients.items; requests = c.self.inside.requests.items; replies = c.self.inside.replies.items } in
    let view : w ≡ c.args.self.now = c.self.view_is in
    let world : IsWorld w = subst IsWorld (sym view) c.requires.world in
    let own : OwnCacheState = c.index_mut-own.result.now in
    let t : Tag = c.take-chunk.result in
    let found = subst (λ (x : WorldState). (o : OwnCacheState) × (u : Tag) × TakesHand x c.args.cpu c.in-Some.index o u) (sym view) c.in-Some.ensures.some in
    let at : slice_get w.caches c.in-Some.index ≡ Some own = slice_get_here w.caches c.in-Some.index own (slice_get_within w.caches c.in-Some.index found.0 found.2.mine.at) c.index_mut-own.ensures.value in
    let takes : TakesHand w c.args.cpu c.in-Some.index own t = found_taking w c.args.cpu c.in-Some.index own t found at c.take-chunk.ensures.held in
    let next : OwnCacheState = c.push-pushed.new.self in
    let v : WorldState = record w { hands = c.take-chunk.new.hands.items; caches = set w.caches c.in-Some.index next } in
    subst (λ x. EndsAs (events.Pushes c.args.cpu) Done x v) view
    (pushes_chunk w c.args.cpu c.in-Some.index own next t world takes c.in-Ok.ensures.index _ _ c.in-Ok.ensures.pushed c.in-Ok.ensures.weights c.indexes.ensures.own c.size.ensures.shape c.take-chunk.ensures.emptied (λ j. set w.caches c.in-Some.index next))

pub returns-in-Err : goal.returns-in-Err
returns-in-Err g c =
    let w : WorldState = record { stock = c.self.inside.stock; names = c.self.inside.names.items; hands = c.self.inside.hands.items; tasks = c.self.inside.tasks.items; failed = c.self.inside.failed.items; owners = c.self.inside.owners.items; caches = c.self.inside.caches.items; book = c.self.inside.book; entries = entries_of c.self.inside.log.items; clients = c.self.inside.clients.items; requests = c.self.inside.requests.items; replies = c.self.inside.replies.items } in
    let view : w ≡ c.args.self.now = c.self.view_is in
    let world : IsWorld w = subst IsWorld (sym view) c.requires.world in
    let own : OwnCacheState = c.index_mut-own.result.now in
    let t : Tag = c.take-chunk.result in
    let found = subst (λ (x : WorldState). (o : OwnCacheState) × (u : Tag) × TakesHand x c.args.cpu c.in-Some.index o u) (sym view) c.in-Some.ensures.some in
    let at : slice_get w.caches c.in-Some.index ≡ Some own = slice_get_here w.caches c.in-Some.index own (slice_get_within w.caches c.in-Some.index found.0 found.2.mine.at) c.index_mut-own.ensures.value in
    let takes : TakesHand w c.args.cpu c.in-Some.index own t = found_taking w c.args.cpu c.in-Some.index own t found at c.take-chunk.ensures.held in
    let next : OwnCacheState = c.push-pushed.new.self in
    let v : WorldState = record w { hands = c.put.new.hands.items; caches = set w.caches c.in-Some.index next } in
    subst (λ x. EndsAs (events.Pushes c.args.cpu) NotEnabled x v) view
    (pushes_none w c.args.cpu c.in-Some.index own next t world takes c.in-Err.ensures.index _ c.take-chunk.new.hands.items _ _ c.in-Err.ensures.pushed c.take-chunk.ensures.emptied c.put.ensures (λ j. set w.caches c.in-Some.index next))
