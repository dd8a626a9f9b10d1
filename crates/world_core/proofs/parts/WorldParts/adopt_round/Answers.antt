use Rattle.std.proofs.Common.{◌≡◌, ◌<◌, None, Some, set, length, sym, subst, ap, ◌∙◌, arith}
use Rattle.std.specs.Prelude.{slice_get}
use Rattle.std.proofs.lemmas.Option.{slice_get_within}
use Rattle.deed_core.proofs.LawProofs.{slice_get_here, slice_get_one}
use Rattle.deed_core.specs.Tag.{Tag}
use Rattle.stock.specs.OwnCaches.{OwnCacheState}
use Rattle.world_core.specs.WorldState.{WorldState, entries_of}
use Rattle.world_core.specs.Moves.{IsFirstWithRound}
use Rattle.world_core.specs.Events.{EndsAs, HasInHand}
use Rattle.world_core.specs.declared.events.WorldEvent.TheVariants as events
use Rattle.world_core.specs.declared.events.Outcome.TheVariants.{Done}
use Rattle.world_core.proofs.AdoptLemmas.{adopts_round}
use Rattle.world_core.proofs.parts.WorldParts.adopt_round.Goals as goal

pub returns-in-Some-popped : goal.returns-in-Some-popped
returns-in-Some-popped g c =
    let w : WorldState = record { stock = c.self.inside.stock; names = c.self.inside.names.items; hands = c.self.inside.hands.items; tasks = c.self.inside.tasks.items; failed = c.self.inside.failed.items; owners = c.self.inside.owners.items; caches = c.self.inside.caches.items; book = c.self.inside.book; entries = entries_of c.self.inside.log.items; clients = c.self.inside.clients.items; requests = c.self.inside.requests.items; replies = c.self.inside.replies.items } in
    let view : w ≡ c.args.self.now = c.self.view_is in
    let empty : HasInHand w c.args.cpu None = ap (λ (x : WorldState). slice_get x.hands c.args.cpu) view ∙ c.requires.empty in
    let within : c.args.other < length w.failed = omega (arith, ap (λ (x : WorldState). length x.failed) view, c.requires.within) in
    let own : OwnCacheState = c.index_mut-own.result.now in
    let found = subst (λ (x : WorldState). (o : OwnCacheState) × IsFirstWithRound x c.args.other c.in-Some.index o) (sym view) c.in-Some.ensures.some in
    let at : slice_get w.caches c.in-Some.index ≡ Some own = slice_get_here w.caches c.in-Some.index own (slice_get_within w.caches c.in-Some.index found.0 found.1.has.mine.at) c.index_mut-own.ensures.value in
    let first : IsFirstWithRound w c.args.other c.in-Some.index own = subst (λ (o : OwnCacheState). IsFirstWithRound w c.args.other c.in-Some.index o) (slice_get_one w.caches c.in-Some.index found.0 own found.1.has.mine.at at) found.1 in
    let none : (t : Tag) → ¬ HasInHand w c.args.other (Some t) = λ t held. c.requires.none t (ap (λ (x : WorldState). slice_get x.hands c.args.other) (sym view) ∙ held) in
    let next : OwnCacheState = c.pop-popped.new.self in
    subst (λ x. EndsAs (events.Adopts c.args.cpu c.args.other) Done x c.fail.new.self) view
    (adopts_round w c.args.cpu c.args.other c.requires.apart within empty c.in-Some.index own next c.in-Some-popped.round _ _ c.fail.new.self none first c.in-Some-popped.ensures.index c.in-Some-popped.ensures.popped c.in-Some-popped.ensures.weights c.indexes.ensures.own c.size.ensures.shape c.put.ensures (λ j. set w.caches c.in-Some.index next) c.fail.ensures)

pub unreachable-requires : goal.unreachable-requires
unreachable-requires g c =
    let w : WorldState = record { stock = c.self.inside.stock; names = c.self.inside.names.items; hands = c.self.inside.hands.items; tasks = c.self.inside.tasks.items; failed = c.self.inside.failed.items; owners = c.self.inside.owners.items; caches = c.self.inside.caches.items; book = c.self.inside.book; entries = entries_of c.self.inside.log.items; clients = c.self.inside.clients.items; requests = c.self.inside.requests.items; replies = c.self.inside.replies.items } in
    let view : w ≡ c.args.self.now = c.self.view_is in
    let own : OwnCacheState = c.index_mut-own.result.now in
    let found = subst (λ (x : WorldState). (o : OwnCacheState) × IsFirstWithRound x c.args.other c.in-Some.index o) (sym view) c.in-Some.ensures.some in
    let at : slice_get w.caches c.in-Some.index ≡ Some own = slice_get_here w.caches c.in-Some.index own (slice_get_within w.caches c.in-Some.index found.0 found.1.has.mine.at) c.index_mut-own.ensures.value in
    let first : IsFirstWithRound w c.args.other c.in-Some.index own = subst (λ (o : OwnCacheState). IsFirstWithRound w c.args.other c.in-Some.index o) (slice_get_one w.caches c.in-Some.index found.0 own found.1.has.mine.at at) found.1 in
    absurd (first.has.some c.in-None.ensures.popped.0)
