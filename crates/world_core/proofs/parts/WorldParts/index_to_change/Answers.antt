use Rattle.std.proofs.Common.{◌≡◌, Some, refl, sym, subst, arith}
use Rattle.std.specs.Prelude.{slice_get}
use Rattle.std.proofs.lemmas.Option.{slice_get_within}
use Rattle.deed_core.proofs.LawProofs.{slice_get_here}
use Rattle.magazine_layer.specs.Magazines.{IsSize}
use Rattle.stock.specs.OwnCaches.{OwnCacheState}
use Rattle.world_core.specs.WorldState.{WorldState, entries_of}
use Rattle.world_core.specs.IsWorld.{IsWorld}
use Rattle.world_core.specs.Moves.{IsOwnFor}
use Rattle.world_core.specs.Events.{HasDepot, CanGrowTo}
use Rattle.world_core.proofs.OwnLemmas.{found_own}
use Rattle.world_core.proofs.SwapLemmas.{may_change, may_not_shrink, may_not_pass}
use Rattle.world_core.proofs.parts.WorldParts.index_to_change.Goals as goal
use Rattle.world_core.proofs.parts.WorldParts.index_to_change.Goals.{then-size-via-then-size, then-size-via-else-size+then-depot_size-size}

pub returns-then-size-clause-none : goal.returns-then-size-clause-none
returns-then-size-clause-none g c =
    let w : WorldState = record { stock = c.self.inside.stock; names = c.self.inside.names.items; hands = c.self.inside.hands.items; tasks = c.self.inside.tasks.items; failed = c.self.inside.failed.items; owners = c.self.inside.owners.items; caches = c.self.inside.caches.items; book = c.self.inside.book; entries = entries_of c.self.inside.log.items; clients = c.self.inside.clients.items; requests = c.self.inside.requests.items; replies = c.self.inside.replies.items } in
    let view : w ≡ c.args.self.now = c.self.view_is in
    let world : IsWorld w = subst IsWorld (sym view) c.requires.world in
    let own : OwnCacheState = c.index-own.result.now in
    let found = subst (λ (x : WorldState). (o : OwnCacheState) × IsOwnFor x c.args.cpu c.args.arena c.args.cache c.in_ok-index.index o) (sym view) c.in_ok-index.ensures.some in
    let at : slice_get w.caches c.in_ok-index.index ≡ Some own = slice_get_here w.caches c.in_ok-index.index own (slice_get_within w.caches c.in_ok-index.index found.0 found.1.mine.at) c.index-own.ensures in
    let here : IsOwnFor w c.args.cpu c.args.arena c.args.cache c.in_ok-index.index own = found_own w c.args.cpu c.args.arena c.args.cache c.in_ok-index.index own found at in
    subst (λ (x : WorldState). ¬ HasDepot x c.args.cpu c.args.arena c.args.cache (CanGrowTo c.args.size)) view
    (elim c.then-size.branch [
      | then-size-via-then-size u ↦ may_not_shrink w c.args.cpu c.args.arena c.args.cache c.in_ok-index.index own world here c.args.size (omega (arith, c.size.ensures.value))
      | then-size-via-else-size+then-depot_size-size u ↦ may_not_pass w c.args.cpu c.args.arena c.args.cache c.in_ok-index.index own world here c.args.size u.depot_size.result u.depot_size.ensures (omega arith)
    ])

pub returns-clause-ready : goal.returns-clause-ready
returns-clause-ready g c =
    let w : WorldState = record { stock = c.self.inside.stock; names = c.self.inside.names.items; hands = c.self.inside.hands.items; tasks = c.self.inside.tasks.items; failed = c.self.inside.failed.items; owners = c.self.inside.owners.items; caches = c.self.inside.caches.items; book = c.self.inside.book; entries = entries_of c.self.inside.log.items; clients = c.self.inside.clients.items; requests = c.self.inside.requests.items; replies = c.self.inside.replies.items } in
    let view : w ≡ c.args.self.now = c.self.view_is in
    let world : IsWorld w = subst IsWorld (sym view) c.requires.world in
    let own : OwnCacheState = c.index-own.result.now in
    let found = subst (λ (x : WorldState). (o : OwnCacheState) × IsOwnFor x c.args.cpu c.args.arena c.args.cache c.in_ok-index.index o) (sym view) c.in_ok-index.ensures.some in
    let at : slice_get w.caches c.in_ok-index.index ≡ Some own = slice_get_here w.caches c.in_ok-index.index own (slice_get_within w.caches c.in_ok-index.index found.0 found.1.mine.at) c.index-own.ensures in
    let here : IsOwnFor w c.args.cpu c.args.arena c.args.cache c.in_ok-index.index own = found_own w c.args.cpu c.args.arena c.args.cache c.in_ok-index.index own found at in
    let sized : IsSize c.args.size = c.if-not-is_magazine_size.ensures.value.0 refl in
    subst (λ (x : WorldState). HasDepot x c.args.cpu c.args.arena c.args.cache (CanGrowTo c.args.size)) view
    (may_change w c.args.cpu c.args.arena c.args.cache c.in_ok-index.index own world here c.args.size c.depot_size.result c.depot_size.ensures sized (omega (arith, c.size.ensures.value)) (omega arith))
