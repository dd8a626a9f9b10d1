use Rattle.std.proofs.Common.{◌≡◌, refl, Some, set, sym, subst}
use Rattle.std.specs.Prelude.{slice_get}
use Rattle.std.proofs.lemmas.Option.{slice_get_within}
use Rattle.deed_core.proofs.LawProofs.{slice_get_here}
use Rattle.stock.specs.OwnCaches.{OwnCacheState}
use Rattle.world_core.specs.WorldState.{WorldState, entries_of}
use Rattle.world_core.specs.IsWorld.{IsWorld}
use Rattle.world_core.specs.Moves.{IsOwnFor}
use Rattle.world_core.specs.Events.{EndsAs}
use Rattle.world_core.specs.declared.events.WorldEvent.TheVariants as events
use Rattle.world_core.specs.declared.events.EventFault.TheVariants as faults
use Rattle.world_core.specs.declared.events.Outcome.TheVariants.{Done, Refused, NotEnabled}
use Rattle.world_core.proofs.OwnLemmas.{found_own, own_in}
use Rattle.magazine_layer.specs.Magazines.{BothEmpty}
use Rattle.stock_audit.specs.Accounted.{IsOwnIn}
use Rattle.std.proofs.lemmas.Bool.{false≢true}
use Rattle.deed_core.proofs.LawProofs.{set_same}
use Rattle.world_core.proofs.SwapLemmas.{not_so, swaps_full, full_is_old, full_is_none}
use Rattle.world_core.proofs.parts.WorldParts.swap_full.Goals as goal

pub swap_full-swapped-requires : goal.swap_full-swapped-requires
swap_full-swapped-requires g c =
    let w : WorldState = record { stock = c.self.inside.stock; names = c.self.inside.names.items; hands = c.self.inside.hands.items; tasks = c.self.inside.tasks.items; failed = c.self.inside.failed.items; owners = c.self.inside.owners.items; caches = c.self.inside.caches.items; book = c.self.inside.book; entries = entries_of c.self.inside.log.items; clients = c.self.inside.clients.items; requests = c.self.inside.requests.items; replies = c.self.inside.replies.items } in
    let view : w ≡ c.args.self.now = c.self.view_is in
    let world : IsWorld w = subst IsWorld (sym view) c.requires.world in
    let own : OwnCacheState = c.index_mut-own.result.now in
    let found = subst (λ (x : WorldState). (o : OwnCacheState) × IsOwnFor x c.args.cpu c.args.arena c.args.cache c.in-Some.index o) (sym view) c.in-Some.ensures.some in
    let at : slice_get w.caches c.in-Some.index ≡ Some own = slice_get_here w.caches c.in-Some.index own (slice_get_within w.caches c.in-Some.index found.0 found.1.mine.at) c.index_mut-own.ensures.value in
    let here : IsOwnFor w c.args.cpu c.args.arena c.args.cache c.in-Some.index own = found_own w c.args.cpu c.args.arena c.args.cache c.in-Some.index own found at in
    let own_is : IsOwnIn w.stock own = own_in w c.in-Some.index own world at in
    record { has = own_is.has; quantum = own_is.quantum; empty = c.if-not-is_empty.ensures.0 refl }

pub returns-in-Ok : goal.returns-in-Ok
returns-in-Ok g c =
    let w : WorldState = record { stock = c.self.inside.stock; names = c.self.inside.names.items; hands = c.self.inside.hands.items; tasks = c.self.inside.tasks.items; failed = c.self.inside.failed.items; owners = c.self.inside.owners.items; caches = c.self.inside.caches.items; book = c.self.inside.book; entries = entries_of c.self.inside.log.items; clients = c.self.inside.clients.items; requests = c.self.inside.requests.items; replies = c.self.inside.replies.items } in
    let view : w ≡ c.args.self.now = c.self.view_is in
    let world : IsWorld w = subst IsWorld (sym view) c.requires.world in
    let own : OwnCacheState = c.index_mut-own.result.now in
    let found = subst (λ (x : WorldState). (o : OwnCacheState) × IsOwnFor x c.args.cpu c.args.arena c.args.cache c.in-Some.index o) (sym view) c.in-Some.ensures.some in
    let at : slice_get w.caches c.in-Some.index ≡ Some own = slice_get_here w.caches c.in-Some.index own (slice_get_within w.caches c.in-Some.index found.0 found.1.mine.at) c.index_mut-own.ensures.value in
    let here : IsOwnFor w c.args.cpu c.args.arena c.args.cache c.in-Some.index own = found_own w c.args.cpu c.args.arena c.args.cache c.in-Some.index own found at in
    let next : OwnCacheState = c.swap_full-swapped.new.self in
    let both : BothEmpty own.cpu = c.if-not-is_empty.ensures.0 refl in
    let v : WorldState = record w { stock = c.swap_full-swapped.new.stock; caches = set w.caches c.in-Some.index next } in
    subst (λ x. EndsAs (events.SwapsFull c.args.cpu c.args.arena c.args.cache) Done x v) view
    (swaps_full w c.args.cpu c.args.arena c.args.cache c.in-Some.index own world here next c.in-Ok.ensures.index c.swap_full-swapped.new.stock _ (λ j. set w.caches c.in-Some.index next) c.indexes.ensures.own c.in-Ok.ensures.shape c.count.ensures.stock c.in-Ok.ensures.frame c.in-Ok.ensures.fixed both c.in-Ok.ensures.swapped)

pub returns-in-OldSize : goal.returns-in-OldSize
returns-in-OldSize g c =
    let w : WorldState = record { stock = c.self.inside.stock; names = c.self.inside.names.items; hands = c.self.inside.hands.items; tasks = c.self.inside.tasks.items; failed = c.self.inside.failed.items; owners = c.self.inside.owners.items; caches = c.self.inside.caches.items; book = c.self.inside.book; entries = entries_of c.self.inside.log.items; clients = c.self.inside.clients.items; requests = c.self.inside.requests.items; replies = c.self.inside.replies.items } in
    let view : w ≡ c.args.self.now = c.self.view_is in
    let world : IsWorld w = subst IsWorld (sym view) c.requires.world in
    let own : OwnCacheState = c.index_mut-own.result.now in
    let found = subst (λ (x : WorldState). (o : OwnCacheState) × IsOwnFor x c.args.cpu c.args.arena c.args.cache c.in-Some.index o) (sym view) c.in-Some.ensures.some in
    let at : slice_get w.caches c.in-Some.index ≡ Some own = slice_get_here w.caches c.in-Some.index own (slice_get_within w.caches c.in-Some.index found.0 found.1.mine.at) c.index_mut-own.ensures.value in
    let here : IsOwnFor w c.args.cpu c.args.arena c.args.cache c.in-Some.index own = found_own w c.args.cpu c.args.arena c.args.cache c.in-Some.index own found at in
    let next : OwnCacheState = c.swap_full-swapped.new.self in
    let both : BothEmpty own.cpu = c.if-not-is_empty.ensures.0 refl in
    let v : WorldState = record w { stock = c.swap_full-swapped.new.stock; caches = set w.caches c.in-Some.index next } in
    subst (λ x. EndsAs (events.SwapsFull c.args.cpu c.args.arena c.args.cache) (Refused faults.OldSize) x v) view
    (full_is_old w c.args.cpu c.args.arena c.args.cache c.in-Some.index own world here next c.in-Err.ensures.index c.swap_full-swapped.new.stock _ (λ j. set w.caches c.in-Some.index next) _ both (rw c.in-OldSize.is at c.in-Err.ensures.swapped))

pub returns-in-NoneFull : goal.returns-in-NoneFull
returns-in-NoneFull g c =
    let w : WorldState = record { stock = c.self.inside.stock; names = c.self.inside.names.items; hands = c.self.inside.hands.items; tasks = c.self.inside.tasks.items; failed = c.self.inside.failed.items; owners = c.self.inside.owners.items; caches = c.self.inside.caches.items; book = c.self.inside.book; entries = entries_of c.self.inside.log.items; clients = c.self.inside.clients.items; requests = c.self.inside.requests.items; replies = c.self.inside.replies.items } in
    let view : w ≡ c.args.self.now = c.self.view_is in
    let world : IsWorld w = subst IsWorld (sym view) c.requires.world in
    let own : OwnCacheState = c.index_mut-own.result.now in
    let found = subst (λ (x : WorldState). (o : OwnCacheState) × IsOwnFor x c.args.cpu c.args.arena c.args.cache c.in-Some.index o) (sym view) c.in-Some.ensures.some in
    let at : slice_get w.caches c.in-Some.index ≡ Some own = slice_get_here w.caches c.in-Some.index own (slice_get_within w.caches c.in-Some.index found.0 found.1.mine.at) c.index_mut-own.ensures.value in
    let here : IsOwnFor w c.args.cpu c.args.arena c.args.cache c.in-Some.index own = found_own w c.args.cpu c.args.arena c.args.cache c.in-Some.index own found at in
    let next : OwnCacheState = c.swap_full-swapped.new.self in
    let both : BothEmpty own.cpu = c.if-not-is_empty.ensures.0 refl in
    let v : WorldState = record w { stock = c.swap_full-swapped.new.stock; caches = set w.caches c.in-Some.index next } in
    subst (λ x. EndsAs (events.SwapsFull c.args.cpu c.args.arena c.args.cache) (Refused faults.NoneFull) x v) view
    (full_is_none w c.args.cpu c.args.arena c.args.cache c.in-Some.index own world here next c.in-Err.ensures.index c.swap_full-swapped.new.stock _ (λ j. set w.caches c.in-Some.index next) both (rw c.in-NoneFull.is at c.in-Err.ensures.swapped))

pub returns-then-not-is_empty : goal.returns-then-not-is_empty
returns-then-not-is_empty g c =
    let w : WorldState = record { stock = c.self.inside.stock; names = c.self.inside.names.items; hands = c.self.inside.hands.items; tasks = c.self.inside.tasks.items; failed = c.self.inside.failed.items; owners = c.self.inside.owners.items; caches = c.self.inside.caches.items; book = c.self.inside.book; entries = entries_of c.self.inside.log.items; clients = c.self.inside.clients.items; requests = c.self.inside.requests.items; replies = c.self.inside.replies.items } in
    let view : w ≡ c.args.self.now = c.self.view_is in
    let world : IsWorld w = subst IsWorld (sym view) c.requires.world in
    let own : OwnCacheState = c.index_mut-own.result.now in
    let found = subst (λ (x : WorldState). (o : OwnCacheState) × IsOwnFor x c.args.cpu c.args.arena c.args.cache c.in-Some.index o) (sym view) c.in-Some.ensures.some in
    let at : slice_get w.caches c.in-Some.index ≡ Some own = slice_get_here w.caches c.in-Some.index own (slice_get_within w.caches c.in-Some.index found.0 found.1.mine.at) c.index_mut-own.ensures.value in
    let here : IsOwnFor w c.args.cpu c.args.arena c.args.cache c.in-Some.index own = found_own w c.args.cpu c.args.arena c.args.cache c.in-Some.index own found at in
    let v : WorldState = record w { caches = set w.caches c.in-Some.index own } in
    subst (λ x. EndsAs (events.SwapsFull c.args.cpu c.args.arena c.args.cache) NotEnabled x v) view
    (not_so w c.args.cpu c.args.arena c.args.cache c.in-Some.index own world here BothEmpty (λ both. absurd (false≢true (c.if-not-is_empty.ensures.1 both))), λ j. record w { caches = set_same w.caches c.in-Some.index own at j })
