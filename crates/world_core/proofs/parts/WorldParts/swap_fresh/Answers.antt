use Rattle.std.proofs.Common.{◌≡◌, ◌≢◌, refl, Some, set, sym, subst, ap, ◌∙◌, arith}
use Rattle.std.specs.Prelude.{slice_get}
use Rattle.std.proofs.lemmas.Option.{slice_get_within}
use Rattle.deed_core.proofs.LawProofs.{slice_get_here}
use Rattle.stock.specs.OwnCaches.{OwnCacheState}
use Rattle.world_core.specs.WorldState.{WorldState, entries_of}
use Rattle.world_core.specs.IsWorld.{IsWorld}
use Rattle.world_core.specs.Moves.{IsOwnFor}
use Rattle.world_core.specs.Events.{EndsAs}
use Rattle.world_core.specs.declared.events.WorldEvent.TheVariants as events
use Rattle.world_core.specs.declared.events.EventFault.TheVariants as faults
use Rattle.world_core.specs.declared.events.Outcome.TheVariants.{Done, Refused, NoMemory, NotEnabled}
use Rattle.world_core.proofs.OwnLemmas.{found_own, own_in}
use Rattle.magazine_layer.specs.Magazines.{BothFull, MagazineState, empty_magazine}
use Rattle.stock_audit.specs.Accounted.{IsOwnIn}
use Rattle.std.proofs.lemmas.Bool.{false≢true}
use Rattle.deed_core.proofs.LawProofs.{set_same}
use Rattle.world_core.proofs.SwapLemmas.{as_told, not_so, swaps_fresh, fresh_is_old, fresh_wants_memory}
use Rattle.world_core.proofs.parts.WorldParts.swap_fresh.Goals as goal

pub swap_fresh-swapped-requires-clause-has : goal.swap_fresh-swapped-requires-clause-has
swap_fresh-swapped-requires-clause-has g c =
    let w : WorldState = record { stock = c.self.inside.stock; names = c.self.inside.names.items; hands = c.self.inside.hands.items; tasks = c.self.inside.tasks.items; failed = c.self.inside.failed.items; owners = c.self.inside.owners.items; caches = c.self.inside.caches.items; book = c.self.inside.book; entries = entries_of c.self.inside.log.items; clients = c.self.inside.clients.items; requests = c.self.inside.requests.items; replies = c.self.inside.replies.items } in
    let view : w ≡ c.args.self.now = c.self.view_is in
    let world : IsWorld w = subst IsWorld (sym view) c.requires.world in
    let own : OwnCacheState = c.index_mut-own.result.now in
    let found = subst (λ (x : WorldState). (o : OwnCacheState) × IsOwnFor x c.args.cpu c.args.arena c.args.cache c.in-Some.index o) (sym view) c.in-Some.ensures.some in
    let at : slice_get w.caches c.in-Some.index ≡ Some own = slice_get_here w.caches c.in-Some.index own (slice_get_within w.caches c.in-Some.index found.0 found.1.mine.at) c.index_mut-own.ensures.value in
    let here : IsOwnFor w c.args.cpu c.args.arena c.args.cache c.in-Some.index own = found_own w c.args.cpu c.args.arena c.args.cache c.in-Some.index own found at in
    let own_is : IsOwnIn w.stock own = own_in w c.in-Some.index own world at in
    own_is.has

pub swap_fresh-swapped-requires-clause-quantum : goal.swap_fresh-swapped-requires-clause-quantum
swap_fresh-swapped-requires-clause-quantum g c =
    let w : WorldState = record { stock = c.self.inside.stock; names = c.self.inside.names.items; hands = c.self.inside.hands.items; tasks = c.self.inside.tasks.items; failed = c.self.inside.failed.items; owners = c.self.inside.owners.items; caches = c.self.inside.caches.items; book = c.self.inside.book; entries = entries_of c.self.inside.log.items; clients = c.self.inside.clients.items; requests = c.self.inside.requests.items; replies = c.self.inside.replies.items } in
    let view : w ≡ c.args.self.now = c.self.view_is in
    let world : IsWorld w = subst IsWorld (sym view) c.requires.world in
    let own : OwnCacheState = c.index_mut-own.result.now in
    let found = subst (λ (x : WorldState). (o : OwnCacheState) × IsOwnFor x c.args.cpu c.args.arena c.args.cache c.in-Some.index o) (sym view) c.in-Some.ensures.some in
    let at : slice_get w.caches c.in-Some.index ≡ Some own = slice_get_here w.caches c.in-Some.index own (slice_get_within w.caches c.in-Some.index found.0 found.1.mine.at) c.index_mut-own.ensures.value in
    let here : IsOwnFor w c.args.cpu c.args.arena c.args.cache c.in-Some.index own = found_own w c.args.cpu c.args.arena c.args.cache c.in-Some.index own found at in
    let own_is : IsOwnIn w.stock own = own_in w c.in-Some.index own world at in
    own_is.quantum

pub returns-then-not-is_full : goal.returns-then-not-is_full
returns-then-not-is_full g c =
    let w : WorldState = record { stock = c.self.inside.stock; names = c.self.inside.names.items; hands = c.self.inside.hands.items; tasks = c.self.inside.tasks.items; failed = c.self.inside.failed.items; owners = c.self.inside.owners.items; caches = c.self.inside.caches.items; book = c.self.inside.book; entries = entries_of c.self.inside.log.items; clients = c.self.inside.clients.items; requests = c.self.inside.requests.items; replies = c.self.inside.replies.items } in
    let view : w ≡ c.args.self.now = c.self.view_is in
    let world : IsWorld w = subst IsWorld (sym view) c.requires.world in
    let own : OwnCacheState = c.index_mut-own.result.now in
    let found = subst (λ (x : WorldState). (o : OwnCacheState) × IsOwnFor x c.args.cpu c.args.arena c.args.cache c.in-Some.index o) (sym view) c.in-Some.ensures.some in
    let at : slice_get w.caches c.in-Some.index ≡ Some own = slice_get_here w.caches c.in-Some.index own (slice_get_within w.caches c.in-Some.index found.0 found.1.mine.at) c.index_mut-own.ensures.value in
    let here : IsOwnFor w c.args.cpu c.args.arena c.args.cache c.in-Some.index own = found_own w c.args.cpu c.args.arena c.args.cache c.in-Some.index own found at in
    let v : WorldState = record w { caches = set w.caches c.in-Some.index own } in
    subst (λ x. EndsAs (events.SwapsFresh c.args.cpu c.args.arena c.args.cache) NotEnabled x v) view
    (not_so w c.args.cpu c.args.arena c.args.cache c.in-Some.index own world here BothFull (λ both. absurd (false≢true (c.if-not-is_full.ensures.1 both))), λ j. record w { caches = set_same w.caches c.in-Some.index own at j })

pub returns-then-size : goal.returns-then-size
returns-then-size g c =
    let w : WorldState = record { stock = c.self.inside.stock; names = c.self.inside.names.items; hands = c.self.inside.hands.items; tasks = c.self.inside.tasks.items; failed = c.self.inside.failed.items; owners = c.self.inside.owners.items; caches = c.self.inside.caches.items; book = c.self.inside.book; entries = entries_of c.self.inside.log.items; clients = c.self.inside.clients.items; requests = c.self.inside.requests.items; replies = c.self.inside.replies.items } in
    let view : w ≡ c.args.self.now = c.self.view_is in
    let world : IsWorld w = subst IsWorld (sym view) c.requires.world in
    let own : OwnCacheState = c.index_mut-own.result.now in
    let found = subst (λ (x : WorldState). (o : OwnCacheState) × IsOwnFor x c.args.cpu c.args.arena c.args.cache c.in-Some.index o) (sym view) c.in-Some.ensures.some in
    let at : slice_get w.caches c.in-Some.index ≡ Some own = slice_get_here w.caches c.in-Some.index own (slice_get_within w.caches c.in-Some.index found.0 found.1.mine.at) c.index_mut-own.ensures.value in
    let here : IsOwnFor w c.args.cpu c.args.arena c.args.cache c.in-Some.index own = found_own w c.args.cpu c.args.arena c.args.cache c.in-Some.index own found at in
    let both : BothFull own.cpu = c.if-not-is_full.ensures.0 refl in
    let old = as_told w c.args.cpu c.args.arena c.args.cache c.in-Some.index own world here c.depot_size-size.result c.depot_size-size.ensures (λ x d. BothFull x × (x.size ≢ d.size)) (λ d told. (both, λ same. omega (arith, c.size.ensures.value, told, same))) in
    let v : WorldState = record w { caches = set w.caches c.in-Some.index own } in
    subst (λ x. EndsAs (events.SwapsFresh c.args.cpu c.args.arena c.args.cache) (Refused faults.OldSize) x v) view
    (old, λ j. record w { caches = set_same w.caches c.in-Some.index own at j })

pub returns-in_default-new : goal.returns-in_default-new
returns-in_default-new g c =
    let w : WorldState = record { stock = c.self.inside.stock; names = c.self.inside.names.items; hands = c.self.inside.hands.items; tasks = c.self.inside.tasks.items; failed = c.self.inside.failed.items; owners = c.self.inside.owners.items; caches = c.self.inside.caches.items; book = c.self.inside.book; entries = entries_of c.self.inside.log.items; clients = c.self.inside.clients.items; requests = c.self.inside.requests.items; replies = c.self.inside.replies.items } in
    let view : w ≡ c.args.self.now = c.self.view_is in
    let world : IsWorld w = subst IsWorld (sym view) c.requires.world in
    let own : OwnCacheState = c.index_mut-own.result.now in
    let found = subst (λ (x : WorldState). (o : OwnCacheState) × IsOwnFor x c.args.cpu c.args.arena c.args.cache c.in-Some.index o) (sym view) c.in-Some.ensures.some in
    let at : slice_get w.caches c.in-Some.index ≡ Some own = slice_get_here w.caches c.in-Some.index own (slice_get_within w.caches c.in-Some.index found.0 found.1.mine.at) c.index_mut-own.ensures.value in
    let here : IsOwnFor w c.args.cpu c.args.arena c.args.cache c.in-Some.index own = found_own w c.args.cpu c.args.arena c.args.cache c.in-Some.index own found at in
    let both : BothFull own.cpu = c.if-not-is_full.ensures.0 refl in
    let sizes : own.cpu.size ≡ c.depot_size-size.result = omega (arith, c.size.ensures.value) in
    let enabled = as_told w c.args.cpu c.args.arena c.args.cache c.in-Some.index own world here c.depot_size-size.result c.depot_size-size.ensures (λ x d. BothFull x × (x.size ≡ d.size)) (λ d told. (both, sizes ∙ told)) in
    let v : WorldState = record w { caches = set w.caches c.in-Some.index own } in
    subst (λ x. EndsAs (events.SwapsFresh c.args.cpu c.args.arena c.args.cache) NoMemory x v) view
    (enabled, λ j. record w { caches = set_same w.caches c.in-Some.index own at j })

pub returns-in-Ok-swapped : goal.returns-in-Ok-swapped
returns-in-Ok-swapped g c =
    let w : WorldState = record { stock = c.self.inside.stock; names = c.self.inside.names.items; hands = c.self.inside.hands.items; tasks = c.self.inside.tasks.items; failed = c.self.inside.failed.items; owners = c.self.inside.owners.items; caches = c.self.inside.caches.items; book = c.self.inside.book; entries = entries_of c.self.inside.log.items; clients = c.self.inside.clients.items; requests = c.self.inside.requests.items; replies = c.self.inside.replies.items } in
    let view : w ≡ c.args.self.now = c.self.view_is in
    let world : IsWorld w = subst IsWorld (sym view) c.requires.world in
    let own : OwnCacheState = c.index_mut-own.result.now in
    let found = subst (λ (x : WorldState). (o : OwnCacheState) × IsOwnFor x c.args.cpu c.args.arena c.args.cache c.in-Some.index o) (sym view) c.in-Some.ensures.some in
    let at : slice_get w.caches c.in-Some.index ≡ Some own = slice_get_here w.caches c.in-Some.index own (slice_get_within w.caches c.in-Some.index found.0 found.1.mine.at) c.index_mut-own.ensures.value in
    let here : IsOwnFor w c.args.cpu c.args.arena c.args.cache c.in-Some.index own = found_own w c.args.cpu c.args.arena c.args.cache c.in-Some.index own found at in
    let next : OwnCacheState = c.swap_fresh-swapped.new.self in
    let both : BothFull own.cpu = c.if-not-is_full.ensures.0 refl in
    let made : c.in-Ok.magazine ≡ empty_magazine own.cpu.size = c.in-Ok.ensures ∙ ap empty_magazine (omega (arith, c.size.ensures.value)) in
    let v : WorldState = record w { stock = c.swap_fresh-swapped.new.stock; caches = set w.caches c.in-Some.index next } in
    subst (λ x. EndsAs (events.SwapsFresh c.args.cpu c.args.arena c.args.cache) Done x v) view
    (swaps_fresh w c.args.cpu c.args.arena c.args.cache c.in-Some.index own world here next c.in-Ok-swapped.ensures.index c.swap_fresh-swapped.new.stock _ (λ j. set w.caches c.in-Some.index next) c.indexes.ensures.own c.in-Ok-swapped.ensures.shape c.count.ensures.stock c.in-Ok-swapped.ensures.frame c.in-Ok-swapped.ensures.fixed c.in-Ok.magazine made both c.in-Ok-swapped.ensures.swapped)

pub returns-in-OldSize : goal.returns-in-OldSize
returns-in-OldSize g c =
    let w : WorldState = record { stock = c.self.inside.stock; names = c.self.inside.names.items; hands = c.self.inside.hands.items; tasks = c.self.inside.tasks.items; failed = c.self.inside.failed.items; owners = c.self.inside.owners.items; caches = c.self.inside.caches.items; book = c.self.inside.book; entries = entries_of c.self.inside.log.items; clients = c.self.inside.clients.items; requests = c.self.inside.requests.items; replies = c.self.inside.replies.items } in
    let view : w ≡ c.args.self.now = c.self.view_is in
    let world : IsWorld w = subst IsWorld (sym view) c.requires.world in
    let own : OwnCacheState = c.index_mut-own.result.now in
    let found = subst (λ (x : WorldState). (o : OwnCacheState) × IsOwnFor x c.args.cpu c.args.arena c.args.cache c.in-Some.index o) (sym view) c.in-Some.ensures.some in
    let at : slice_get w.caches c.in-Some.index ≡ Some own = slice_get_here w.caches c.in-Some.index own (slice_get_within w.caches c.in-Some.index found.0 found.1.mine.at) c.index_mut-own.ensures.value in
    let here : IsOwnFor w c.args.cpu c.args.arena c.args.cache c.in-Some.index own = found_own w c.args.cpu c.args.arena c.args.cache c.in-Some.index own found at in
    let next : OwnCacheState = c.swap_fresh-swapped.new.self in
    let both : BothFull own.cpu = c.if-not-is_full.ensures.0 refl in
    let made : c.in-Ok.magazine ≡ empty_magazine own.cpu.size = c.in-Ok.ensures ∙ ap empty_magazine (omega (arith, c.size.ensures.value)) in
    let v : WorldState = record w { stock = c.swap_fresh-swapped.new.stock; caches = set w.caches c.in-Some.index next } in
    subst (λ x. EndsAs (events.SwapsFresh c.args.cpu c.args.arena c.args.cache) (Refused faults.OldSize) x v) view
    (fresh_is_old w c.args.cpu c.args.arena c.args.cache c.in-Some.index own world here next c.in-Err.ensures.index c.swap_fresh-swapped.new.stock _ (λ j. set w.caches c.in-Some.index next) c.in-Ok.magazine (ap (λ (m : MagazineState). m.size) made) _ _ both (rw c.in-OldSize.is at c.in-Err.ensures.swapped))

pub returns-in-NoMemory : goal.returns-in-NoMemory
returns-in-NoMemory g c =
    let w : WorldState = record { stock = c.self.inside.stock; names = c.self.inside.names.items; hands = c.self.inside.hands.items; tasks = c.self.inside.tasks.items; failed = c.self.inside.failed.items; owners = c.self.inside.owners.items; caches = c.self.inside.caches.items; book = c.self.inside.book; entries = entries_of c.self.inside.log.items; clients = c.self.inside.clients.items; requests = c.self.inside.requests.items; replies = c.self.inside.replies.items } in
    let view : w ≡ c.args.self.now = c.self.view_is in
    let world : IsWorld w = subst IsWorld (sym view) c.requires.world in
    let own : OwnCacheState = c.index_mut-own.result.now in
    let found = subst (λ (x : WorldState). (o : OwnCacheState) × IsOwnFor x c.args.cpu c.args.arena c.args.cache c.in-Some.index o) (sym view) c.in-Some.ensures.some in
    let at : slice_get w.caches c.in-Some.index ≡ Some own = slice_get_here w.caches c.in-Some.index own (slice_get_within w.caches c.in-Some.index found.0 found.1.mine.at) c.index_mut-own.ensures.value in
    let here : IsOwnFor w c.args.cpu c.args.arena c.args.cache c.in-Some.index own = found_own w c.args.cpu c.args.arena c.args.cache c.in-Some.index own found at in
    let next : OwnCacheState = c.swap_fresh-swapped.new.self in
    let both : BothFull own.cpu = c.if-not-is_full.ensures.0 refl in
    let sizes : own.cpu.size ≡ c.depot_size-size.result = omega (arith, c.size.ensures.value) in
    let enabled = as_told w c.args.cpu c.args.arena c.args.cache c.in-Some.index own world here c.depot_size-size.result c.depot_size-size.ensures (λ x d. BothFull x × (x.size ≡ d.size)) (λ d told. (both, sizes ∙ told)) in
    let made : c.in-Ok.magazine ≡ empty_magazine own.cpu.size = c.in-Ok.ensures ∙ ap empty_magazine (omega (arith, c.size.ensures.value)) in
    let v : WorldState = record w { stock = c.swap_fresh-swapped.new.stock; caches = set w.caches c.in-Some.index next } in
    subst (λ x. EndsAs (events.SwapsFresh c.args.cpu c.args.arena c.args.cache) NoMemory x v) view
    (fresh_wants_memory w c.args.cpu c.args.arena c.args.cache c.in-Some.index own world here next c.in-Err.ensures.index c.swap_fresh-swapped.new.stock _ (λ j. set w.caches c.in-Some.index next) c.in-Ok.magazine (ap (λ (m : MagazineState). m.size) made) _ enabled (rw c.in-NoMemory.is at c.in-Err.ensures.swapped))
