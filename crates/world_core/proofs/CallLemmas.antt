-- How calls of the stock end events.
use Rattle.std.proofs.Common.{◌≡◌, ℕ, zero, suc, ◌+◌, ◌%◌, ◌<◌, All, List, [], ◌∷◌, ◌++◌, false, length, set, Option, Some, None, Ok, Err, refl, sym, subst, ap, ◌∙◌, inl, inr, arith}
use Rattle.std.specs.Prelude.{slice_get}
use Rattle.std.specs.Option.{option_to_list}
use Rattle.std.proofs.lemmas.List.Sums.{sum_by-append, sum_by-cons}
use Rattle.std.proofs.lemmas.Option.{slice_get_within}
use Rattle.std.proofs.lemmas.Bool.{false≢true}
use Rattle.deed_core.specs.Tag.{Tag}
use Rattle.deed_core.specs.Request.{plain_of}
use Rattle.deed_core.specs.declared.requests.Request.{Request}
use Rattle.deed_core.specs.declared.segments.Route.TheVariants.{Direct, Cached}
use Rattle.deed_core.proofs.LawProofs.{set_same, slice_get_one, slice_get-set}
use Rattle.tag_arena.specs.ArenaState.{ArenaState}
use Rattle.tag_arena.specs.Calls.{RefusesCarve}
use Rattle.tag_arena.specs.Outcomes.{WasCarved, WasImported, ImportOf}
use Rattle.tag_arena.specs.declared.faults.SpanFault.{SpanFault}
use Rattle.tag_arena.specs.declared.faults.SpanFault.TheVariants as spans
use Rattle.tag_arena.specs.declared.faults.ArenaFault.TheVariants as arena_faults
use Rattle.slab_layer.specs.Cache.{SlabCacheState}
use Rattle.slab_layer.specs.Slab.{SlabState, IsAllOut, IsComplete}
use Rattle.slab_layer.specs.Calls.{TakeOf, ReapOf, AddOf, IsNext}
use Rattle.slab_layer.specs.declared.faults.AddFault.{AddFault}
use Rattle.slab_layer.specs.declared.faults.AddFault.TheVariants as adding
use Rattle.slab_layer.specs.declared.faults.PutFault.TheVariants as putting
use Rattle.magazine_layer.specs.Magazines.{IsSize}
use Rattle.magazine_layer.specs.Depots.{DepotState, Begins, CanReap, after_trim, after_tick}
use Rattle.magazine_layer.specs.Calls.{DepotReapOf, ResizeOf}
use Rattle.magazine_layer.specs.declared.faults.NotGreater.{NotGreater}
use Rattle.stock.specs.Spaces.{SpaceState, QuantumCacheState, IsCacheAt, with_arena, with_slab, with_depot, with_caches, plans_of}
use Rattle.stock.specs.Stocks.{IsStock}
use Rattle.stock.specs.Accounts.{IsAccounted, Frames}
use Rattle.stock.specs.Steps.{OnArena, OnSlab, OnDepot, FreeIn, PutIn, CanImport, IsTaggedIn, IsOnGridOf}
use Rattle.stock.specs.Answers.{NeverOverlaps, OnlyForMemory}
use Rattle.stock.proofs.LawProofs.{always_tagged, always_out, out_weighs}
use Rattle.stock.specs.OwnCaches.{all_own_rounds}
use Rattle.lease_book.specs.BookState.{leased_segments}
use Rattle.world_core.specs.WorldState.{WorldState, in_hands}
use Rattle.world_core.specs.IsWorld.{IsWorld}
use Rattle.world_core.specs.Events.{EndsAs, Tries, MovesBy, IsReady, IsEnabled, MayWantMemory, HasInHand, HasSpanFor}
use Rattle.world_core.specs.declared.events.WorldEvent.{WorldEvent}
use Rattle.world_core.specs.declared.events.WorldEvent.TheVariants as events
use Rattle.world_core.specs.declared.events.EventFault.TheVariants as faults
use Rattle.world_core.specs.declared.events.Outcome.{Outcome}
use Rattle.world_core.specs.declared.events.Outcome.TheVariants.{Done, Refused, NotEnabled, NoMemory}
use Rattle.world_core.proofs.HandLemmas.{hand_set}
use Rattle.world_core.proofs.StockLemmas.{hand_moves}

-- Hands.

-- a hand that was emptied
pub emptied : (hands taken : List (Option Tag)) (cpu : ℕ) (t : Tag) → slice_get hands cpu ≡ Some (Some t) → taken ≡ set hands cpu None → slice_get taken cpu ≡ Some None
emptied hands taken cpu t held out = ap (λ (xs : List (Option Tag)). slice_get xs cpu) out ∙ slice_get-set hands cpu None (slice_get_within hands cpu (Some t) held)

set_twice : {X : Type 0} (xs : List X) (k : ℕ) (x y : X) → set (set xs k x) k y ≡ set xs k y
set_twice [] k x y = refl
set_twice (z ∷ xs) zero x y = refl
set_twice (z ∷ xs) (suc k) x y = ap (λ (ys : List _). z ∷ ys) (set_twice xs k x y)

-- and got something else
pub put_over : (hands taken put : List (Option Tag)) (cpu : ℕ) (x : Option Tag) → taken ≡ set hands cpu None → put ≡ set taken cpu x → put ≡ set hands cpu x
put_over hands taken put cpu x out back = back ∙ ap (λ (xs : List (Option Tag)). set xs cpu x) out ∙ set_twice hands cpu None x

-- or the same again
pub put_same : (hands taken put : List (Option Tag)) (cpu : ℕ) (t u : Tag) → slice_get hands cpu ≡ Some (Some t) → taken ≡ set hands cpu None → put ≡ set taken cpu (Some u) → u ≡ t → put ≡ hands
put_same hands taken put cpu t u held out back same =
    put_over hands taken put cpu (Some u) out back ∙ ap (λ (x : Tag). set hands cpu (Some x)) same ∙ set_same hands cpu (Some t) held

-- a hand has one segment
pub one_held : (w : WorldState) (cpu : ℕ) (t u : Tag) → HasInHand w cpu (Some t) → HasInHand w cpu (Some u) → t ≡ u
one_held w cpu t u a b = (let e : Some (Some t) ≡ Some (Some u) = sym a ∙ b in cc)

pub not_empty : (w : WorldState) (cpu : ℕ) (t : Tag) → HasInHand w cpu (Some t) → ¬ HasInHand w cpu None
not_empty w cpu t a b = (let e : Some (Some t) ≡ Some None = sym a ∙ b in absurd (let x : Some t ≡ None = cc in cc))

-- what else is out
abbrev pub others : WorldState → ℕ → List Tag
others w cpu = in_hands (set w.hands cpu None) ++ (leased_segments w.book ++ all_own_rounds w.caches)

-- what is in a hand is out
pub held_out : (w : WorldState) (cpu : ℕ) (t : Tag) → IsWorld w → HasInHand w cpu (Some t) → IsAccounted w.stock (t ∷ others w cpu)
held_out w cpu t is held =
    let rest : List Tag = leased_segments w.book ++ all_own_rounds w.caches in
    record {
      stock = is.parts.parts;
      accounts = out_weighs w.stock (in_hands w.hands ++ rest) (t ∷ others w cpu) (λ f. omega (
        arith,
        hand_set f w.hands cpu (Some t) None held,
        sum_by-append f (in_hands w.hands) rest,
        sum_by-append f (in_hands (set w.hands cpu None)) rest,
        sum_by-cons f t (others w cpu),
        sum_by-cons f t [],
      )) is.parts.accounts;
    }

-- so it is on its arena's grid, if it came direct
pub on_grid : (w : WorldState) (cpu : ℕ) (t : Tag) (arena : ℕ) → IsWorld w → HasInHand w cpu (Some t) → t.route ≡ Direct → t.arena ≡ arena → IsOnGridOf w.stock arena t
on_grid w cpu t arena is held route home s at =
    let tagged = always_tagged w.stock t (others w cpu) (held_out w cpu t is held) route in
    let there : slice_get w.stock arena ≡ Some tagged.space = subst (λ (k : ℕ). slice_get w.stock k ≡ Some tagged.space) home tagged.at in
    let same : tagged.space ≡ s = slice_get_one w.stock arena tagged.space s there at in
    let on = (is.parts.parts t.arena tagged.space tagged.at).sound.divided.tag_grid t.holding.range.base t.holding tagged.tagged.stands in
    subst (λ (x : SpaceState). t.holding.range.base % x.arena.quantum ≡ 0) same on.0

-- Parts that refuse.

pub arena_same : (k : ℕ) (P : ArenaState → ArenaState → Type 0) (old new : List SpaceState) (on : OnArena k P old new) → on.arena ≡ on.space.arena → new ≡ old
arena_same k P old new on same = on.after ∙ ap (λ (a : ArenaState). set old k (with_arena a on.space)) same ∙ set_same old k on.space on.at

pub slab_same : (k j : ℕ) (P : SlabCacheState → SlabCacheState → Type 0) (old new : List SpaceState) (on : OnSlab k j P old new) → on.slab ≡ on.cache.slab → new ≡ old
slab_same k j P old new on same =
    let caches : set on.space.caches j (with_slab on.slab on.cache) ≡ on.space.caches = ap (λ (x : SlabCacheState). set on.space.caches j (with_slab x on.cache)) same ∙ set_same on.space.caches j on.cache on.among in
    on.after ∙ ap (λ (cs : List QuantumCacheState). set old k (with_caches cs on.space)) caches ∙ set_same old k on.space on.at

-- one cache stands at an index
pub one_cache : (spaces : List SpaceState) (k j : ℕ) (c d : QuantumCacheState) → IsCacheAt spaces k j c → IsCacheAt spaces k j d → c ≡ d
one_cache spaces k j c d a b =
    let same : a.space ≡ b.space = slice_get_one spaces k a.space b.space a.at b.at in
    slice_get_one b.space.caches j c d (subst (λ (s : SpaceState). slice_get s.caches j ≡ Some c) same a.among) b.among

-- Events.

pub carves : (w : WorldState) (cpu arena : ℕ) (q : Request) (t : Tag) (stock : List SpaceState) (hands : List (Option Tag)) → HasInHand w cpu None
    → OnArena arena (λ a b. WasCarved a q t b) w.stock stock → IsStock stock → Frames w.stock [] stock (t ∷ []) → plans_of stock ≡ plans_of w.stock → hands ≡ set w.hands cpu (Some t)
    → EndsAs (events.Carves cpu arena q) Done w (record w { stock = stock; hands = hands })
carves w cpu arena q t stock hands empty on sound frame fixed moved = (
  (empty, on.space, on.at, record { good = on.does.good; base = t.holding.range.base; chosen = on.does.chosen }),
  (t, hand_moves w cpu None (Some t) _ stock hands empty on (record { stock = sound; frame = frame; fixed = fixed }) moved),
)

pub carve_is_bad : (w : WorldState) (cpu arena : ℕ) (q : Request) (stock : List SpaceState) → HasInHand w cpu None
    → OnArena arena (λ a b. RefusesCarve a q arena_faults.BadRequest × (b ≡ a)) w.stock stock → EndsAs (events.Carves cpu arena q) (Refused faults.BadRequest) w (record w { stock = stock })
carve_is_bad w cpu arena q stock empty on =
    let same = arena_same arena _ w.stock stock on on.does.1 in
    ((empty, on.space, on.at, on.does.0), λ j. record w { stock = same j })

pub carve_fits_none : (w : WorldState) (cpu arena : ℕ) (q : Request) (stock : List SpaceState) → HasInHand w cpu None
    → OnArena arena (λ a b. RefusesCarve a q arena_faults.NoFit × (b ≡ a)) w.stock stock → EndsAs (events.Carves cpu arena q) (Refused faults.NoFit) w (record w { stock = stock })
carve_fits_none w cpu arena q stock empty on =
    let same = arena_same arena _ w.stock stock on (on.does.1) in
    ((empty, on.space, on.at, on.does.0.0, on.does.0.1), λ j. record w { stock = same j })

pub carve_wants_memory : (w : WorldState) (cpu arena : ℕ) (q : Request) (stock : List SpaceState) → HasInHand w cpu None
    → OnArena arena (λ a b. RefusesCarve a q arena_faults.NoMemory × (b ≡ a)) w.stock stock → EndsAs (events.Carves cpu arena q) NoMemory w (record w { stock = stock })
carve_wants_memory w cpu arena q stock empty on =
    let same = arena_same arena _ w.stock stock on (on.does.1) in
    ((empty, on.space, on.at, record { good = on.does.0.0; base = on.does.0.1.0; chosen = on.does.0.1.1 }), λ j. record w { stock = same j })

freed_is_tagged : (stock : List SpaceState) (t : Tag) (back : Option Tag) (new : List SpaceState) → FreeIn stock t (Ok back) new → IsTaggedIn stock t
freed_is_tagged stock t back new (inl on) = record { space = on.space; at = on.at; tagged = on.does.mine }
freed_is_tagged stock t back new (inr other) = absurd (let e : Ok back ≡ Err t = other.1 in cc)

pub frees : (w : WorldState) (cpu : ℕ) (t : Tag) (back : Option Tag) (stock : List SpaceState) (taken hands : List (Option Tag)) → HasInHand w cpu (Some t)
    → FreeIn w.stock t (Ok back) stock → IsStock stock → Frames w.stock (t ∷ []) stock (option_to_list back) → plans_of stock ≡ plans_of w.stock
    → taken ≡ set w.hands cpu None → hands ≡ set taken cpu back → EndsAs (events.Frees cpu) Done w (record w { stock = stock; hands = hands })
frees w cpu t back stock taken hands held freed sound frame fixed out put = (
  (t, held, freed_is_tagged w.stock t back stock freed),
  (t, back, hand_moves w cpu (Some t) back (λ a b. FreeIn a t (Ok back) b) stock hands held freed (record { stock = sound; frame = frame; fixed = fixed }) (put_over w.hands taken hands cpu back out put)),
)

pub not_direct : (w : WorldState) (cpu : ℕ) → ((t : Tag) → HasInHand w cpu (Some t) → ¬ (t.route ≡ Direct)) → ¬ IsReady (events.Frees cpu) w
not_direct w cpu none (t, held, tagged) = none t held tagged.tagged.route

pub imports : (w : WorldState) (cpu child size : ℕ) (span t : Tag) (q : Request) (stock : List SpaceState) (taken hands : List (Option Tag)) → IsReady (events.AddCarves cpu child size) w → HasInHand w cpu (Some span)
    → q ≡ plain_of size → OnArena child (λ a b. WasImported a span q t b) w.stock stock → IsStock stock → Frames w.stock (span ∷ []) stock (t ∷ []) → plans_of stock ≡ plans_of w.stock
    → taken ≡ set w.hands cpu None → hands ≡ set taken cpu (Some t) → EndsAs (events.AddCarves cpu child size) Done w (record w { stock = stock; hands = hands })
imports w cpu child size span t q stock taken hands ready held asks on sound frame fixed out put =
    let here : OnArena child (λ a b. WasImported a span (plain_of size) t b) w.stock stock = subst (λ (r : Request). OnArena child (λ a b. WasImported a span r t b) w.stock stock) asks on in (
      ready,
      (span, t, hand_moves w cpu (Some span) (Some t) _ stock hands held here (record { stock = sound; frame = frame; fixed = fixed }) (put_over w.hands taken hands cpu (Some t) out put)),
    )

-- a chunk that was taken was idle
was_idle : (old new : SlabCacheState) (t : Tag) → TakeOf old (Some t) new → ¬ All IsAllOut old.slabs
was_idle old new t (i, j, s, takes) = λ all. (let out : IsAllOut s = here all takes.next in
    absurd (false≢true (sym (out j false takes.lowest.within) ∙ takes.lowest.idle)))
  where
    here : All IsAllOut old.slabs → IsNext i s old.slabs → IsAllOut s
    here all (inl low) = subst IsAllOut low.stands.is (all i s low.stands.within)
    here all (inr (none, low)) = subst IsAllOut low.stands.is (all i s low.stands.within)

-- a slab that was reaped was complete
was_complete : (old new : SlabCacheState) (t : Tag) → ReapOf old (Some t) new → ¬ All (λ s. ¬ IsComplete s) old.slabs
was_complete old new t (i, s, reaps) = λ none.
    subst (λ (x : SlabState). ¬ IsComplete x) reaps.lowest.stands.is (none i s reaps.lowest.stands.within) reaps.lowest.so

pub takes_chunk : (w : WorldState) (cpu arena cache : ℕ) (t : Tag) (stock : List SpaceState) (hands : List (Option Tag)) → HasInHand w cpu None
    → OnSlab arena cache (λ a b. TakeOf a (Some t) b) w.stock stock → IsStock stock → Frames w.stock [] stock (t ∷ []) → plans_of stock ≡ plans_of w.stock → hands ≡ set w.hands cpu (Some t)
    → EndsAs (events.SlabTakes cpu arena cache) Done w (record w { stock = stock; hands = hands })
takes_chunk w cpu arena cache t stock hands empty on sound frame fixed moved = (
  (empty, on.cache, record { space = on.space; at = on.at; among = on.among }, was_idle on.cache.slab on.slab t on.does),
  (t, hand_moves w cpu None (Some t) _ stock hands empty on (record { stock = sound; frame = frame; fixed = fixed }) moved),
)

pub takes_none : (w : WorldState) (cpu arena cache : ℕ) (stock : List SpaceState) → OnSlab arena cache (λ a b. TakeOf a None b) w.stock stock
    → EndsAs (events.SlabTakes cpu arena cache) NotEnabled w (record w { stock = stock })
takes_none w cpu arena cache stock on =
    let same = slab_same arena cache _ w.stock stock on on.does.1 in (
      λ ready. (let is : on.cache ≡ ready.1 = one_cache w.stock arena cache on.cache ready.1 (record { space = on.space; at = on.at; among = on.among }) ready.2 in
          ready.3 (subst (λ (c : QuantumCacheState). All IsAllOut c.slab.slabs) is on.does.0)),
      λ j. record w { stock = same j },
    )

pub reaps_slab : (w : WorldState) (cpu arena cache : ℕ) (t : Tag) (stock : List SpaceState) (hands : List (Option Tag)) → HasInHand w cpu None
    → OnSlab arena cache (λ a b. ReapOf a (Some t) b) w.stock stock → IsStock stock → Frames w.stock [] stock (t ∷ []) → plans_of stock ≡ plans_of w.stock → hands ≡ set w.hands cpu (Some t)
    → EndsAs (events.SlabReaps cpu arena cache) Done w (record w { stock = stock; hands = hands })
reaps_slab w cpu arena cache t stock hands empty on sound frame fixed moved = (
  (empty, on.cache, record { space = on.space; at = on.at; among = on.among }, was_complete on.cache.slab on.slab t on.does),
  (t, hand_moves w cpu None (Some t) _ stock hands empty on (record { stock = sound; frame = frame; fixed = fixed }) moved),
)

pub reaps_none : (w : WorldState) (cpu arena cache : ℕ) (stock : List SpaceState) → OnSlab arena cache (λ a b. ReapOf a None b) w.stock stock
    → EndsAs (events.SlabReaps cpu arena cache) NotEnabled w (record w { stock = stock })
reaps_none w cpu arena cache stock on =
    let same = slab_same arena cache _ w.stock stock on on.does.1 in (
      λ ready. (let is : on.cache ≡ ready.1 = one_cache w.stock arena cache on.cache ready.1 (record { space = on.space; at = on.at; among = on.among }) ready.2 in
          ready.3 (subst (λ (c : QuantumCacheState). All (λ s. ¬ IsComplete s) c.slab.slabs) is on.does.0)),
      λ j. record w { stock = same j },
    )

put_route : (stock : List SpaceState) (t : Tag) (new : List SpaceState) → PutIn stock t (Ok tt) new → (k : ℕ) × (t.route ≡ Cached k)
put_route stock t new (inl (j, route, on)) = (j + 1, route)
put_route stock t new (inr other) = absurd (let e : Ok tt ≡ Err (putting.NotMine t) = other.1 in cc)

pub puts_chunk : (w : WorldState) (cpu : ℕ) (t : Tag) (stock : List SpaceState) (hands : List (Option Tag)) → IsWorld w → HasInHand w cpu (Some t)
    → PutIn w.stock t (Ok tt) stock → IsStock stock → Frames w.stock (t ∷ []) stock [] → plans_of stock ≡ plans_of w.stock → hands ≡ set w.hands cpu None
    → EndsAs (events.SlabPuts cpu) Done w (record w { stock = stock; hands = hands })
puts_chunk w cpu t stock hands is held put sound frame fixed moved =
    let route = put_route w.stock t stock put in
    let out = always_out w.stock t route.0 (others w cpu) (held_out w cpu t is held) route.1 in (
      (t, out.0, held, out.2),
      (t, hand_moves w cpu (Some t) None (λ a b. PutIn a t (Ok tt) b) stock hands held put (record { stock = sound; frame = frame; fixed = fixed }) moved),
    )

module _ (w : WorldState) (cpu arena cache : ℕ) (span : Tag) (held : HasInHand w cpu (Some span)) (home : span.arena ≡ arena) (route : span.route ≡ Direct) where
  has_span : (P : SlabCacheState → SlabCacheState → Type 0) (stock : List SpaceState) (on : OnSlab arena cache P w.stock stock) → HasSpanFor w cpu arena cache span on.cache
  has_span P stock on = record { holds = held; home = home; route = route; at = record { space = on.space; at = on.at; among = on.among } }

  pub adds_slab : (t : Tag) (stock : List SpaceState) (taken hands : List (Option Tag)) → OnSlab arena cache (λ a b. AddOf a span (Ok t) b) w.stock stock
      → IsStock stock → Frames w.stock (span ∷ []) stock (t ∷ []) → plans_of stock ≡ plans_of w.stock → taken ≡ set w.hands cpu None → hands ≡ set taken cpu (Some t)
      → EndsAs (events.SlabAdds cpu arena cache) Done w (record w { stock = stock; hands = hands })
  adds_slab t stock taken hands on sound frame fixed out put = (
    (span, on.cache, has_span _ stock on, on.does.1.size),
    (span, t, hand_moves w cpu (Some span) (Some t) _ stock hands held on (record { stock = sound; frame = frame; fixed = fixed }) (put_over w.hands taken hands cpu (Some t) out put)),
  )

  pub slab_is_wrong : (back : Tag) (stock : List SpaceState) (taken hands : List (Option Tag)) → OnSlab arena cache (λ a b. AddOf a span (Err (adding.WrongSize back)) b) w.stock stock
      → taken ≡ set w.hands cpu None → hands ≡ set taken cpu (Some back) → EndsAs (events.SlabAdds cpu arena cache) (Refused faults.WrongSize) w (record w { stock = stock; hands = hands })
  slab_is_wrong back stock taken hands on out put =
      let stays = slab_same arena cache _ w.stock stock on on.does.1.unchanged in
      let again = put_same w.hands taken hands cpu span back held out put on.does.1.handed_back in
      ((span, on.cache, has_span _ stock on, on.does.0), λ j. record w { stock = stays j; hands = again j })

  pub slab_wants_memory : (back : Tag) (stock : List SpaceState) (taken hands : List (Option Tag)) → OnSlab arena cache (λ a b. AddOf a span (Err (adding.NoMemory back)) b) w.stock stock
      → taken ≡ set w.hands cpu None → hands ≡ set taken cpu (Some back) → EndsAs (events.SlabAdds cpu arena cache) NoMemory w (record w { stock = stock; hands = hands })
  slab_wants_memory back stock taken hands on out put =
      let stays = slab_same arena cache _ w.stock stock on on.does.2.unchanged in
      let again = put_same w.hands taken hands cpu span back held out put on.does.2.handed_back in
      ((span, on.cache, has_span _ stock on, on.does.0), λ j. record w { stock = stays j; hands = again j })

pub never_overlaps : (fault : AddFault Tag) → ((b : Tag) → fault ≡ adding.WrongSize b → ⊥) → ((b : Tag) → fault ≡ adding.NoMemory b → ⊥) → NeverOverlaps (Err fault) → ⊥
never_overlaps (adding.WrongSize b) size memory never = size b refl
never_overlaps (adding.Overlaps b) size memory never = never
never_overlaps (adding.NoMemory b) size memory never = memory b refl

pub only_memory : (fault : SpanFault Tag) → ((b : Tag) → fault ≡ spans.NoMemory b → ⊥) → OnlyForMemory (Err fault) → ⊥
only_memory (spans.Overlaps b) memory never = never
only_memory (spans.NotAligned b) memory never = never
only_memory (spans.NoMemory b) memory never = memory b refl

-- Imports.

pub importer : (w : WorldState) (cpu child size : ℕ) → IsReady (events.AddCarves cpu child size) w → child < length w.stock
importer w cpu child size ready = slice_get_within w.stock child ready.1 ready.3

pub may_import : (w : WorldState) (cpu child size : ℕ) (span : Tag) (q : Request) (s : SpaceState) → IsReady (events.AddCarves cpu child size) w → HasInHand w cpu (Some span) → q ≡ plain_of size
    → slice_get w.stock child ≡ Some s → CanImport q span s
may_import w cpu child size span q s ready held asks at =
    let segment : ready.0 ≡ span = one_held w cpu ready.0 span ready.2 held in
    let space : ready.1 ≡ s = slice_get_one w.stock child ready.1 s ready.3 at in
    let a : CanImport (plain_of size) span ready.1 = subst (λ (t : Tag). CanImport (plain_of size) t ready.1) segment ready.4 in
    let b : CanImport (plain_of size) span s = subst (CanImport (plain_of size) span) space a in
    subst (λ (r : Request). CanImport r span s) (sym asks) b

pub import_wants_memory : (w : WorldState) (cpu child size : ℕ) (span back : Tag) (q : Request) (stock : List SpaceState) (taken hands : List (Option Tag)) → IsReady (events.AddCarves cpu child size) w
    → HasInHand w cpu (Some span) → OnArena child (λ a b. ImportOf a span q (Err (spans.NoMemory back)) b) w.stock stock → taken ≡ set w.hands cpu None → hands ≡ set taken cpu (Some back)
    → EndsAs (events.AddCarves cpu child size) NoMemory w (record w { stock = stock; hands = hands })
import_wants_memory w cpu child size span back q stock taken hands ready held on out put =
    let stays = arena_same child _ w.stock stock on on.does.1 in
    let again = put_same w.hands taken hands cpu span back held out put on.does.0.2 in
    (ready, λ j. record w { stock = stays j; hands = again j })

-- Depots.

pub depot_same : (k j : ℕ) (P : DepotState → DepotState → Type 0) (old new : List SpaceState) (on : OnDepot k j P old new) → on.depot ≡ on.cache.depot → new ≡ old
depot_same k j P old new on same =
    let caches : set on.space.caches j (with_depot on.depot on.cache) ≡ on.space.caches = ap (λ (x : DepotState). set on.space.caches j (with_depot x on.cache)) same ∙ set_same on.space.caches j on.cache on.among in
    on.after ∙ ap (λ (cs : List QuantumCacheState). set old k (with_caches cs on.space)) caches ∙ set_same old k on.space on.at

begins_reap : (d begun : DepotState) → Begins (after_trim d) begun → CanReap d
begins_reap d begun (inl draining) = inl draining.0
begins_reap d begun (inr (inl old)) = inr (inl (subst (λ (xs : List (List Tag)). 0 < length xs) (sym old.oldest) (omega arith)))
begins_reap d begun (inr (inr full)) = inr (inr full.some)

pub reaps_round : (w : WorldState) (cpu arena cache : ℕ) (t : Tag) (stock : List SpaceState) (hands : List (Option Tag)) → HasInHand w cpu None
    → OnDepot arena cache (λ a b. DepotReapOf a (Some t) b) w.stock stock → IsStock stock → Frames w.stock [] stock (t ∷ []) → plans_of stock ≡ plans_of w.stock → hands ≡ set w.hands cpu (Some t)
    → EndsAs (events.DepotReaps cpu arena cache) Done w (record w { stock = stock; hands = hands })
reaps_round w cpu arena cache t stock hands empty on sound frame fixed moved = (
  (empty, (on.cache, record { space = on.space; at = on.at; among = on.among }, begins_reap on.cache.depot on.does.0 on.does.1)),
  (t, hand_moves w cpu None (Some t) _ stock hands empty on (record { stock = sound; frame = frame; fixed = fixed }) moved),
)

-- where a round may be reaped, one is
pub reaps_no_round : (stock new : List SpaceState) (arena cache : ℕ) → OnDepot arena cache (λ a b. DepotReapOf a None b) stock new → (c : QuantumCacheState) × IsCacheAt stock arena cache c × CanReap c.depot → ⊥
reaps_no_round stock new arena cache on (c, at, can) =
    let is : on.cache ≡ c = one_cache stock arena cache on.cache c (record { space = on.space; at = on.at; among = on.among }) at in
    on.does.0 (subst (λ (x : QuantumCacheState). CanReap x.depot) (sym is) can)

pub ticks : (w : WorldState) (arena cache : ℕ) (stock : List SpaceState) → OnDepot arena cache (λ a b. b ≡ after_tick a) w.stock stock
    → IsStock stock → Frames w.stock [] stock [] → plans_of stock ≡ plans_of w.stock → EndsAs (events.Ticks arena cache) Done w (record w { stock = stock })
ticks w arena cache stock on sound frame fixed = (
  (on.cache, record { space = on.space; at = on.at; among = on.among }),
  record { stock = stock; does = on; step = record { stock = sound; frame = frame; fixed = fixed }; after = refl },
)

pub resizes : (w : WorldState) (arena cache size : ℕ) (stock : List SpaceState) → IsSize size → OnDepot arena cache (λ a b. ResizeOf a size (Ok tt) b) w.stock stock
    → IsStock stock → Frames w.stock [] stock [] → plans_of stock ≡ plans_of w.stock → EndsAs (events.Resizes arena cache size) Done w (record w { stock = stock })
resizes w arena cache size stock sized on sound frame fixed = (
  (on.cache, record { space = on.space; at = on.at; among = on.among }, sized, on.does.0),
  record { stock = stock; does = on; step = record { stock = sound; frame = frame; fixed = fixed }; after = refl },
)

pub resize_is_no_greater : (w : WorldState) (arena cache size : ℕ) (stock : List SpaceState) (fault : NotGreater) → IsSize size → OnDepot arena cache (λ a b. ResizeOf a size (Err fault) b) w.stock stock
    → EndsAs (events.Resizes arena cache size) (Refused faults.NotGreater) w (record w { stock = stock })
resize_is_no_greater w arena cache size stock fault sized on =
    let same = depot_same arena cache _ w.stock stock on on.does.1 in
    ((on.cache, record { space = on.space; at = on.at; among = on.among }, sized, on.does.0), λ j. record w { stock = same j })

-- Tries.

pub tried : (event : WorldEvent) (Move : WorldState → WorldState → Type 0) (outcome : Outcome) (w v : WorldState) → IsEnabled event w → MayWantMemory event w
    → (Move w v → MovesBy event w v) → Tries Move outcome w v → EndsAs event outcome w v
tried event Move Done w v enabled may is tries = (enabled, is tries)
tried event Move NotEnabled w v enabled may is tries = absurd tries
tried event Move (Refused why) w v enabled may is tries = absurd tries
tried event Move NoMemory w v enabled may is tries = (may, tries)
