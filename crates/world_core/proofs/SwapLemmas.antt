-- How swaps with depots end events, and changes of magazines.
use Rattle.std.proofs.Common.{◌≡◌, ◌≢◌, ◌⊎◌, ℕ, ◌+◌, ◌<◌, ◌≤◌, List, [], ◌∷◌, ◌++◌, length, set, Ok, Err, refl, sym, subst, ap, ◌∙◌, inl, inr, arith}
use Rattle.std.proofs.lemmas.List.{length-append}
use Rattle.std.proofs.lemmas.List.Sums.{sum_by-append}
use Rattle.deed_core.specs.Weights.{WeighSame}
use Rattle.magazine_layer.specs.Magazines.{CpuCacheState, MagazineState, IsSize, IsShaped, BothEmpty, BothFull, cache_rounds, empty_magazine, after_change}
use Rattle.magazine_layer.specs.Depots.{DepotState}
use Rattle.magazine_layer.specs.Calls.{SwapFullOf, SwapEmptyOf, PutFullOf}
use Rattle.magazine_layer.specs.declared.faults.FullFault.TheVariants as fulling
use Rattle.magazine_layer.specs.declared.faults.EmptyFault.TheVariants as emptying
use Rattle.magazine_layer.specs.declared.faults.PutFullFault.TheVariants as putting
use Rattle.stock.specs.Spaces.{SpaceState, QuantumCacheState, IsCacheAt, HasCache, plans_of}
use Rattle.stock.specs.Stocks.{IsStock}
use Rattle.stock.specs.Accounts.{Frames}
use Rattle.stock.specs.Steps.{OnDepot}
use Rattle.stock.specs.OwnCaches.{OwnCacheState, IsOwnCache, IsAtIndexesOf, own_rounds}
use Rattle.stock.proofs.LawProofs.{out_weighs}
use Rattle.stock_audit.specs.Keeping.{IsStep}
use Rattle.world_core.specs.WorldState.{WorldState}
use Rattle.world_core.specs.Moves.{IsOwnFor, OwnMoves}
use Rattle.world_core.specs.IsWorld.{IsWorld}
use Rattle.world_core.specs.Events.{EndsAs, HasOwn, HasDepot, CanGrowTo}
use Rattle.world_core.specs.declared.events.WorldEvent.TheVariants as events
use Rattle.world_core.specs.declared.events.EventFault.TheVariants as faults
use Rattle.world_core.specs.declared.events.Outcome.TheVariants.{Done, NoMemory, Refused}
use Rattle.world_core.proofs.CallLemmas.{depot_same}
use Rattle.world_core.proofs.OwnLemmas.{one_own, own_in, caches_same}

not_nil : {X : Type 0} (xs : List X) (x : X) → xs ++ x ∷ [] ≡ [] → ⊥
not_nil xs x is = (let e = ap length is in omega (arith, e, length-append xs (x ∷ [])))

module _ (w : WorldState) (cpu arena cache index : ℕ) (own : OwnCacheState) (is : IsWorld w) (here : IsOwnFor w cpu arena cache index own) where
  -- the CPU's one cache for it isn't so
  pub not_so : (Is : CpuCacheState → Type 0) → ¬ Is own.cpu → ¬ HasOwn w cpu arena cache Is
  not_so Is not has = not (subst (λ (o : OwnCacheState). Is o.cpu) (one_own w cpu arena cache has.index index has.own own is has.here here) has.is)

  pub so : (Is : CpuCacheState → Type 0) → Is own.cpu → HasOwn w cpu arena cache Is
  so Is is_so = record { index = index; own = own; here = here; is = is_so }

  -- the depot that it is for
  depot_of : (P : DepotState → DepotState → Type 0) (s v : List SpaceState) → OnDepot own.arena own.cache P s v → OnDepot arena cache P s v
  depot_of P s v on = subst (λ (k : ℕ). OnDepot k cache P s v) here.home (subst (λ (j : ℕ). OnDepot own.arena j P s v) here.number on)

  has_depot : (P : DepotState → DepotState → Type 0) (v : List SpaceState) (Are : CpuCacheState → DepotState → Type 0) (on : OnDepot arena cache P w.stock v) → Are own.cpu on.cache.depot
      → HasDepot w cpu arena cache Are
  has_depot P v Are on are = record { index = index; own = own; depot = on.cache; here = here; at = record { space = on.space; at = on.at; among = on.among }; are = are }

  module _ (next : OwnCacheState) (same : IsAtIndexesOf own next) (stock : List SpaceState) (caches : List OwnCacheState) (gone : caches ≡ set w.caches index next) where
    left : (P : DepotState → DepotState → Type 0) (on : OnDepot arena cache P w.stock stock) → on.depot ≡ on.cache.depot → next.cpu ≡ own.cpu → record w { stock = stock; caches = caches } ≡ w
    left P on depot cpus =
        let s = depot_same arena cache P w.stock stock on depot in
        let c = gone ∙ caches_same w index own next here.mine.at same cpus in
        λ j. record w { stock = s j; caches = c j }

    pub full_is_old : (m : ℕ) → BothEmpty own.cpu → OnDepot own.arena own.cache (λ a b. SwapFullOf own.cpu a (Err (fulling.OldSize m)) next.cpu b) w.stock stock
        → EndsAs (events.SwapsFull cpu arena cache) (Refused faults.OldSize) w (record w { stock = stock; caches = caches })
    full_is_old m both at = (let on = depot_of _ w.stock stock at in
        (has_depot _ stock _ on (both, on.does.0), left _ on on.does.3 on.does.2))

    pub full_is_none : BothEmpty own.cpu → OnDepot own.arena own.cache (λ a b. SwapFullOf own.cpu a (Err fulling.NoneFull) next.cpu b) w.stock stock
        → EndsAs (events.SwapsFull cpu arena cache) (Refused faults.NoneFull) w (record w { stock = stock; caches = caches })
    full_is_none both at = (let on = depot_of _ w.stock stock at in
        (has_depot _ stock _ on (both, on.does.0, on.does.1), left _ on on.does.3 on.does.2))

    pub empty_is_old : (m : ℕ) → BothFull own.cpu → OnDepot own.arena own.cache (λ a b. SwapEmptyOf own.cpu a (Err (emptying.OldSize m)) next.cpu b) w.stock stock
        → EndsAs (events.SwapsEmpty cpu arena cache) (Refused faults.OldSize) w (record w { stock = stock; caches = caches })
    empty_is_old m both at = (let on = depot_of _ w.stock stock at in
        (has_depot _ stock _ on (both, on.does.0), left _ on on.does.3 on.does.2))

    pub empty_is_none : BothFull own.cpu → OnDepot own.arena own.cache (λ a b. SwapEmptyOf own.cpu a (Err emptying.NoneEmpty) next.cpu b) w.stock stock
        → EndsAs (events.SwapsEmpty cpu arena cache) (Refused faults.NoneEmpty) w (record w { stock = stock; caches = caches })
    empty_is_none both at = (let on = depot_of _ w.stock stock at in
        (has_depot _ stock _ on (both, on.does.0, on.does.1), left _ on on.does.3 on.does.2))

    module _ (magazine : MagazineState) (sized : magazine.size ≡ own.cpu.size) where
      pub fresh_is_old : (m : ℕ) (back : MagazineState) → BothFull own.cpu → OnDepot own.arena own.cache (λ a b. PutFullOf own.cpu a magazine (Err (putting.OldSize m back)) next.cpu b) w.stock stock
          → EndsAs (events.SwapsFresh cpu arena cache) (Refused faults.OldSize) w (record w { stock = stock; caches = caches })
      fresh_is_old m back both at = (let on = depot_of _ w.stock stock at in
          (has_depot _ stock _ on (both, either on.cache.depot.size on.does.0), left _ on on.does.4 on.does.3))
        where
          either : (d : ℕ) → (own.cpu.size ≢ d) ⊎ (magazine.size ≢ d) → own.cpu.size ≢ d
          either d (inl other) = other
          either d (inr other) = λ e. other (sized ∙ e)

      pub fresh_wants_memory : (back : MagazineState) → HasDepot w cpu arena cache (λ c d. BothFull c × (c.size ≡ d.size)) → OnDepot own.arena own.cache (λ a b. PutFullOf own.cpu a magazine (Err (putting.NoMemory back)) next.cpu b) w.stock stock
          → EndsAs (events.SwapsFresh cpu arena cache) NoMemory w (record w { stock = stock; caches = caches })
      fresh_wants_memory back enabled at = (let on = depot_of _ w.stock stock at in (enabled, left _ on on.does.4 on.does.3))

    module _ (sound : IsOwnCache next) (shaped : IsShaped next.cpu) where
      moved : (Does : (old new : CpuCacheState) → (before after : List SpaceState) → Type 0) → Does own.cpu next.cpu w.stock stock → IsStep w.stock (own_rounds own) stock (own_rounds next)
          → OwnMoves cpu arena cache Does w (record w { stock = stock; caches = caches })
      moved Does does step = record {
        index = index;
        own = own;
        next = next;
        stock = stock;
        here = here;
        does = does;
        goes = record { same = same; sound = sound; shaped = shaped };
        step = step;
        after = λ j. record w { stock = stock; caches = gone j };
      }

      module _ (rightly : IsStock stock) (frame : Frames w.stock (cache_rounds own.cpu) stock (cache_rounds next.cpu)) (fixed : plans_of stock ≡ plans_of w.stock) where
        step : IsStep w.stock (own_rounds own) stock (own_rounds next)
        step = record { stock = rightly; frame = frame; fixed = fixed }

        pub swaps_full : BothEmpty own.cpu → OnDepot own.arena own.cache (λ a b. SwapFullOf own.cpu a (Ok tt) next.cpu b) w.stock stock
            → EndsAs (events.SwapsFull cpu arena cache) Done w (record w { stock = stock; caches = caches })
        swaps_full both at = (let on = depot_of _ w.stock stock at in
            (has_depot _ stock _ on (both, on.does.sized, λ none. not_nil _ _ (sym on.does.newest ∙ none)), moved _ on step))

        pub swaps_empty : BothFull own.cpu → OnDepot own.arena own.cache (λ a b. SwapEmptyOf own.cpu a (Ok tt) next.cpu b) w.stock stock
            → EndsAs (events.SwapsEmpty cpu arena cache) Done w (record w { stock = stock; caches = caches })
        swaps_empty both at = (let on = depot_of _ w.stock stock at in
            (has_depot _ stock _ on (both, on.does.sized, λ none. (omega (arith, on.does.one, none))), moved _ on step))

        pub swaps_fresh : (magazine : MagazineState) → magazine ≡ empty_magazine own.cpu.size → BothFull own.cpu → OnDepot own.arena own.cache (λ a b. PutFullOf own.cpu a magazine (Ok tt) next.cpu b) w.stock stock
            → EndsAs (events.SwapsFresh cpu arena cache) Done w (record w { stock = stock; caches = caches })
        swaps_fresh magazine made both at = (let put = subst (λ (m : MagazineState). OnDepot own.arena own.cache (λ a b. PutFullOf own.cpu a m (Ok tt) next.cpu b) w.stock stock) made at in
            let on = depot_of _ w.stock stock put in
            (has_depot _ stock _ on (both, on.does.sized.0), moved _ on step))

  -- the quantum cache that it is for stands
  pub cache_stands : HasCache w.stock arena cache
  cache_stands = subst (λ (k : ℕ). HasCache w.stock k cache) here.home (subst (λ (j : ℕ). HasCache w.stock own.arena j) here.number (own_in w index own is here.mine.at).has)

  -- the depot's size being told, what is so of the two
  pub as_told : (told : ℕ) → ((c : QuantumCacheState) → IsCacheAt w.stock arena cache c → told ≡ c.depot.size) → (Are : CpuCacheState → DepotState → Type 0) → ((d : DepotState) → told ≡ d.size → Are own.cpu d) → HasDepot w cpu arena cache Are
  as_told told tells Are are = (let has = cache_stands in
      record { index = index; own = own; depot = has.0; here = here; at = has.1; are = are has.0.depot (tells has.0 has.1) })

  -- where its magazines may change, the new ones are greater
  pub grows : (size : ℕ) → HasDepot w cpu arena cache (CanGrowTo size) → IsSize size × (own.cpu.size < size)
  grows size ready = subst (λ (o : OwnCacheState). IsSize size × (o.cpu.size < size)) (one_own w cpu arena cache ready.index index ready.own own is ready.here here) (ready.are.0, ready.are.1)

  -- the depot's size being told, they may change
  pub may_change : (size told : ℕ) → ((c : QuantumCacheState) → IsCacheAt w.stock arena cache c → told ≡ c.depot.size) → IsSize size → own.cpu.size < size → size ≤ told
      → HasDepot w cpu arena cache (CanGrowTo size)
  may_change size told tells sized greater least = (let has = cache_stands in
      record { index = index; own = own; depot = has.0; here = here; at = has.1; are = (sized, greater, omega (arith, least, tells has.0 has.1)) })

  -- or they may not
  pub may_not_shrink : (size : ℕ) → size ≤ own.cpu.size → ¬ HasDepot w cpu arena cache (CanGrowTo size)
  may_not_shrink size less ready = (let can = grows size ready in omega (arith, can.1, less))

  pub may_not_pass : (size told : ℕ) → ((c : QuantumCacheState) → IsCacheAt w.stock arena cache c → told ≡ c.depot.size) → told < size → ¬ HasDepot w cpu arena cache (CanGrowTo size)
  may_not_pass size told tells less ready = omega (arith, less, ready.are.2, tells ready.depot ready.at)

  pub changes : (size : ℕ) (next : OwnCacheState) (caches : List OwnCacheState) → HasDepot w cpu arena cache (CanGrowTo size) → next.cpu ≡ after_change size own.cpu → WeighSame (own_rounds own) (own_rounds next)
      → IsAtIndexesOf own next → IsOwnCache next → IsShaped next.cpu → caches ≡ set w.caches index next → EndsAs (events.Changes cpu arena cache size) Done w (record w { caches = caches })
  changes size next caches can changed weights same sound shaped gone = (
    can,
    moved next same w.stock caches gone sound shaped (λ c x s v. (x ≡ after_change size c) × (v ≡ s)) (changed, refl) (record {
      stock = is.parts.parts;
      frame = λ rest a. out_weighs w.stock (own_rounds own ++ rest) (own_rounds next ++ rest)
          (λ f. omega (arith, weights f, sum_by-append f (own_rounds own) rest, sum_by-append f (own_rounds next) rest)) a;
      fixed = refl;
    }),
  )

-- two magazines go into one of the next size
double : (a b : ℕ) → IsSize a → IsSize b → a < b → a + a ≤ b
double a b (inl x) (inl y) less = omega (arith, x, y, less)
double a b (inl x) (inr (inl y)) less = omega (arith, x, y, less)
double a b (inl x) (inr (inr (inl y))) less = omega (arith, x, y, less)
double a b (inl x) (inr (inr (inr y))) less = omega (arith, x, y, less)
double a b (inr (inl x)) (inl y) less = omega (arith, x, y, less)
double a b (inr (inl x)) (inr (inl y)) less = omega (arith, x, y, less)
double a b (inr (inl x)) (inr (inr (inl y))) less = omega (arith, x, y, less)
double a b (inr (inl x)) (inr (inr (inr y))) less = omega (arith, x, y, less)
double a b (inr (inr (inl x))) (inl y) less = omega (arith, x, y, less)
double a b (inr (inr (inl x))) (inr (inl y)) less = omega (arith, x, y, less)
double a b (inr (inr (inl x))) (inr (inr (inl y))) less = omega (arith, x, y, less)
double a b (inr (inr (inl x))) (inr (inr (inr y))) less = omega (arith, x, y, less)
double a b (inr (inr (inr x))) (inl y) less = omega (arith, x, y, less)
double a b (inr (inr (inr x))) (inr (inl y)) less = omega (arith, x, y, less)
double a b (inr (inr (inr x))) (inr (inr (inl y))) less = omega (arith, x, y, less)
double a b (inr (inr (inr x))) (inr (inr (inr y))) less = omega (arith, x, y, less)

pub has_room : (c : CpuCacheState) (m : ℕ) → IsShaped c → IsSize m → c.size < m → length (cache_rounds c) ≤ m
has_room c m shaped size less = elim shaped.whole [
  | inl none ↦ omega (arith, none, shaped.most, less, length-append c.previous c.loaded)
  | inr full ↦ omega (arith, full, shaped.most, double c.size m shaped.sized size less, length-append c.previous c.loaded)
]
