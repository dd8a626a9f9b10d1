-- A drain and a reaping end well.
use Rattle.std.proofs.Common.{◌≡◌, ℕ, ◌-◌, ◌<◌, zero, suc, List, [], ◌∷◌, Option, Some, None, Result, Ok, Err, length, refl, sym, ap, ◌∙◌, arith}
use Rattle.deed_core.specs.Tag.{Tag}
use Rattle.arena_tree.specs.declared.levels.Level.{Level}
use Rattle.arena_tree.specs.declared.trees.TreeArena.{TreeArena}
use Rattle.arena_tree.specs.declared.part_faults.Stopped.{Stopped}
use Rattle.arena_tree.specs.Chains.{IsChain, first_id}
use Rattle.arena_tree.specs.Climbs.{ReturnEnd, return_plan}
use Rattle.arena_tree.specs.Events.{SlabReap, DepotReap, Pop}
use Rattle.arena_tree.specs.Plans.{Plan, Done}
use Rattle.arena_tree.specs.Sound.{Sound}
use Rattle.arena_tree.specs.Trees.{nodes_of}
use Rattle.quantum_cache.specs.Caches.{chain_in, if_ok, over_caches, over_arenas}
use Rattle.quantum_cache.specs.Drains.{Turn, drain_end, on_put_back, on_drain_pop, drain_turn, on_turn, drain_cache_plan, drain_arena_plan, drain_plan}
use Rattle.quantum_cache.specs.declared.reaps.Reaping.{Reaping}
use Rattle.quantum_cache.specs.Frees.{put_chunk}
use Rattle.quantum_cache.specs.Reaps.{LookEnd, ReapEnd, on_return, on_depot_reap, reap_round, on_slab_reap, reap_slab, on_look, looks_in_turn, reap_steps, reap_cache, reap_arena_plan, reap_plan}
use Rattle.quantum_cache.specs.Sizes.{caches_in}
use Rattle.local_calls.specs.Asked.{DoesWell, EndsWell}
use Rattle.local_calls.specs.Laws.{DrainsWell}
use Rattle.local_calls.proofs.ClimbWells.{ends_then, well_return}
use Rattle.local_calls.proofs.FreeWells.{well_put}

-- caches and arenas one after another
module _ {X F : Type 0} (arenas : List TreeArena) (post : Result X F → Type 0) (ok : (x : X) → post (Ok x)) (each : ℕ → X → Plan (Result X F)) where
  ends_ok : (next : X → Plan (Result X F)) → ((x : X) → EndsWell arenas post (next x)) → (r : Result X F) → post r → EndsWell arenas post (if_ok next r)
  ends_ok next w (Ok x) p = w x
  ends_ok next w (Err f) p = p

  pub ends_caches : ((k : ℕ) (x : X) → EndsWell arenas post (each k x)) → (all k : ℕ) (x : X) → EndsWell arenas post (over_caches each all k x)
  ends_caches w all zero x = ok x
  ends_caches w all (suc k) x = ends_then arenas post post (each (all - k) x) (if_ok (over_caches each all k)) (w (all - k) x) (ends_ok (over_caches each all k) (ends_caches w all k))

  pub ends_arenas : (end : ℕ) → ((k : ℕ) (x : X) → k < end → EndsWell arenas post (each k x)) → (x : X) → EndsWell arenas post (over_arenas each end x)
  ends_arenas zero w x = ok x
  ends_arenas (suc id) w x = ends_then arenas post post (each id x) (if_ok (over_arenas each id)) (w id x (omega arith)) (ends_ok (over_arenas each id) (ends_arenas id (λ k y less. w k y (omega (arith, less)))))

-- a drain
abbrev TurnsWell : Turn → Type 0
TurnsWell None = Unit {0}
TurnsWell (Some r) = DrainsWell (drain_end r)

module _ (arenas : List TreeArena) where
  well_turn : (arena cache : ℕ) → EndsWell arenas TurnsWell (drain_turn arena cache)
  unfolding drain_turn
  well_turn arena cache = (tt, popped)
    where
      ended : (r : ReturnEnd) → DoesWell r → TurnsWell (on_put_back r)
      ended (Ok u) well = tt
      ended (Err f) well = absurd well

      popped : (x : Result (Option Tag) Stopped) → Sound (nodes_of arenas) (Pop arena cache) x → DoesWell x → EndsWell arenas TurnsWell (on_drain_pop x)
      popped (Ok None) s well = tt
      popped (Ok (Some t)) s well = ends_then arenas (λ (r : ReturnEnd). DoesWell r) TurnsWell (put_chunk t) (λ r. Done (on_put_back r)) (well_put arenas t cache s.cached) ended
      popped (Err e) s well = absurd well

  well_drain_cache : (turns arena cache : ℕ) → EndsWell arenas DrainsWell (drain_cache_plan turns arena cache)
  well_drain_cache zero arena cache = tt
  well_drain_cache (suc n) arena cache = ends_then arenas TurnsWell DrainsWell (drain_turn arena cache) (on_turn (drain_cache_plan n arena cache)) (well_turn arena cache) (goes_on (well_drain_cache n arena cache))
    where
      goes_on : EndsWell arenas DrainsWell (drain_cache_plan n arena cache) → (a : Turn) → TurnsWell a → EndsWell arenas DrainsWell (on_turn (drain_cache_plan n arena cache) a)
      goes_on again None w = again
      goes_on again (Some r) w = w

  well_drain_arena : (turns : ℕ) (chain : List Level) → EndsWell arenas DrainsWell (drain_arena_plan turns chain)
  well_drain_arena turns [] = tt
  well_drain_arena turns (l ∷ up) = ends_caches arenas DrainsWell (λ u. tt) (λ cache (u : Unit {0}). drain_cache_plan turns l.id cache) (λ k u. well_drain_cache turns l.id k) (caches_in l) (caches_in l) tt

  pub well_drain : (turns : ℕ) → EndsWell arenas DrainsWell (drain_plan turns arenas)
  well_drain turns = ends_arenas arenas DrainsWell (λ u. tt) (λ id (u : Unit {0}). drain_arena_plan turns (chain_in arenas id)) (length arenas) (λ id u less. well_drain_arena turns (chain_in arenas id)) tt

  -- a reaping
  well_returned : (units : ℕ) (r : ReturnEnd) → DoesWell r → DoesWell (on_return units r)
  well_returned units (Ok u) well = tt
  well_returned units (Err f) well = absurd well

  well_reap_round : (arena cache : ℕ) → EndsWell arenas (λ (r : LookEnd). DoesWell r) (reap_round arena cache)
  unfolding reap_round
  well_reap_round arena cache = (tt, taken)
    where
      taken : (x : Result (Option Tag) Stopped) → Sound (nodes_of arenas) (DepotReap arena cache) x → DoesWell x → EndsWell arenas (λ (r : LookEnd). DoesWell r) (on_depot_reap x)
      taken (Ok None) s well = tt
      taken (Ok (Some t)) s well = ends_then arenas (λ (r : ReturnEnd). DoesWell r) (λ (r : LookEnd). DoesWell r) (put_chunk t) (λ r. Done (on_return 0 r)) (well_put arenas t cache s.cached) (well_returned 0)
      taken (Err e) s well = absurd well

  well_reap_slab : (chain : List Level) (arena cache : ℕ) → IsChain (nodes_of arenas) chain → first_id chain ≡ Some arena → EndsWell arenas (λ (r : LookEnd). DoesWell r) (reap_slab chain arena cache)
  unfolding reap_slab
  well_reap_slab chain arena cache is first = (tt, taken)
    where
      taken : (x : Result (Option Tag) Stopped) → Sound (nodes_of arenas) (SlabReap arena cache) x → DoesWell x → EndsWell arenas (λ (r : LookEnd). DoesWell r) (on_slab_reap chain x)
      taken (Ok None) s well = tt
      taken (Ok (Some t)) s well = ends_then arenas (λ (r : ReturnEnd). DoesWell r) (λ (r : LookEnd). DoesWell r) (return_plan chain t) (λ r. Done (on_return t.holding.range.len r)) (well_return arenas chain t is (first ∙ ap Some (sym s.of_arena)) s.direct) (well_returned t.holding.range.len)
      taken (Err e) s well = absurd well

  well_up_to : (p : Plan LookEnd) → EndsWell arenas (λ (r : LookEnd). DoesWell r) p → (n units : ℕ) → EndsWell arenas (λ (r : ReapEnd). DoesWell r) (looks_in_turn p n units)
  well_up_to p w zero units = tt
  well_up_to p w (suc n) units = ends_then arenas (λ (r : LookEnd). DoesWell r) (λ (r : ReapEnd). DoesWell r) p (on_look (looks_in_turn p n) n units) w (looked (well_up_to p w n))
    where
      looked : ((sum : ℕ) → EndsWell arenas (λ (r : ReapEnd). DoesWell r) (looks_in_turn p n sum)) → (a : LookEnd) → DoesWell a → EndsWell arenas (λ (r : ReapEnd). DoesWell r) (on_look (looks_in_turn p n) n units a)
      looked again (Ok (Some more)) well = again _
      looked again (Ok None) well = tt
      looked again (Err f) well = absurd well

  well_reap_cache : (chain : List Level) (arena cache : ℕ) → IsChain (nodes_of arenas) chain → first_id chain ≡ Some arena → (r : Reaping) → EndsWell arenas (λ (a : ReapEnd). DoesWell a) (reap_cache chain arena cache r)
  unfolding reap_cache
  well_reap_cache chain arena cache is first r =
      ends_then arenas (λ (a : ReapEnd). DoesWell a) (λ (a : ReapEnd). DoesWell a) (reap_steps (reap_round arena cache) r) (if_ok (reap_steps (reap_slab chain arena cache))) (well_up_to (reap_round arena cache) (well_reap_round arena cache) r.left r.units) slabs
    where
      slabs : (a : ReapEnd) → DoesWell a → EndsWell arenas (λ (b : ReapEnd). DoesWell b) (if_ok (reap_steps (reap_slab chain arena cache)) a)
      slabs (Ok x) well = well_up_to (reap_slab chain arena cache) (well_reap_slab chain arena cache is first) x.left x.units
      slabs (Err f) well = absurd well

  pub well_reap_arena : (chain : List Level) → IsChain (nodes_of arenas) chain → (r : Reaping) → EndsWell arenas (λ (a : ReapEnd). DoesWell a) (reap_arena_plan chain r)
  well_reap_arena [] is r = tt
  well_reap_arena (l ∷ up) is r = ends_caches arenas (λ (a : ReapEnd). DoesWell a) (λ x. tt) (reap_cache (l ∷ up) l.id) (λ k. well_reap_cache (l ∷ up) l.id k is refl) (caches_in l) (caches_in l) r

  pub well_reap : ((id : ℕ) → id < length arenas → IsChain (nodes_of arenas) (chain_in arenas id)) → (limit : ℕ) → EndsWell arenas (λ (a : ReapEnd). DoesWell a) (reap_plan arenas limit)
  well_reap are limit = ends_arenas arenas (λ (a : ReapEnd). DoesWell a) (λ x. tt) (λ id. reap_arena_plan (chain_in arenas id)) (length arenas) (λ id r less. well_reap_arena (chain_in arenas id) (are id less) r) (record { left = limit; units = 0 })
