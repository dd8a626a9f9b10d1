-- What a drain and a reaping leave in the hand.
use Rattle.std.proofs.Common.{◌≡◌, ℕ, ◌-◌, zero, suc, List, [], ◌∷◌, Option, Some, None, Result, Ok, Err, length, refl, subst}
use Rattle.deed_core.specs.Tag.{Tag}
use Rattle.arena_tree.specs.declared.levels.Level.{Level}
use Rattle.arena_tree.specs.declared.part_faults.ReturnFault.TheVariants as returning
use Rattle.arena_tree.specs.declared.part_faults.Stopped.{Stopped}
use Rattle.arena_tree.specs.Events.{hand_of_answer}
use Rattle.arena_tree.specs.Plans.{Plan, Done, Handles}
use Rattle.arena_tree.specs.Climbs.{ReturnEnd, return_left, return_plan}
use Rattle.arena_tree.proofs.LawProofs.{handles_then, handles_return}
use Rattle.quantum_cache.specs.declared.reaps.Reaping.{Reaping}
use Rattle.quantum_cache.specs.Caches.{chain_in, if_ok, over_caches, over_arenas}
use Rattle.quantum_cache.specs.Drains.{Turn, drain_end, on_put_back, on_drain_pop, drain_turn, on_turn, drain_cache_plan, drain_arena_plan}
use Rattle.quantum_cache.specs.Frees.{put_chunk}
use Rattle.quantum_cache.specs.Laws.{emptying_left, drain_left, reap_left, DrainHandles, ReapArenaHandles, ReapHandles}
use Rattle.quantum_cache.specs.Reaps.{LookEnd, ReapEnd, on_return, on_depot_reap, reap_round, on_slab_reap, reap_slab, on_look, looks_in_turn, reap_steps, reap_cache, reap_arena_plan}
use Rattle.quantum_cache.specs.Sizes.{caches_in}
use Rattle.quantum_cache.proofs.FreeHands.{handles_put}

-- caches and arenas one after another, each with an empty hand before it, and after it where it ended well
module _ {X F : Type 0} (left : Result X F → Option Tag) (each : ℕ → X → Plan (Result X F)) (empty : (x : X) → None ≡ left (Ok x)) (handles : (k : ℕ) (x : X) → Handles left (each k x) None) where
  handles_ok : (next : X → Plan (Result X F)) → ((x : X) → Handles left (next x) None) → (r : Result X F) → Handles left (if_ok next r) (left r)
  handles_ok next w (Ok x) = subst (Handles left (next x)) (empty x) (w x)
  handles_ok next w (Err f) = refl

  pub handles_caches : (all k : ℕ) (x : X) → Handles left (over_caches each all k x) None
  handles_caches all zero x = empty x
  handles_caches all (suc k) x = handles_then left left (each (all - k) x) (if_ok (over_caches each all k)) None (handles (all - k) x) (handles_ok (over_caches each all k) (handles_caches all k))

  pub handles_arenas : (end : ℕ) (x : X) → Handles left (over_arenas each end x) None
  handles_arenas zero x = empty x
  handles_arenas (suc id) x = handles_then left left (each id x) (if_ok (over_arenas each id)) None (handles id x) (handles_ok (over_arenas each id) (handles_arenas id))

-- a drain
abbrev turn_left : Turn → Option Tag
turn_left None = None
turn_left (Some r) = drain_left (drain_end r)

handles_turn : (arena cache : ℕ) → Handles turn_left (drain_turn arena cache) None
unfolding drain_turn
handles_turn arena cache = (refl, popped)
  where
    ended : (r : ReturnEnd) → return_left r ≡ turn_left (on_put_back r)
    ended (Ok u) = refl
    ended (Err (returning.Stuck t)) = refl
    ended (Err (returning.Stopped t)) = refl

    popped : (x : Result (Option Tag) Stopped) → Handles turn_left (on_drain_pop x) (hand_of_answer (λ _. None) x)
    popped (Ok None) = refl
    popped (Ok (Some t)) = handles_then return_left turn_left (put_chunk t) (λ r. Done (on_put_back r)) (Some t) (handles_put t) ended
    popped (Err e) = refl

handles_drain : (turns arena cache : ℕ) → Handles drain_left (drain_cache_plan turns arena cache) None
handles_drain zero arena cache = refl
handles_drain (suc n) arena cache = handles_then turn_left drain_left (drain_turn arena cache) (on_turn (drain_cache_plan n arena cache)) None (handles_turn arena cache) (goes_on (handles_drain n arena cache))
  where
    goes_on : Handles drain_left (drain_cache_plan n arena cache) None → (a : Turn) → Handles drain_left (on_turn (drain_cache_plan n arena cache) a) (turn_left a)
    goes_on again None = again
    goes_on again (Some r) = refl

handles_drain_arena : (turns : ℕ) (chain : List Level) → Handles drain_left (drain_arena_plan turns chain) None
handles_drain_arena turns [] = refl
handles_drain_arena turns (l ∷ up) = handles_caches drain_left (λ cache (u : Unit {0}). drain_cache_plan turns l.id cache) (λ u. refl) (λ k u. handles_drain turns l.id k) (caches_in l) (caches_in l) tt

pub drain_handles : DrainHandles
drain_handles turns arenas = handles_arenas drain_left (λ id (u : Unit {0}). drain_arena_plan turns (chain_in arenas id)) (λ u. refl) (λ id u. handles_drain_arena turns (chain_in arenas id)) (length arenas) tt

-- a reaping
abbrev look_left : LookEnd → Option Tag
look_left (Ok o) = None
look_left (Err f) = emptying_left f

handles_returned : (units : ℕ) (r : ReturnEnd) → return_left r ≡ look_left (on_return units r)
handles_returned units (Ok u) = refl
handles_returned units (Err (returning.Stuck t)) = refl
handles_returned units (Err (returning.Stopped t)) = refl

handles_reap_round : (arena cache : ℕ) → Handles look_left (reap_round arena cache) None
unfolding reap_round
handles_reap_round arena cache = (refl, taken)
  where
    taken : (x : Result (Option Tag) Stopped) → Handles look_left (on_depot_reap x) (hand_of_answer (λ _. None) x)
    taken (Ok None) = refl
    taken (Ok (Some t)) = handles_then return_left look_left (put_chunk t) (λ r. Done (on_return 0 r)) (Some t) (handles_put t) (handles_returned 0)
    taken (Err e) = refl

handles_reap_slab : (chain : List Level) (arena cache : ℕ) → Handles look_left (reap_slab chain arena cache) None
unfolding reap_slab
handles_reap_slab chain arena cache = (refl, taken)
  where
    taken : (x : Result (Option Tag) Stopped) → Handles look_left (on_slab_reap chain x) (hand_of_answer (λ _. None) x)
    taken (Ok None) = refl
    taken (Ok (Some t)) = handles_then return_left look_left (return_plan chain t) (λ r. Done (on_return t.holding.range.len r)) (Some t) (handles_return chain t) (handles_returned t.holding.range.len)
    taken (Err e) = refl

handles_up_to : (p : Plan LookEnd) → Handles look_left p None → (n units : ℕ) → Handles reap_left (looks_in_turn p n units) None
handles_up_to p w zero units = refl
handles_up_to p w (suc n) units = handles_then look_left reap_left p (on_look (looks_in_turn p n) n units) None w (looked (handles_up_to p w n))
  where
    looked : ((sum : ℕ) → Handles reap_left (looks_in_turn p n sum) None) → (a : LookEnd) → Handles reap_left (on_look (looks_in_turn p n) n units a) (look_left a)
    looked again (Ok (Some more)) = again _
    looked again (Ok None) = refl
    looked again (Err f) = refl

handles_reap_cache : (chain : List Level) (arena cache : ℕ) (r : Reaping) → Handles reap_left (reap_cache chain arena cache r) None
unfolding reap_cache
handles_reap_cache chain arena cache r =
    handles_then reap_left reap_left (reap_steps (reap_round arena cache) r) (if_ok (reap_steps (reap_slab chain arena cache))) None (handles_up_to (reap_round arena cache) (handles_reap_round arena cache) r.left r.units) slabs
  where
    slabs : (a : ReapEnd) → Handles reap_left (if_ok (reap_steps (reap_slab chain arena cache)) a) (reap_left a)
    slabs (Ok x) = handles_up_to (reap_slab chain arena cache) (handles_reap_slab chain arena cache) x.left x.units
    slabs (Err f) = refl

pub reap_arena_handles : ReapArenaHandles
reap_arena_handles [] r = refl
reap_arena_handles (l ∷ up) r = handles_caches reap_left (reap_cache (l ∷ up) l.id) (λ x. refl) (handles_reap_cache (l ∷ up) l.id) (caches_in l) (caches_in l) r

pub reap_handles : ReapHandles
reap_handles arenas limit = handles_arenas reap_left (λ id. reap_arena_plan (chain_in arenas id)) (λ x. refl) (λ id. reap_arena_handles (chain_in arenas id)) (length arenas) (record { left = limit; units = 0 })
