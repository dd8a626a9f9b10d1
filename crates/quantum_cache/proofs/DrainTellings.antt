-- What a drain tells.
use Rattle.std.proofs.Common.{◌≡◌, ◌≢◌, ℕ, ◌-◌, ◌<◌, ◌≤◌, zero, suc, List, [], ◌∷◌, Option, Some, None, Result, Ok, Err, length, refl, inl, arith, subst, sym, ◌∙◌}
use Rattle.std.specs.Prelude.{slice_get}
use Rattle.std.proofs.lemmas.Option.{slice_get_within}
use Rattle.deed_core.specs.Tag.{Tag}
use Rattle.arena_tree.specs.declared.levels.Level.{Level}
use Rattle.arena_tree.specs.declared.part_faults.ReturnFault.TheVariants as returning
use Rattle.arena_tree.specs.declared.part_faults.Stopped.{Stopped}
use Rattle.arena_tree.specs.declared.trees.TreeArena.{TreeArena}
use Rattle.arena_tree.specs.Chains.{Node}
use Rattle.arena_tree.specs.Climbs.{ReturnEnd}
use Rattle.arena_tree.specs.Events.{Pop}
use Rattle.arena_tree.specs.Plans.{Plan, Done}
use Rattle.arena_tree.specs.Told.{AnsweredEvent, Tells}
use Rattle.arena_tree.specs.Trees.{level_of}
use Rattle.arena_tree.proofs.LawProofs.{tells_then}
use Rattle.quantum_cache.specs.declared.emptying_faults.EmptyingFault.{EmptyingFault}
use Rattle.quantum_cache.specs.Caches.{rest_of_chain, chain_up, chain_in}
use Rattle.quantum_cache.specs.Drains.{Turn, DrainEnd, on_put_back, on_drain_pop, drain_turn, on_turn, drain_cache_plan, drain_arena_plan, drain_plan}
use Rattle.quantum_cache.specs.Frees.{put_chunk}
use Rattle.quantum_cache.specs.Looks.{WasLast, EmptyingTold, DrainTold, DrainTells}
use Rattle.quantum_cache.specs.Sizes.{caches_in}
use Rattle.quantum_cache.specs.Told.{FreeTold}
use Rattle.quantum_cache.proofs.FreeTellings.{told_put}
use Rattle.quantum_cache.proofs.LookTellings.{tells_all, Avoids, keeps_last, avoids_put, avoids_then, avoids_caches, KeyTold, KeysTold, tells_caches, tells_arenas}
use Rattle.quantum_cache.proofs.Tellings.{answered, tells_so}

-- each goes on
abbrev Live : Unit {0} → Type 0
Live u = Unit {0}

abbrev Fault : List AnsweredEvent → Option (EmptyingFault Tag) → Type 0
Fault now None = Unit {0}
Fault now (Some f) = EmptyingTold now f

abbrev Found : ℕ → List AnsweredEvent → ℕ → Type 0
Found arena now cache = WasLast (Pop arena cache) (Ok None) now

abbrev TurnTold : ℕ → ℕ → List AnsweredEvent → Turn → Type 0
TurnTold arena cache now None = Unit {0}
TurnTold arena cache now (Some (Ok u)) = WasLast (Pop arena cache) (Ok None) now
TurnTold arena cache now (Some (Err f)) = EmptyingTold now f

told_turn : (nodes : List Node) (arena cache : ℕ) (told : List AnsweredEvent) → Tells nodes (TurnTold arena cache) (drain_turn arena cache) told
unfolding drain_turn
told_turn nodes arena cache told = λ x s. popped x
  where
    ended : (r : ReturnEnd) (now : List AnsweredEvent) → FreeTold now r → TurnTold arena cache now (on_put_back r)
    ended (Ok u) now w = tt
    ended (Err (returning.Stuck t)) now w = w
    ended (Err (returning.Stopped t)) now w = w

    popped : (x : Result (Option Tag) Stopped) → Tells nodes (TurnTold arena cache) (on_drain_pop x) (answered (Pop arena cache) x ∷ told)
    popped (Ok None) = inl refl
    popped (Ok (Some t)) =
        let now : List AnsweredEvent = answered (Pop arena cache) (Ok (Some t)) ∷ told in
        tells_then nodes FreeTold (TurnTold arena cache) (put_chunk t) (λ r. Done (on_put_back r)) now (told_put nodes t now) ended
    popped (Err e) = refl

told_drain : (nodes : List Node) (turns arena cache : ℕ) (u : Unit {0}) (told : List AnsweredEvent) → Tells nodes (KeyTold nodes (λ k (v : Unit {0}). drain_cache_plan turns arena k) Live (Found arena) Fault cache u) (drain_cache_plan turns arena cache) told
told_drain nodes zero arena cache u told = tt
told_drain nodes (suc n) arena cache u told =
    tells_then nodes (TurnTold arena cache) (KeyTold nodes (λ k (v : Unit {0}). drain_cache_plan (suc n) arena k) Live (Found arena) Fault cache u) (drain_turn arena cache) (on_turn (drain_cache_plan n arena cache)) told (told_turn nodes arena cache told) (goes_on (λ now. told_drain nodes n arena cache u now))
  where
    same : (now : List AnsweredEvent) (r : DrainEnd) → KeyTold nodes (λ k (v : Unit {0}). drain_cache_plan n arena k) Live (Found arena) Fault cache u now r → KeyTold nodes (λ k (v : Unit {0}). drain_cache_plan (suc n) arena k) Live (Found arena) Fault cache u now r
    same now (Ok x) w = w
    same now (Err f) w = w

    goes_on : ((now : List AnsweredEvent) → Tells nodes (KeyTold nodes (λ k (v : Unit {0}). drain_cache_plan n arena k) Live (Found arena) Fault cache u) (drain_cache_plan n arena cache) now) → (a : Turn) (now : List AnsweredEvent) → TurnTold arena cache now a
        → Tells nodes (KeyTold nodes (λ k (v : Unit {0}). drain_cache_plan (suc n) arena k) Live (Found arena) Fault cache u) (on_turn (drain_cache_plan n arena cache) a) now
    goes_on again None now w = tells_so nodes (KeyTold nodes (λ k (v : Unit {0}). drain_cache_plan n arena k) Live (Found arena) Fault cache u) (KeyTold nodes (λ k (v : Unit {0}). drain_cache_plan (suc n) arena k) Live (Found arena) Fault cache u) (drain_cache_plan n arena cache) now same (again now)
    goes_on again (Some (Ok x)) now w = (λ live. w, λ live. tt)
    goes_on again (Some (Err f)) now w = w

-- looks at other parts
other_turn : (a k b j : ℕ) → Pop a k ≢ Pop b j → Avoids (Pop b j) (drain_turn a k)
unfolding drain_turn
other_turn a k b j other = (other, popped)
  where
    popped : (x : Result (Option Tag) Stopped) → Avoids (Pop b j) (on_drain_pop x)
    popped (Ok None) = tt
    popped (Ok (Some t)) = avoids_then (Pop b j) (put_chunk t) (λ r. Done (on_put_back r)) (avoids_put (Pop b j) (λ x e. cc) t) (λ r. tt)
    popped (Err e) = tt

other_drain : (turns a k b j : ℕ) → Pop a k ≢ Pop b j → Avoids (Pop b j) (drain_cache_plan turns a k)
other_drain zero a k b j other = tt
other_drain (suc n) a k b j other = avoids_then (Pop b j) (drain_turn a k) (on_turn (drain_cache_plan n a k)) (other_turn a k b j other) (goes_on (other_drain n a k b j other))
  where
    goes_on : Avoids (Pop b j) (drain_cache_plan n a k) → (r : Turn) → Avoids (Pop b j) (on_turn (drain_cache_plan n a k) r)
    goes_on again None = again
    goes_on again (Some r) = tt

told_arena : (nodes : List Node) (turns : ℕ) (l : Level) (up : List Level) (told : List AnsweredEvent) → Tells nodes (KeysTold nodes (λ k (v : Unit {0}). drain_cache_plan turns l.id k) Live (Found l.id) Fault (λ k. (caches_in l - caches_in l < k) × (k ≤ caches_in l)) tt) (drain_arena_plan turns (l ∷ up)) told
told_arena nodes turns l up told =
    tells_caches nodes (λ k (v : Unit {0}). drain_cache_plan turns l.id k) Live (Found l.id) Fault (told_drain nodes turns l.id) (λ k j u now other w. keeps_last nodes (Pop l.id j) (Ok None) (drain_cache_plan turns l.id k) now (other_drain turns l.id k l.id j (λ e. other cc)) w) (caches_in l) (caches_in l) tt told (omega arith)

module _ (nodes : List Node) (turns : ℕ) (arenas : List TreeArena) where
  -- of all caches of one arena
  abbrev AllFound : List AnsweredEvent → ℕ → Type 0
  AllFound now id = (cache : ℕ) (x : TreeArena) → slice_get arenas id ≡ Some x → 0 < cache → cache ≤ caches_in (level_of id x) → Found id now cache

  abbrev plan_of : ℕ → Unit {0} → Plan DrainEnd
  plan_of id u = drain_arena_plan turns (chain_in arenas id)

  abbrev chain_by : ℕ → Option TreeArena → List Level
  chain_by id o = rest_of_chain (chain_up 3 arenas) id o

  one_arena : (id : ℕ) (u : Unit {0}) (told : List AnsweredEvent) (o : Option TreeArena) → slice_get arenas id ≡ o → Tells nodes (KeyTold nodes plan_of Live AllFound Fault id u) (drain_arena_plan turns (chain_by id o)) told
  one_arena id u told None at = (λ live cache x here. absurd (let e : None ≡ Some x = sym at ∙ here in cc), λ live. live)
  one_arena id u told (Some y) at =
      tells_so nodes (KeysTold nodes (λ k (v : Unit {0}). drain_cache_plan turns id k) Live (Found id) Fault (λ k. (caches_in (level_of id y) - caches_in (level_of id y) < k) × (k ≤ caches_in (level_of id y))) tt) (KeyTold nodes plan_of Live AllFound Fault id u) (drain_arena_plan turns (chain_by id (Some y))) told all
      (told_arena nodes turns (level_of id y) (chain_up 3 arenas y.source) told)
    where
      all : (now : List AnsweredEvent) (a : DrainEnd) → KeysTold nodes (λ k (v : Unit {0}). drain_cache_plan turns id k) Live (Found id) Fault (λ k. (caches_in (level_of id y) - caches_in (level_of id y) < k) × (k ≤ caches_in (level_of id y))) tt now a → KeyTold nodes plan_of Live AllFound Fault id u now a
      all now (Ok z) w = (
        λ live cache x here some most.
            let same : x ≡ y = (let e : Some x ≡ Some y = sym here ∙ at in cc) in
            let low : cache ≤ caches_in (level_of id y) = subst (λ (v : TreeArena). cache ≤ caches_in (level_of id v)) same most in
            w.0 cache (omega (arith, some), low) live,
        λ live. tt,
      )
      all now (Err f) w = w

  other_arena : (id j cache : ℕ) (o : Option TreeArena) → j ≢ id → Avoids (Pop j cache) (drain_arena_plan turns (chain_by id o))
  other_arena id j cache None other = tt
  other_arena id j cache (Some y) other = avoids_caches (Pop j cache) (λ k (v : Unit {0}). drain_cache_plan turns id k) (λ k u. other_drain turns id k j cache (λ e. other cc)) (caches_in (level_of id y)) (caches_in (level_of id y)) tt

  abbrev CacheOf : ℕ → Type 0
  CacheOf j = (cache : ℕ) × (x : TreeArena) × (slice_get arenas j ≡ Some x) × (0 < cache) × (cache ≤ caches_in (level_of j x))

  keeps_arena : (id j : ℕ) (u : Unit {0}) (told : List AnsweredEvent) → j ≢ id → AllFound told j → Tells nodes (λ now (a : DrainEnd). AllFound now j) (plan_of id u) told
  keeps_arena id j u told other w =
      tells_so nodes (λ now (a : DrainEnd). (i : CacheOf j) → Found j now i.0) (λ now (a : DrainEnd). AllFound now j) (plan_of id u) told (λ now a v cache x at some most. v (cache, x, at, some, most))
      (tells_all nodes (λ (i : CacheOf j) now (a : DrainEnd). Found j now i.0) (plan_of id u) told (λ i. keeps_last nodes (Pop j i.0) (Ok None) (plan_of id u) told (other_arena id j i.0 (slice_get arenas id) other) (w i.0 i.1 i.2 i.3 i.4)))

  pub tells_drain : Tells nodes (DrainTold arenas) (drain_plan turns arenas) []
  tells_drain =
      tells_so nodes (KeysTold nodes plan_of Live AllFound Fault (λ k. k < length arenas) tt) (DrainTold arenas) (drain_plan turns arenas) [] all
      (tells_arenas nodes plan_of Live AllFound Fault (λ id u told. one_arena id u told (slice_get arenas id) refl) keeps_arena (length arenas) tt [])
    where
      all : (now : List AnsweredEvent) (a : DrainEnd) → KeysTold nodes plan_of Live AllFound Fault (λ k. k < length arenas) tt now a → DrainTold arenas now a
      all now (Ok z) w = λ id cache x at some most. w.0 id (slice_get_within arenas id x at) tt cache x at some most
      all now (Err None) w = tt
      all now (Err (Some f)) w = w

pub drain_tells : DrainTells
drain_tells turns arenas nodes = tells_drain nodes turns arenas
