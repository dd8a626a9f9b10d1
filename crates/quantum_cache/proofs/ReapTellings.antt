-- What a reaping tells.
use Rattle.std.proofs.Common.{◌≡◌, ◌≢◌, ℕ, ◌+◌, ◌-◌, ◌<◌, ◌≤◌, zero, suc, List, [], ◌∷◌, Option, Some, None, Result, Ok, Err, length, refl, inl, arith, subst, sym, ap, ◌∙◌}
use Rattle.std.specs.Prelude.{slice_get}
use Rattle.std.proofs.lemmas.Option.{slice_get_within}
use Rattle.deed_core.specs.Tag.{Tag}
use Rattle.arena_tree.specs.declared.levels.Level.{Level}
use Rattle.arena_tree.specs.declared.part_faults.ReturnFault.TheVariants as returning
use Rattle.arena_tree.specs.declared.part_faults.Stopped.{Stopped}
use Rattle.arena_tree.specs.declared.trees.TreeArena.{TreeArena}
use Rattle.arena_tree.specs.Chains.{Node, IsChain}
use Rattle.arena_tree.specs.Climbs.{ReturnEnd, return_plan}
use Rattle.arena_tree.specs.Events.{Event, SlabReap, DepotReap}
use Rattle.arena_tree.specs.Plans.{Plan, Done}
use Rattle.arena_tree.specs.Sound.{Sound}
use Rattle.arena_tree.specs.Told.{AnsweredEvent, Tells}
use Rattle.arena_tree.specs.Trees.{nodes_of, level_of}
use Rattle.arena_tree.proofs.LawProofs.{tells_then}
use Rattle.quantum_cache.specs.declared.reaps.Reaping.{Reaping}
use Rattle.quantum_cache.specs.declared.reaps.ReapFault.{ReapFault}
use Rattle.quantum_cache.specs.Caches.{rest_of_chain, chain_up, chain_in, if_ok}
use Rattle.quantum_cache.specs.Frees.{put_chunk}
use Rattle.quantum_cache.specs.Looks.{WasLast, NothingToReap, EmptyingTold, ReapTold, ReapArenaTold, ReapArenaTells, ReapTells}
use Rattle.quantum_cache.specs.Reaps.{LookEnd, ReapEnd, on_return, on_depot_reap, reap_round, on_slab_reap, reap_slab, on_look, looks_in_turn, reap_steps, reap_cache, reap_arena_plan, reap_plan}
use Rattle.quantum_cache.specs.Sizes.{caches_in}
use Rattle.quantum_cache.specs.Told.{FreeTold}
use Rattle.quantum_cache.proofs.FreeTellings.{told_put, told_return}
use Rattle.quantum_cache.proofs.LookTellings.{tells_all, Avoids, keeps_last, avoids_round, avoids_slab, avoids_up_to, avoids_then, avoids_ok, avoids_caches, KeyTold, KeysTold, tells_caches, tells_arenas}
use Rattle.quantum_cache.proofs.Tellings.{answered, tells_both, tells_so}

-- one look, by its event
abbrev LookTold : (List AnsweredEvent → Type 0) → List AnsweredEvent → LookEnd → Type 0
LookTold found now (Ok None) = found now
LookTold found now (Ok (Some units)) = Unit {0}
LookTold found now (Err f) = EmptyingTold now f

returned_told : (found : List AnsweredEvent → Type 0) (units : ℕ) (r : ReturnEnd) (now : List AnsweredEvent) → FreeTold now r → LookTold found now (on_return units r)
returned_told found units (Ok u) now w = tt
returned_told found units (Err (returning.Stuck t)) now w = w
returned_told found units (Err (returning.Stopped t)) now w = w

look_at_depot : (nodes : List Node) (arena cache : ℕ) (told : List AnsweredEvent) → Tells nodes (LookTold (WasLast (DepotReap arena cache) (Ok None))) (reap_round arena cache) told
unfolding reap_round
look_at_depot nodes arena cache told = λ x s. taken x
  where
    taken : (x : Result (Option Tag) Stopped) → Tells nodes (LookTold (WasLast (DepotReap arena cache) (Ok None))) (on_depot_reap x) (answered (DepotReap arena cache) x ∷ told)
    taken (Ok None) = inl refl
    taken (Ok (Some t)) =
        let now : List AnsweredEvent = answered (DepotReap arena cache) (Ok (Some t)) ∷ told in
        tells_then nodes FreeTold (LookTold (WasLast (DepotReap arena cache) (Ok None))) (put_chunk t) (λ r. Done (on_return 0 r)) now (told_put nodes t now) (returned_told (WasLast (DepotReap arena cache) (Ok None)) 0)
    taken (Err e) = refl

look_at_slabs : (nodes : List Node) (l : Level) (up : List Level) (cache : ℕ) (told : List AnsweredEvent) → IsChain nodes (l ∷ up) → Tells nodes (LookTold (WasLast (SlabReap l.id cache) (Ok None))) (reap_slab (l ∷ up) l.id cache) told
unfolding reap_slab
look_at_slabs nodes l up cache told is = taken
  where
    taken : (x : Result (Option Tag) Stopped) → Sound nodes (SlabReap l.id cache) x → Tells nodes (LookTold (WasLast (SlabReap l.id cache) (Ok None))) (on_slab_reap (l ∷ up) x) (answered (SlabReap l.id cache) x ∷ told)
    taken (Ok None) s = inl refl
    taken (Ok (Some t)) s =
        let now : List AnsweredEvent = answered (SlabReap l.id cache) (Ok (Some t)) ∷ told in
        tells_then nodes FreeTold (LookTold (WasLast (SlabReap l.id cache) (Ok None))) (return_plan (l ∷ up) t) (λ r. Done (on_return t.holding.range.len r)) now (told_return nodes (l ∷ up) t now is (ap Some (sym s.of_arena))) (returned_told (WasLast (SlabReap l.id cache) (Ok None)) t.holding.range.len)
    taken (Err e) s = refl

-- looks at one part, until there is nothing
abbrev LooksTold : (List AnsweredEvent → Type 0) → ℕ → List AnsweredEvent → ReapEnd → Type 0
LooksTold found left now (Ok r) = (0 < r.left → found now) × (r.left ≤ left)
LooksTold found left now (Err f) = EmptyingTold now f.cause

told_up_to : (nodes : List Node) (found : List AnsweredEvent → Type 0) (p : Plan LookEnd) → ((told : List AnsweredEvent) → Tells nodes (LookTold found) p told) → (left units : ℕ) (told : List AnsweredEvent) → Tells nodes (LooksTold found left) (looks_in_turn p left units) told
told_up_to nodes found p look zero units told = (λ some. absurd (omega (arith, some)), omega arith)
told_up_to nodes found p look (suc n) units told = tells_then nodes (LookTold found) (LooksTold found (suc n)) p (on_look (looks_in_turn p n) n units) told (look told) (looked (told_up_to nodes found p look n))
  where
    longer : (now : List AnsweredEvent) (r : ReapEnd) → LooksTold found n now r → LooksTold found (suc n) now r
    longer now (Ok r) w = (w.0, omega (arith, w.1))
    longer now (Err f) w = w

    looked : ((sum : ℕ) (now : List AnsweredEvent) → Tells nodes (LooksTold found n) (looks_in_turn p n sum) now) → (a : LookEnd) (now : List AnsweredEvent) → LookTold found now a → Tells nodes (LooksTold found (suc n)) (on_look (looks_in_turn p n) n units a) now
    looked again (Ok (Some more)) now w = tells_so nodes (LooksTold found n) (LooksTold found (suc n)) (looks_in_turn p n (units + more)) now longer (again (units + more) now)
    looked again (Ok None) now w = (λ some. w, omega arith)
    looked again (Err f) now w = w

-- of a reaping that may look on
abbrev Live : Reaping → Type 0
Live r = 0 < r.left

abbrev Fault : List AnsweredEvent → ReapFault Tag → Type 0
Fault now f = EmptyingTold now f.cause

module _ (nodes : List Node) (l : Level) (up : List Level) (is : IsChain nodes (l ∷ up)) where
  abbrev Found : List AnsweredEvent → ℕ → Type 0
  Found now cache = NothingToReap now l.id cache

  told_cache : (cache : ℕ) (r : Reaping) (told : List AnsweredEvent) → Tells nodes (KeyTold nodes (reap_cache (l ∷ up) l.id) Live Found Fault cache r) (reap_cache (l ∷ up) l.id cache r) told
  unfolding reap_cache
  told_cache cache r told =
      tells_then nodes (LooksTold (WasLast (DepotReap l.id cache) (Ok None)) r.left) (KeyTold nodes (reap_cache (l ∷ up) l.id) Live Found Fault cache r) (reap_steps (reap_round l.id cache) r) (if_ok (reap_steps (reap_slab (l ∷ up) l.id cache))) told
      (told_up_to nodes (WasLast (DepotReap l.id cache) (Ok None)) (reap_round l.id cache) (look_at_depot nodes l.id cache) r.left r.units told) slabs
    where
      both : (y : Reaping) → y.left ≤ r.left → (now : List AnsweredEvent) (a : ReapEnd) → LooksTold (WasLast (SlabReap l.id cache) (Ok None)) y.left now a × (Live y → WasLast (DepotReap l.id cache) (Ok None) now) → KeyTold nodes (reap_cache (l ∷ up) l.id) Live Found Fault cache r now a
      both y le now (Ok z) w = (λ some. (w.1 (omega (arith, some, (w.0).1)), (w.0).0 some), λ some. omega (arith, some, le, (w.0).1))
      both y le now (Err f) w = w.0

      slabs : (a : ReapEnd) (now : List AnsweredEvent) → LooksTold (WasLast (DepotReap l.id cache) (Ok None)) r.left now a → Tells nodes (KeyTold nodes (reap_cache (l ∷ up) l.id) Live Found Fault cache r) (if_ok (reap_steps (reap_slab (l ∷ up) l.id cache)) a) now
      slabs (Ok y) now w =
          let looks : Plan ReapEnd = reap_steps (reap_slab (l ∷ up) l.id cache) y in
          tells_so nodes (λ now' a. LooksTold (WasLast (SlabReap l.id cache) (Ok None)) y.left now' a × (Live y → WasLast (DepotReap l.id cache) (Ok None) now')) (KeyTold nodes (reap_cache (l ∷ up) l.id) Live Found Fault cache r) looks now (both y w.1)
          (tells_both nodes (LooksTold (WasLast (SlabReap l.id cache) (Ok None)) y.left) (λ now' a. Live y → WasLast (DepotReap l.id cache) (Ok None) now') looks now
          (told_up_to nodes (WasLast (SlabReap l.id cache) (Ok None)) (reap_slab (l ∷ up) l.id cache) (λ t. look_at_slabs nodes l up cache t is) y.left y.units now)
          (tells_all nodes (λ (some : Live y) now' a. WasLast (DepotReap l.id cache) (Ok None) now') looks now
          (λ some. keeps_last nodes (DepotReap l.id cache) (Ok None) looks now (avoids_up_to (DepotReap l.id cache) (reap_slab (l ∷ up) l.id cache) (avoids_slab (DepotReap l.id cache) (λ t e. cc) (l ∷ up) l.id cache (λ e. cc)) y.left y.units) (w.0 some))))
      slabs (Err f) now w = w

-- looks at other parts
avoids_cache : (e : Event) (chain : List Level) (arena cache : ℕ) (r : Reaping) → Avoids e (reap_round arena cache) → Avoids e (reap_slab chain arena cache) → Avoids e (reap_cache chain arena cache r)
unfolding reap_cache
avoids_cache e chain arena cache r v w =
    avoids_then e (reap_steps (reap_round arena cache) r) (if_ok (reap_steps (reap_slab chain arena cache))) (avoids_up_to e (reap_round arena cache) v r.left r.units) (avoids_ok e (reap_steps (reap_slab chain arena cache)) (λ x. avoids_up_to e (reap_slab chain arena cache) w x.left x.units))

other_depot : (chain : List Level) (a k b j : ℕ) (r : Reaping) → (DepotReap a k ≢ DepotReap b j) → Avoids (DepotReap b j) (reap_cache chain a k r)
other_depot chain a k b j r other = avoids_cache (DepotReap b j) chain a k r (avoids_round (DepotReap b j) (λ t e. cc) a k other) (avoids_slab (DepotReap b j) (λ t e. cc) chain a k (λ e. cc))

other_slabs : (chain : List Level) (a k b j : ℕ) (r : Reaping) → (SlabReap a k ≢ SlabReap b j) → Avoids (SlabReap b j) (reap_cache chain a k r)
other_slabs chain a k b j r other = avoids_cache (SlabReap b j) chain a k r (avoids_round (SlabReap b j) (λ t e. cc) a k (λ e. cc)) (avoids_slab (SlabReap b j) (λ t e. cc) chain a k other)

pub arena_told : (nodes : List Node) (l : Level) (up : List Level) (r : Reaping) (told : List AnsweredEvent) → IsChain nodes (l ∷ up)
    → Tells nodes (KeysTold nodes (reap_cache (l ∷ up) l.id) Live (λ now k. NothingToReap now l.id k) Fault (λ k. (caches_in l - caches_in l < k) × (k ≤ caches_in l)) r) (reap_arena_plan (l ∷ up) r) told
arena_told nodes l up r told is =
    tells_caches nodes (reap_cache (l ∷ up) l.id) Live (λ now k. NothingToReap now l.id k) Fault (told_cache nodes l up is) keeps (caches_in l) (caches_in l) r told (omega arith)
  where
    keeps : (k j : ℕ) (x : Reaping) (now : List AnsweredEvent) → j ≢ k → NothingToReap now l.id j → Tells nodes (λ now' (r : ReapEnd). NothingToReap now' l.id j) (reap_cache (l ∷ up) l.id k x) now
    keeps k j x now other w =
        tells_both nodes (λ now' (r : ReapEnd). WasLast (DepotReap l.id j) (Ok None) now') (λ now' (r : ReapEnd). WasLast (SlabReap l.id j) (Ok None) now') (reap_cache (l ∷ up) l.id k x) now
        (keeps_last nodes (DepotReap l.id j) (Ok None) (reap_cache (l ∷ up) l.id k x) now (other_depot (l ∷ up) l.id k l.id j x (λ e. other cc)) w.0)
        (keeps_last nodes (SlabReap l.id j) (Ok None) (reap_cache (l ∷ up) l.id k x) now (other_slabs (l ∷ up) l.id k l.id j x (λ e. other cc)) w.1)

module _ (arenas : List TreeArena) (chains : (id : ℕ) → id < length arenas → IsChain (nodes_of arenas) (chain_in arenas id)) where
  -- of all caches of one arena
  abbrev AllFound : List AnsweredEvent → ℕ → Type 0
  AllFound now id = (cache : ℕ) (x : TreeArena) → slice_get arenas id ≡ Some x → 0 < cache → cache ≤ caches_in (level_of id x) → NothingToReap now id cache

  abbrev plan_of : ℕ → Reaping → Plan ReapEnd
  plan_of id = reap_arena_plan (chain_in arenas id)

  abbrev chain_by : ℕ → Option TreeArena → List Level
  chain_by id o = rest_of_chain (chain_up 3 arenas) id o

  one_arena : (id : ℕ) (r : Reaping) (told : List AnsweredEvent) (o : Option TreeArena) → slice_get arenas id ≡ o → Tells (nodes_of arenas) (KeyTold (nodes_of arenas) plan_of Live AllFound Fault id r) (reap_arena_plan (chain_by id o) r) told
  one_arena id r told None at = (λ live cache x here. absurd (let e : None ≡ Some x = sym at ∙ here in cc), λ live. live)
  one_arena id r told (Some y) at =
      tells_so (nodes_of arenas) (KeysTold (nodes_of arenas) (reap_cache (chain_by id (Some y)) id) Live (λ now k. NothingToReap now id k) Fault (λ k. (caches_in (level_of id y) - caches_in (level_of id y) < k) × (k ≤ caches_in (level_of id y))) r) (KeyTold (nodes_of arenas) plan_of Live AllFound Fault id r) (reap_arena_plan (chain_by id (Some y)) r) told all
      (arena_told (nodes_of arenas) (level_of id y) (chain_up 3 arenas y.source) r told (subst (λ z. IsChain (nodes_of arenas) (chain_by id z)) at (chains id (slice_get_within arenas id y at))))
    where
      all : (now : List AnsweredEvent) (a : ReapEnd) → KeysTold (nodes_of arenas) (reap_cache (chain_by id (Some y)) id) Live (λ now k. NothingToReap now id k) Fault (λ k. (caches_in (level_of id y) - caches_in (level_of id y) < k) × (k ≤ caches_in (level_of id y))) r now a
          → KeyTold (nodes_of arenas) plan_of Live AllFound Fault id r now a
      all now (Ok z) w = (
        λ live cache x here some most.
            let same : x ≡ y = (let e : Some x ≡ Some y = sym here ∙ at in cc) in
            let low : cache ≤ caches_in (level_of id y) = subst (λ (v : TreeArena). cache ≤ caches_in (level_of id v)) same most in
            w.0 cache (omega (arith, some), low) live,
        w.1,
      )
      all now (Err f) w = w

  other_arena : (id j cache : ℕ) (r : Reaping) (o : Option TreeArena) → j ≢ id → Avoids (DepotReap j cache) (reap_arena_plan (chain_by id o) r) × Avoids (SlabReap j cache) (reap_arena_plan (chain_by id o) r)
  other_arena id j cache r None other = (tt, tt)
  other_arena id j cache r (Some y) other = (
    avoids_caches (DepotReap j cache) (reap_cache (chain_by id (Some y)) id) (λ k x. other_depot (chain_by id (Some y)) id k j cache x (λ e. other cc)) (caches_in (level_of id y)) (caches_in (level_of id y)) r,
    avoids_caches (SlabReap j cache) (reap_cache (chain_by id (Some y)) id) (λ k x. other_slabs (chain_by id (Some y)) id k j cache x (λ e. other cc)) (caches_in (level_of id y)) (caches_in (level_of id y)) r,
  )

  abbrev CacheOf : ℕ → Type 0
  CacheOf j = (cache : ℕ) × (x : TreeArena) × (slice_get arenas j ≡ Some x) × (0 < cache) × (cache ≤ caches_in (level_of j x))

  keeps_arena : (id j : ℕ) (r : Reaping) (told : List AnsweredEvent) → j ≢ id → AllFound told j → Tells (nodes_of arenas) (λ now (a : ReapEnd). AllFound now j) (plan_of id r) told
  keeps_arena id j r told other w =
      tells_so (nodes_of arenas) (λ now (a : ReapEnd). (i : CacheOf j) → NothingToReap now j i.0) (λ now (a : ReapEnd). AllFound now j) (plan_of id r) told (λ now a v cache x at some most. v (cache, x, at, some, most))
      (tells_all (nodes_of arenas) (λ (i : CacheOf j) now (a : ReapEnd). NothingToReap now j i.0) (plan_of id r) told
      (λ i. let v = other_arena id j i.0 r (slice_get arenas id) other in let found = w i.0 i.1 i.2 i.3 i.4 in
      tells_both (nodes_of arenas) (λ now (a : ReapEnd). WasLast (DepotReap j i.0) (Ok None) now) (λ now (a : ReapEnd). WasLast (SlabReap j i.0) (Ok None) now) (plan_of id r) told
      (keeps_last (nodes_of arenas) (DepotReap j i.0) (Ok None) (plan_of id r) told v.0 found.0) (keeps_last (nodes_of arenas) (SlabReap j i.0) (Ok None) (plan_of id r) told v.1 found.1)))

  tells_reap : (limit : ℕ) → Tells (nodes_of arenas) (ReapTold arenas) (reap_plan arenas limit) []
  tells_reap limit =
      let start : Reaping = record { left = limit; units = 0 } in
      tells_so (nodes_of arenas) (KeysTold (nodes_of arenas) plan_of Live AllFound Fault (λ k. k < length arenas) start) (ReapTold arenas) (reap_plan arenas limit) [] all
      (tells_arenas (nodes_of arenas) plan_of Live AllFound Fault (λ id r told. one_arena id r told (slice_get arenas id) refl) keeps_arena (length arenas) start [])
    where
      all : (now : List AnsweredEvent) (a : ReapEnd) → KeysTold (nodes_of arenas) plan_of Live AllFound Fault (λ k. k < length arenas) (record { left = limit; units = 0 }) now a → ReapTold arenas now a
      all now (Ok z) w = λ live id cache x at some most. w.0 id (slice_get_within arenas id x at) live cache x at some most
      all now (Err f) w = w

pub reap_tells : ReapTells
reap_tells arenas limit chains = tells_reap arenas chains limit

pub reap_arena_tells : ReapArenaTells
reap_arena_tells nodes [] limit is = λ live. tt
reap_arena_tells nodes (l ∷ up) limit is =
    let start : Reaping = record { left = limit; units = 0 } in
    tells_so nodes (KeysTold nodes (reap_cache (l ∷ up) l.id) Live (λ now k. NothingToReap now l.id k) Fault (λ k. (caches_in l - caches_in l < k) × (k ≤ caches_in l)) start) (ReapArenaTold (l ∷ up)) (reap_arena_plan (l ∷ up) start) [] all
    (arena_told nodes l up start [] is)
  where
    all : (now : List AnsweredEvent) (a : ReapEnd) → KeysTold nodes (reap_cache (l ∷ up) l.id) Live (λ now' k. NothingToReap now' l.id k) Fault (λ k. (caches_in l - caches_in l < k) × (k ≤ caches_in l)) (record { left = limit; units = 0 }) now a → ReapArenaTold (l ∷ up) now a
    all now (Ok z) w = λ live cache some most. w.0 cache (omega (arith, some), most) live
    all now (Err f) w = w
