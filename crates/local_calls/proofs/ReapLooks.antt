-- A reaping pays each look with what it finds, but for two of each cache.
use Rattle.std.proofs.Common.{◌≡◌, ℕ, ◌+◌, ◌*◌, ◌-◌, ◌<◌, ◌≤◌, zero, suc, List, [], ◌∷◌, Option, Some, None, Result, Ok, Err, length, sym, ap, subst, ◌∙◌, arith}
use Rattle.std.proofs.lemmas.List.{length-map}
use Rattle.deed_core.specs.Tag.{Tag}
use Rattle.arena_tree.specs.declared.limits.TheConstants.{MOST_CACHES}
use Rattle.arena_tree.specs.declared.levels.Level.{Level}
use Rattle.arena_tree.specs.declared.trees.TreeArena.{TreeArena}
use Rattle.arena_tree.specs.declared.part_faults.GivenFault.{GivenFault}
use Rattle.arena_tree.specs.declared.part_faults.GivenFault.TheVariants as giving
use Rattle.arena_tree.specs.declared.part_faults.Stopped.{Stopped}
use Rattle.arena_tree.specs.declared.part_faults.ReturnFault.TheVariants as returning
use Rattle.arena_tree.specs.Chains.{IsChain}
use Rattle.arena_tree.specs.Climbs.{ReturnEnd, return_plan, on_free}
use Rattle.arena_tree.specs.Events.{Free, SlabReap, DepotReap}
use Rattle.arena_tree.specs.Plans.{Plan, Done, then}
use Rattle.arena_tree.specs.Trees.{nodes_of, IsTree}
use Rattle.arena_tree.proofs.LawProofs.{path_split}
use Rattle.stock.specs.Setups.{plan_for}
use Rattle.stock.specs.Spaces.{plan_of}
use Rattle.quantum_cache.specs.declared.reaps.Reaping.{Reaping}
use Rattle.quantum_cache.specs.Caches.{chain_in, if_ok, over_caches, over_arenas}
use Rattle.quantum_cache.specs.Frees.{on_slab_put, put_chunk}
use Rattle.quantum_cache.specs.Reaps.{LookEnd, ReapEnd, on_return, on_depot_reap, reap_round, on_slab_reap, reap_slab, on_look, looks_in_turn, reap_steps, reap_cache, reap_arena_plan, reap_plan}
use Rattle.quantum_cache.specs.Sizes.{caches_in}
use Rattle.local_parts.specs.States.{LocalState}
use Rattle.local_calls.specs.Looks.{finds_in_spaces, ReapTakesFewLooks, ReapWithoutLimit}
use Rattle.local_calls.specs.Runs.{SoundStep, RunsTo}
use Rattle.local_calls.proofs.Chains.{tree_chain, first_arena}
use Rattle.local_calls.proofs.Drained.{all_caches, few_caches}
use Rattle.local_calls.proofs.Findable.{freed_found, put_found, depot_found, depot_missed, slab_found, slab_missed}
use Rattle.local_calls.proofs.Reaped.{reap_leaves_nothing}

-- what may be found
abbrev found : LocalState → ℕ
found s = finds_in_spaces s.spaces

-- a look that found something, and one that found nothing
abbrev LookPays : ℕ → ℕ → LookEnd → Type 0
LookPays old new (Ok (Some units)) = new + 1 ≡ old
LookPays old new (Ok None) = new ≡ old
LookPays old new (Err f) = Unit {0}

-- what came back doesn't say that nothing was found
returned_pays : (old new units : ℕ) (a : ReturnEnd) → new + 1 ≡ old → LookPays old new (on_return units a)
returned_pays old new units (Ok u) e = e
returned_pays old new units (Err (returning.Stuck t)) e = tt
returned_pays old new units (Err (returning.Stopped t)) e = tt

module _ (arenas : List TreeArena) where
  -- a round goes to its slab
  put_pays : (t : Tag) (old mid new : LocalState) (r : LookEnd) → found mid + 1 ≡ found old → RunsTo arenas (then (put_chunk t) (λ a. Done (on_return 0 a))) mid new r → LookPays (found old) (found new) r
  unfolding put_chunk
  put_pays t old mid new r less run =
      let same : found run.0 ≡ found mid = put_found mid.spaces run.0.spaces t run.1 run.2.step.does.0 in
      let last : found run.0 ≡ found new = ap found run.3.0 in
      subst (LookPays (found old) (found new)) run.3.1 (returned_pays (found old) (found new) 0 (on_slab_put run.1) (omega (arith, less, same, last)))

  -- a look at a depot
  round_pays : (k c : ℕ) (old new : LocalState) (r : LookEnd) → RunsTo arenas (reap_round k c) old new r → LookPays (found old) (found new) r
  unfolding reap_round
  round_pays k c old new r path = looked path.1 path.2 path.3
    where
      mid : LocalState
      mid = path.0

      looked : (x : Result (Option Tag) Stopped) → SoundStep (nodes_of arenas) old (DepotReap k c) x mid → RunsTo arenas (on_depot_reap x) mid new r → LookPays (found old) (found new) r
      looked (Ok None) step rest = subst (LookPays (found old) (found new)) rest.1 (ap found (sym rest.0) ∙ depot_missed old.spaces mid.spaces k c step.step.does.0)
      looked (Ok (Some t)) step rest =
          put_pays t old mid new r (depot_found old.spaces mid.spaces k c t step.step.does.0) rest
      looked (Err e) step rest = absurd (let x : Err e ≡ Ok step.step.does.0.0 = step.step.does.0.1 in cc)

  -- spans that go back
  frees_pay : (chain : List Level) (t : Tag) (old new : LocalState) (r : ReturnEnd) → RunsTo arenas (return_plan chain t) old new r → found new ≡ found old
  frees_pay [] t old new r path = ap found (sym path.0)
  frees_pay (l ∷ up) t old new r path = freed path.1 path.2 path.3 (λ w. frees_pay up w)
    where
      mid : LocalState
      mid = path.0

      freed : (x : Result (Option Tag) (GivenFault Tag Tag)) → SoundStep (nodes_of arenas) old (Free t) x mid → RunsTo arenas (on_free (return_plan up) x) mid new r → ((w : Tag) (s u : LocalState) (a : ReturnEnd) → RunsTo arenas (return_plan up w) s u a → found u ≡ found s) → found new ≡ found old
      freed (Ok (Some w)) step rest again = again w mid new r rest ∙ freed_found old.spaces mid.spaces t (Ok (Some w)) step.step.does.0
      freed (Ok None) step rest again = ap found (sym rest.0) ∙ freed_found old.spaces mid.spaces t (Ok None) step.step.does.0
      freed (Err (giving.Refused w)) step rest again = ap found (sym rest.0) ∙ freed_found old.spaces mid.spaces t (Err (giving.Refused w)) step.step.does.0
      freed (Err (giving.Stopped w)) step rest again = ap found (sym rest.0) ∙ freed_found old.spaces mid.spaces t (Err (giving.Stopped w)) step.step.does.0

  -- a look at slabs
  slab_pays : (chain : List Level) (k c : ℕ) (old new : LocalState) (r : LookEnd) → RunsTo arenas (reap_slab chain k c) old new r → LookPays (found old) (found new) r
  unfolding reap_slab
  slab_pays chain k c old new r path = looked path.1 path.2 path.3
    where
      mid : LocalState
      mid = path.0

      looked : (x : Result (Option Tag) Stopped) → SoundStep (nodes_of arenas) old (SlabReap k c) x mid → RunsTo arenas (on_slab_reap chain x) mid new r → LookPays (found old) (found new) r
      looked (Ok None) step rest = subst (LookPays (found old) (found new)) rest.1 (ap found (sym rest.0) ∙ slab_missed old.spaces mid.spaces k c step.step.does.0)
      looked (Ok (Some t)) step rest =
          let less : found mid + 1 ≡ found old = slab_found old.spaces mid.spaces k c t step.step.does.0 in
          let split = path_split (SoundStep (nodes_of arenas)) (return_plan chain t) (λ a. Done (on_return t.holding.range.len a)) mid new r rest in
          let same : found split.0 ≡ found mid = frees_pay chain t mid split.0 split.1 split.2 in
          let last : found split.0 ≡ found new = ap found split.3.0 in
          subst (LookPays (found old) (found new)) split.3.1 (returned_pays (found old) (found new) t.holding.range.len split.1 (omega (arith, less, same, last)))
      looked (Err e) step rest = absurd (let x : Err e ≡ Ok step.step.does.0.0 = step.step.does.0.1 in cc)

  -- looks one after another: all but one find something
  looks_pay : (look : Plan LookEnd) → ((s t : LocalState) (r : LookEnd) → RunsTo arenas look s t r → LookPays (found s) (found t) r) → (n units : ℕ) (s t : LocalState) (y : Reaping) → RunsTo arenas (looks_in_turn look n units) s t (Ok y) → n + found t ≤ y.left + found s + 1
  looks_pay look one zero units s t y path =
      let same : found s ≡ found t = ap found path.0 in
      omega (arith, same)
  looks_pay look one (suc n) units s t y path =
      let split = path_split (SoundStep (nodes_of arenas)) look (on_look (looks_in_turn look n) n units) s t (Ok y) path in
      looked split.0 split.1 (one s split.0 split.1 split.2) split.3 (λ sum. looks_pay look one n sum split.0 t y)
    where
      looked : (m : LocalState) (r : LookEnd) → LookPays (found s) (found m) r → RunsTo arenas (on_look (looks_in_turn look n) n units r) m t (Ok y) → ((sum : ℕ) → RunsTo arenas (looks_in_turn look n sum) m t (Ok y) → n + found t ≤ y.left + found m + 1) → suc n + found t ≤ y.left + found s + 1
      looked m (Ok (Some more)) first rest again = let le = again _ rest in omega (arith, first, le)
      looked m (Ok None) first rest again =
          let is : record { left = n; units = units } ≡ y = (let e : Ok (record { left = n; units = units }) ≡ Ok y = rest.1 in cc) in
          let left : n ≡ y.left = ap (λ (r : Reaping). r.left) is in
          let same : found m ≡ found t = ap found rest.0 in
          omega (arith, first, left, same)
      looked m (Err f) first rest again = absurd (let e : Err _ ≡ Ok y = rest.1 in cc)

  -- what goes on after an end that is well
  ok_on : {X F : Type 0} (p : Plan (Result X F)) (next : X → Plan (Result X F)) (y : X) (old new : LocalState) → RunsTo arenas (then p (if_ok next)) old new (Ok y) → (m : LocalState) × (z : X) × RunsTo arenas p old m (Ok z) × RunsTo arenas (next z) m new (Ok y)
  ok_on {X} {F} p next y old new path =
      let split = path_split (SoundStep (nodes_of arenas)) p (if_ok next) old new (Ok y) path in
      on split.0 split.1 split.2 split.3
    where
      on : (m : LocalState) (r : Result X F) → RunsTo arenas p old m r → RunsTo arenas (if_ok next r) m new (Ok y) → (n : LocalState) × (z : X) × RunsTo arenas p old n (Ok z) × RunsTo arenas (next z) n new (Ok y)
      on m (Ok z) first rest = (m, z, first, rest)
      on m (Err f) first rest = absurd (let e : Err f ≡ Ok y = rest.1 in cc)

  cache_pays : (chain : List Level) (k c : ℕ) (x y : Reaping) (old new : LocalState) → RunsTo arenas (reap_cache chain k c x) old new (Ok y) → x.left + found new ≤ y.left + found old + 2
  unfolding reap_cache
  cache_pays chain k c x y old new path =
      let on = ok_on (reap_steps (reap_round k c) x) (reap_steps (reap_slab chain k c)) y old new path in
      let rounds = looks_pay (reap_round k c) (round_pays k c) x.left x.units old on.0 on.1 on.2 in
      let slabs = looks_pay (reap_slab chain k c) (slab_pays chain k c) on.1.left on.1.units on.0 new y on.3 in
      omega (arith, rounds, slabs)

  module _ (most : ℕ) (each : ℕ → Reaping → Plan ReapEnd) where
    caches_pay : ((i : ℕ) (x y : Reaping) (old new : LocalState) → RunsTo arenas (each i x) old new (Ok y) → x.left + found new ≤ y.left + found old + most)
        → (all left : ℕ) (x y : Reaping) (old new : LocalState) → RunsTo arenas (over_caches each all left x) old new (Ok y) → x.left + found new ≤ y.left + found old + most * left
    caches_pay one all zero x y old new path =
        let same : found old ≡ found new = ap found path.0 in
        let left : x.left ≡ y.left = (let e : Ok x ≡ Ok y = path.1 in let d : x ≡ y = cc in ap (λ (r : Reaping). r.left) d) in
        omega (arith, same, left)
    caches_pay one all (suc n) x y old new path =
        let on = ok_on (each (all - n) x) (over_caches each all n) y old new path in
        let first = one (all - n) x on.1 old on.0 on.2 in
        let rest = caches_pay one all n on.1 y on.0 new on.3 in
        let times : most * suc n ≡ most * n + most = omega arith in
        omega (arith, first, rest, times)

    arenas_pay : (end : ℕ) → ((i : ℕ) (x y : Reaping) (old new : LocalState) → i < end → RunsTo arenas (each i x) old new (Ok y) → x.left + found new ≤ y.left + found old + most)
        → (x y : Reaping) (old new : LocalState) → RunsTo arenas (over_arenas each end x) old new (Ok y) → x.left + found new ≤ y.left + found old + most * end
    arenas_pay zero one x y old new path =
        let same : found old ≡ found new = ap found path.0 in
        let left : x.left ≡ y.left = (let e : Ok x ≡ Ok y = path.1 in let d : x ≡ y = cc in ap (λ (r : Reaping). r.left) d) in
        omega (arith, same, left)
    arenas_pay (suc n) one x y old new path =
        let on = ok_on (each n x) (over_arenas each n) y old new path in
        let first = one n x on.1 old on.0 (omega arith) on.2 in
        let rest = arenas_pay n (λ i a b s t less. one i a b s t (omega (arith, less))) on.1 y on.0 new on.3 in
        let times : most * suc n ≡ most * n + most = omega arith in
        omega (arith, first, rest, times)

  module _ (tree : IsTree arenas) where
    pub arena_pays : (chain : List Level) → IsChain (nodes_of arenas) chain → (x y : Reaping) (old new : LocalState) → RunsTo arenas (reap_arena_plan chain x) old new (Ok y) → x.left + found new ≤ y.left + found old + 2 * MOST_CACHES
    arena_pays [] is x y old new path =
        let same : found old ≡ found new = ap found path.0 in
        let left : x.left ≡ y.left = (let e : Ok x ≡ Ok y = path.1 in let d : x ≡ y = cc in ap (λ (r : Reaping). r.left) d) in
        omega (arith, same, left)
    arena_pays (l ∷ up) is x y old new path =
        let walk = caches_pay 2 (reap_cache (l ∷ up) l.id) (cache_pays (l ∷ up) l.id) (caches_in l) (caches_in l) x y old new path in
        let here = first_arena arenas l up is in
        let count = all_caches arenas tree l up is here.0 here.1 in
        let few = few_caches arenas tree l.id here.0 here.1 in
        omega (arith, walk, count, few)

    reap_pays : (limit : ℕ) (y : Reaping) (old new : LocalState) → RunsTo arenas (reap_plan arenas limit) old new (Ok y) → limit + found new ≤ y.left + found old + 2 * MOST_CACHES * length arenas
    reap_pays limit y old new path =
        arenas_pay (2 * MOST_CACHES) (λ id. reap_arena_plan (chain_in arenas id)) (length arenas) (λ id a b s t less run. arena_pays (chain_in arenas id) (tree_chain arenas tree id less).0 a b s t run)
        (record { left = limit; units = 0 }) y old new path

pub reap_takes_few_looks : ReapTakesFewLooks
reap_takes_few_looks arenas limit old new r local path =
    let pays = reap_pays arenas local.tree limit r old new path in
    let plans = ap length local.plans in
    let spaces = length-map old.spaces plan_of in
    let tree = length-map arenas plan_for in
    omega (arith, pays, plans, spaces, tree)

pub reap_without_limit : ReapWithoutLimit
reap_without_limit arenas limit old new r local path enough =
    let few = reap_takes_few_looks arenas limit old new r local path in
    let some : 0 < r.left = omega (arith, few, enough) in
    (some, reap_leaves_nothing arenas limit old new r local path some)
