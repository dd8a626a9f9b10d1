-- What a whole reaping does to the arenas, look by look.
use Rattle.std.proofs.Common.{◌≡◌, ℕ, ◌+◌, ◌-◌, zero, suc, List, [], ◌∷◌, Option, Some, None, Result, Ok, Err, length, refl, ap, subst, ◌∙◌, arith}
use Rattle.deed_core.specs.Tag.{Tag}
use Rattle.arena_tree.specs.declared.levels.Level.{Level}
use Rattle.arena_tree.specs.declared.trees.TreeArena.{TreeArena}
use Rattle.arena_tree.specs.declared.part_faults.GivenFault.{GivenFault}
use Rattle.arena_tree.specs.declared.part_faults.GivenFault.TheVariants as giving
use Rattle.arena_tree.specs.declared.part_faults.Stopped.{Stopped}
use Rattle.arena_tree.specs.declared.part_faults.ReturnFault.TheVariants as returning
use Rattle.arena_tree.specs.Climbs.{ReturnEnd, return_plan, on_free}
use Rattle.arena_tree.specs.Events.{Free, SlabReap, DepotReap}
use Rattle.arena_tree.specs.Plans.{Plan, Done, then}
use Rattle.arena_tree.specs.Trees.{nodes_of}
use Rattle.arena_tree.proofs.LawProofs.{path_split}
use Rattle.quantum_cache.specs.declared.reaps.Reaping.{Reaping}
use Rattle.quantum_cache.specs.Caches.{chain_in, if_ok, over_caches, over_arenas}
use Rattle.quantum_cache.specs.Frees.{on_slab_put, put_chunk}
use Rattle.quantum_cache.specs.Reaps.{LookEnd, ReapEnd, on_return, on_depot_reap, reap_round, on_slab_reap, reap_slab, on_look, looks_in_turn, reap_steps, reap_cache, reap_arena_plan, reap_plan}
use Rattle.quantum_cache.specs.Sizes.{caches_in}
use Rattle.stock.specs.Stocks.{IsStock}
use Rattle.local_parts.specs.States.{LocalState}
use Rattle.local_calls.specs.Runs.{SoundStep, RunsTo}
use Rattle.lease_machine.proofs.Takings.{Takes, takes_none, takes_then}
use Rattle.lease_machine.proofs.ReapEvents.{free_takes, put_takes, depot_takes, slab_none_takes, slab_some_takes}

-- so many units of slabs were taken out, and the CPU's caches are as they were
pub record Leaves (units : ℕ) (old new : LocalState) : Type 0 where
  pub stock : IsStock old.spaces → IsStock new.spaces
  pub takes : Takes units old.spaces new.spaces
  pub cpu : new.cpu ≡ old.cpu

leaves_none : (s : LocalState) → Leaves 0 s s
leaves_none s = record { stock = λ law. law; takes = takes_none s.spaces; cpu = refl }

leaves_then : (m n : ℕ) (s t u : LocalState) → Leaves m s t → Leaves n t u → Leaves (m + n) s u
leaves_then m n s t u first second = record {
  stock = λ law. second.stock (first.stock law);
  takes = takes_then m n s.spaces t.spaces u.spaces first.takes second.takes;
  cpu = second.cpu ∙ first.cpu;
}

none_then : (n : ℕ) (s t u : LocalState) → Leaves 0 s t → Leaves n t u → Leaves n s u
none_then n s t u first second = let e : 0 + n ≡ n = omega arith in subst (λ m. Leaves m s u) e (leaves_then 0 n s t u first second)

then_none : (n : ℕ) (s t u : LocalState) → Leaves n s t → Leaves 0 t u → Leaves n s u
then_none n s t u first second = let e : n + 0 ≡ n = omega arith in subst (λ m. Leaves m s u) e (leaves_then n 0 s t u first second)

-- by what a look came to
abbrev LookLeaves : LocalState → LocalState → LookEnd → Type 0
LookLeaves old new (Ok (Some units)) = Leaves units old new
LookLeaves old new (Ok None) = Leaves 0 old new
LookLeaves old new (Err f) = Unit {0}

returned_leaves : (old new : LocalState) (units : ℕ) (a : ReturnEnd) → Leaves units old new → LookLeaves old new (on_return units a)
returned_leaves old new units (Ok u) leaves = leaves
returned_leaves old new units (Err (returning.Stuck t)) leaves = tt
returned_leaves old new units (Err (returning.Stopped t)) leaves = tt

module _ (arenas : List TreeArena) where
  -- a round goes to its slab
  put_leaves : (t : Tag) (old mid new : LocalState) (r : LookEnd) → Leaves 0 old mid → RunsTo arenas (then (put_chunk t) (λ a. Done (on_return 0 a))) mid new r → LookLeaves old new r
  unfolding put_chunk
  put_leaves t old mid new r before run =
      let step = run.2.step in
      let put : Leaves 0 mid run.0 = record { stock = λ law. step.stock; takes = put_takes mid.spaces run.0.spaces t run.1 step.does.0; cpu = step.does.1 } in
      let all : Leaves 0 old new = subst (Leaves 0 old) run.3.0 (none_then 0 old mid run.0 before put) in
      subst (LookLeaves old new) run.3.1 (returned_leaves old new 0 (on_slab_put run.1) all)

  -- a look at a depot
  round_leaves : (k c : ℕ) (old new : LocalState) (r : LookEnd) → RunsTo arenas (reap_round k c) old new r → LookLeaves old new r
  unfolding reap_round
  round_leaves k c old new r path = looked path.1 path.2 path.3
    where
      mid : LocalState
      mid = path.0

      leaves : (x : Result (Option Tag) Stopped) → SoundStep (nodes_of arenas) old (DepotReap k c) x mid → Leaves 0 old mid
      leaves x step = record { stock = λ law. step.step.stock; takes = depot_takes old.spaces mid.spaces k c x step.step.does.0; cpu = step.step.does.1 }

      looked : (x : Result (Option Tag) Stopped) → SoundStep (nodes_of arenas) old (DepotReap k c) x mid → RunsTo arenas (on_depot_reap x) mid new r → LookLeaves old new r
      looked (Ok None) step rest = subst (LookLeaves old new) rest.1 (subst (Leaves 0 old) rest.0 (leaves (Ok None) step))
      looked (Ok (Some t)) step rest = put_leaves t old mid new r (leaves (Ok (Some t)) step) rest
      looked (Err e) step rest = absurd (let x : Err e ≡ Ok step.step.does.0.0 = step.step.does.0.1 in cc)

  -- spans that go back
  pub frees_leave : (chain : List Level) (t : Tag) (old new : LocalState) (r : ReturnEnd) → RunsTo arenas (return_plan chain t) old new r → Leaves 0 old new
  frees_leave [] t old new r path = subst (Leaves 0 old) path.0 (leaves_none old)
  frees_leave (l ∷ up) t old new r path = freed path.1 path.2 path.3 (λ w. frees_leave up w)
    where
      mid : LocalState
      mid = path.0

      leaves : (x : Result (Option Tag) (GivenFault Tag Tag)) → SoundStep (nodes_of arenas) old (Free t) x mid → Leaves 0 old mid
      leaves x step = record { stock = λ law. step.step.stock; takes = free_takes old.spaces mid.spaces t x step.step.does.0; cpu = step.step.does.1 }

      freed : (x : Result (Option Tag) (GivenFault Tag Tag)) → SoundStep (nodes_of arenas) old (Free t) x mid → RunsTo arenas (on_free (return_plan up) x) mid new r → ((w : Tag) (s u : LocalState) (a : ReturnEnd) → RunsTo arenas (return_plan up w) s u a → Leaves 0 s u) → Leaves 0 old new
      freed (Ok (Some w)) step rest again = none_then 0 old mid new (leaves (Ok (Some w)) step) (again w mid new r rest)
      freed (Ok None) step rest again = subst (Leaves 0 old) rest.0 (leaves (Ok None) step)
      freed (Err (giving.Refused w)) step rest again = subst (Leaves 0 old) rest.0 (leaves (Err (giving.Refused w)) step)
      freed (Err (giving.Stopped w)) step rest again = subst (Leaves 0 old) rest.0 (leaves (Err (giving.Stopped w)) step)

  -- a look at slabs
  slab_leaves : (chain : List Level) (k c : ℕ) (old new : LocalState) (r : LookEnd) → RunsTo arenas (reap_slab chain k c) old new r → LookLeaves old new r
  unfolding reap_slab
  slab_leaves chain k c old new r path = looked path.1 path.2 path.3
    where
      mid : LocalState
      mid = path.0

      looked : (x : Result (Option Tag) Stopped) → SoundStep (nodes_of arenas) old (SlabReap k c) x mid → RunsTo arenas (on_slab_reap chain x) mid new r → LookLeaves old new r
      looked (Ok None) step rest =
          let leaves : Leaves 0 old mid = record { stock = λ law. step.step.stock; takes = slab_none_takes old.spaces mid.spaces k c step.step.does.0; cpu = step.step.does.1 } in
          subst (LookLeaves old new) rest.1 (subst (Leaves 0 old) rest.0 leaves)
      looked (Ok (Some t)) step rest =
          let leaves : Leaves t.holding.range.len old mid = record { stock = λ law. step.step.stock; takes = slab_some_takes old.spaces mid.spaces k c t step.step.does.0; cpu = step.step.does.1 } in
          let split = path_split (SoundStep (nodes_of arenas)) (return_plan chain t) (λ a. Done (on_return t.holding.range.len a)) mid new r rest in
          let all : Leaves t.holding.range.len old new = subst (Leaves t.holding.range.len old) split.3.0 (then_none t.holding.range.len old mid split.0 leaves (frees_leave chain t mid split.0 split.1 split.2)) in
          subst (LookLeaves old new) split.3.1 (returned_leaves old new t.holding.range.len split.1 all)
      looked (Err e) step rest = absurd (let x : Err e ≡ Ok step.step.does.0.0 = step.step.does.0.1 in cc)

-- what was told more came out
pub record Adds (x y : Reaping) (old new : LocalState) : Type 0 where
  pub units : ℕ
  pub told : y.units ≡ x.units + units
  pub leaves : Leaves units old new

adds_none : (x y : Reaping) (s t : LocalState) → s ≡ t → x.units ≡ y.units → Adds x y s t
adds_none x y s t same told = record { units = 0; told = omega (arith, told); leaves = subst (Leaves 0 s) same (leaves_none s) }

adds_then : (x y z : Reaping) (s t u : LocalState) → Adds x y s t → Adds y z t u → Adds x z s u
adds_then x y z s t u first second = record {
  units = first.units + second.units;
  told = omega (arith, first.told, second.told);
  leaves = leaves_then first.units second.units s t u first.leaves second.leaves;
}

module _ (arenas : List TreeArena) where
  -- looks one after another
  looks_add : (look : Plan LookEnd) → ((s t : LocalState) (r : LookEnd) → RunsTo arenas look s t r → LookLeaves s t r) → (n units : ℕ) (s t : LocalState) (y : Reaping) → RunsTo arenas (looks_in_turn look n units) s t (Ok y) → Adds (record { left = n; units = units }) y s t
  looks_add look one zero units s t y path =
      let is : record { left = 0; units = units } ≡ y = (let e : Ok (record { left = 0; units = units }) ≡ Ok y = path.1 in cc) in
      adds_none (record { left = 0; units = units }) y s t path.0 (ap (λ (r : Reaping). r.units) is)
  looks_add look one (suc n) units s t y path =
      let split = path_split (SoundStep (nodes_of arenas)) look (on_look (looks_in_turn look n) n units) s t (Ok y) path in
      looked split.0 split.1 (one s split.0 split.1 split.2) split.3 (λ sum. looks_add look one n sum split.0 t y)
    where
      looked : (m : LocalState) (r : LookEnd) → LookLeaves s m r → RunsTo arenas (on_look (looks_in_turn look n) n units r) m t (Ok y) → ((sum : ℕ) → RunsTo arenas (looks_in_turn look n sum) m t (Ok y) → Adds (record { left = n; units = sum }) y m t) → Adds (record { left = suc n; units = units }) y s t
      looked m (Ok (Some more)) first rest again =
          adds_then (record { left = suc n; units = units }) (record { left = n; units = units + more }) y s m t (record { units = more; told = refl; leaves = first }) (again (units + more) rest)
      looked m (Ok None) first rest again =
          let is : record { left = n; units = units } ≡ y = (let e : Ok (record { left = n; units = units }) ≡ Ok y = rest.1 in cc) in
          let told = ap (λ (r : Reaping). r.units) is in
          record { units = 0; told = omega (arith, told); leaves = subst (Leaves 0 s) rest.0 first }
      looked m (Err f) first rest again = absurd (let e : Err _ ≡ Ok y = rest.1 in cc)

  -- what goes on after an end that is well
  pub ok_on : {X F : Type 0} (p : Plan (Result X F)) (next : X → Plan (Result X F)) (y : X) (old new : LocalState) → RunsTo arenas (then p (if_ok next)) old new (Ok y) → (m : LocalState) × (z : X) × RunsTo arenas p old m (Ok z) × RunsTo arenas (next z) m new (Ok y)
  ok_on {X} {F} p next y old new path =
      let split = path_split (SoundStep (nodes_of arenas)) p (if_ok next) old new (Ok y) path in
      on split.0 split.1 split.2 split.3
    where
      on : (m : LocalState) (r : Result X F) → RunsTo arenas p old m r → RunsTo arenas (if_ok next r) m new (Ok y) → (n : LocalState) × (z : X) × RunsTo arenas p old n (Ok z) × RunsTo arenas (next z) n new (Ok y)
      on m (Ok z) first rest = (m, z, first, rest)
      on m (Err f) first rest = absurd (let e : Err f ≡ Ok y = rest.1 in cc)

  cache_adds : (chain : List Level) (k c : ℕ) (x y : Reaping) (old new : LocalState) → RunsTo arenas (reap_cache chain k c x) old new (Ok y) → Adds x y old new
  unfolding reap_cache
  cache_adds chain k c x y old new path =
      let on = ok_on (reap_steps (reap_round k c) x) (reap_steps (reap_slab chain k c)) y old new path in
      let rounds = looks_add (reap_round k c) (round_leaves arenas k c) x.left x.units old on.0 on.1 on.2 in
      let slabs = looks_add (reap_slab chain k c) (slab_leaves arenas chain k c) on.1.left on.1.units on.0 new y on.3 in
      adds_then x on.1 y old on.0 new rounds slabs

  caches_add : (each : ℕ → Reaping → Plan ReapEnd) → ((i : ℕ) (x y : Reaping) (old new : LocalState) → RunsTo arenas (each i x) old new (Ok y) → Adds x y old new)
      → (all left : ℕ) (x y : Reaping) (old new : LocalState) → RunsTo arenas (over_caches each all left x) old new (Ok y) → Adds x y old new
  caches_add each one all zero x y old new path = adds_none x y old new path.0 (let e : Ok x ≡ Ok y = path.1 in let d : x ≡ y = cc in ap (λ (r : Reaping). r.units) d)
  caches_add each one all (suc n) x y old new path =
      let on = ok_on (each (all - n) x) (over_caches each all n) y old new path in
      adds_then x on.1 y old on.0 new (one (all - n) x on.1 old on.0 on.2) (caches_add each one all n on.1 y on.0 new on.3)

  arena_adds : (chain : List Level) (x y : Reaping) (old new : LocalState) → RunsTo arenas (reap_arena_plan chain x) old new (Ok y) → Adds x y old new
  arena_adds [] x y old new path = adds_none x y old new path.0 (let e : Ok x ≡ Ok y = path.1 in let d : x ≡ y = cc in ap (λ (r : Reaping). r.units) d)
  arena_adds (l ∷ up) x y old new path = caches_add (reap_cache (l ∷ up) l.id) (cache_adds (l ∷ up) l.id) (caches_in l) (caches_in l) x y old new path

  arenas_add : (end : ℕ) (x y : Reaping) (old new : LocalState) → RunsTo arenas (over_arenas (λ id. reap_arena_plan (chain_in arenas id)) end x) old new (Ok y) → Adds x y old new
  arenas_add zero x y old new path = adds_none x y old new path.0 (let e : Ok x ≡ Ok y = path.1 in let d : x ≡ y = cc in ap (λ (r : Reaping). r.units) d)
  arenas_add (suc n) x y old new path =
      let on = ok_on (reap_arena_plan (chain_in arenas n) x) (over_arenas (λ id. reap_arena_plan (chain_in arenas id)) n) y old new path in
      adds_then x on.1 y old on.0 new (arena_adds (chain_in arenas n) x on.1 old on.0 on.2) (arenas_add n on.1 y on.0 new on.3)

  -- a whole reaping
  pub reap_leaves : (limit : ℕ) (y : Reaping) (old new : LocalState) → RunsTo arenas (reap_plan arenas limit) old new (Ok y) → Leaves y.units old new
  reap_leaves limit y old new path =
      let adds = arenas_add (length arenas) (record { left = limit; units = 0 }) y old new path in
      let e : adds.units ≡ y.units = omega (arith, adds.told) in
      subst (λ n. Leaves n old new) e adds.leaves
