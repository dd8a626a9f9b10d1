-- With more turns than the CPU has rounds a drain's turns don't run out.
use Rattle.std.proofs.Common.{◌≡◌, ℕ, ◌+◌, ◌-◌, ◌<◌, ◌≤◌, zero, suc, List, [], ◌∷◌, Option, Some, None, Result, Ok, Err, length, refl, sym, ap, subst, ◌∙◌, arith}
use Rattle.deed_core.specs.Tag.{Tag}
use Rattle.arena_tree.specs.declared.levels.Level.{Level}
use Rattle.arena_tree.specs.declared.trees.TreeArena.{TreeArena}
use Rattle.arena_tree.specs.declared.part_faults.Stopped.{Stopped}
use Rattle.arena_tree.specs.Events.{Pop}
use Rattle.arena_tree.specs.Plans.{Plan, Done, then}
use Rattle.arena_tree.specs.Trees.{nodes_of}
use Rattle.arena_tree.proofs.LawProofs.{path_split}
use Rattle.quantum_cache.specs.Caches.{chain_in, if_ok, over_caches, over_arenas}
use Rattle.quantum_cache.specs.Drains.{EmptyingEnd, Turn, DrainEnd, on_put_back, on_drain_pop, drain_turn, drain_end, on_turn, drain_cache_plan, drain_arena_plan, drain_plan}
use Rattle.quantum_cache.specs.Frees.{put_chunk}
use Rattle.quantum_cache.specs.Sizes.{caches_in}
use Rattle.local_parts.specs.Cpus.{cpu_rounds}
use Rattle.local_parts.specs.OwnSteps.{DoesPop}
use Rattle.local_parts.specs.States.{LocalState}
use Rattle.local_parts.proofs.LawProofs.{pop_takes_round}
use Rattle.local_calls.specs.Runs.{SoundStep, RunsTo}
use Rattle.local_calls.proofs.StagesNone.{popped_none}

abbrev rounds : LocalState → ℕ
rounds s = length (cpu_rounds s.cpu)

-- it never ends for want of turns
abbrev Lasted : DrainEnd → Type 0
Lasted a = ¬ (a ≡ Err None)

ended_lasts : (r : EmptyingEnd) → Lasted (drain_end r)
ended_lasts (Ok u) e = let x : Ok tt ≡ Err None = e in cc
ended_lasts (Err f) e = let x : Err (Some f) ≡ Err None = e in cc

module _ (arenas : List TreeArena) where
  -- one round less, where there may be more
  turn_takes : (k c : ℕ) (s t : LocalState) (r : Turn) → RunsTo arenas (drain_turn k c) s t r → (rounds t ≤ rounds s) × (r ≡ None → rounds t < rounds s)
  unfolding drain_turn put_chunk
  turn_takes k c s t r path = popped path.1 path.2 path.3
    where
      mid : LocalState
      mid = path.0

      popped : (x : Result (Option Tag) Stopped) → SoundStep (nodes_of arenas) s (Pop k c) x mid → RunsTo arenas (on_drain_pop x) mid t r → (rounds t ≤ rounds s) × (r ≡ None → rounds t < rounds s)
      popped (Ok None) step rest =
          let none = popped_none s mid k c step.step.does in
          let same : rounds t ≡ rounds s = ap rounds (sym rest.0) ∙ ap (λ x. length (cpu_rounds x)) none.0.cpu in
          (omega (arith, same), λ is. absurd (let e : Some (Ok tt) ≡ None = rest.1 ∙ is in cc))
      popped (Ok (Some x)) step rest =
          let less : rounds mid + 1 ≡ rounds s = pop_takes_round s mid k c x step.step in
          let put = put_same x rest in
          (omega (arith, less, put), λ is. omega (arith, less, put))
        where
          put_same : (x : Tag) → RunsTo arenas (then (put_chunk x) (λ a. Done (on_put_back a))) mid t r → rounds t ≡ rounds mid
          put_same x run = ap rounds (sym run.3.0) ∙ ap (λ z. length (cpu_rounds z)) run.2.step.does.1
      popped (Err e) step rest = absurd (let does : DoesPop s k c (Err e) mid = step.step.does in let x : Err e ≡ Ok does.0 = does.1 in cc)

  -- where there are more turns than rounds, there are none more after it, and it lasted
  abbrev Lasts : ℕ → Plan DrainEnd → Type 0
  Lasts turns p = (s t : LocalState) (a : DrainEnd) → rounds s < turns → RunsTo arenas p s t a → (rounds t ≤ rounds s) × Lasted a

  cache_lasts : (turns k c : ℕ) → Lasts turns (drain_cache_plan turns k c)
  cache_lasts zero k c s t a more path = absurd (omega (arith, more))
  cache_lasts (suc n) k c s t a more path =
      let split = path_split (SoundStep (nodes_of arenas)) (drain_turn k c) (on_turn (drain_cache_plan n k c)) s t a path in
      turned split.0 split.1 (turn_takes k c s split.0 split.1 split.2) (cache_lasts n k c) split.3
    where
      turned : (m : LocalState) (r : Turn) → (rounds m ≤ rounds s) × (r ≡ None → rounds m < rounds s) → Lasts n (drain_cache_plan n k c) → RunsTo arenas (on_turn (drain_cache_plan n k c) r) m t a → (rounds t ≤ rounds s) × Lasted a
      turned m None first again rest =
          let fewer : rounds m < rounds s = first.1 refl in
          let last = again m t a (omega (arith, fewer, more)) rest in
          (omega (arith, fewer, last.0), last.1)
      turned m (Some x) first again rest =
          let same : rounds t ≡ rounds m = ap rounds (sym rest.0) in
          (omega (arith, same, first.0), subst Lasted rest.1 (ended_lasts x))

  -- one after another
  then_lasts : {turns : ℕ} (p : Plan DrainEnd) (next : Unit {0} → Plan DrainEnd) → Lasts turns p → ((u : Unit {0}) → Lasts turns (next u)) → Lasts turns (then p (if_ok next))
  then_lasts p next first rest s t a more path =
      let split = path_split (SoundStep (nodes_of arenas)) p (if_ok next) s t a path in
      on split.0 split.1 (first s split.0 split.1 more split.2) split.3
    where
      on : (m : LocalState) (r : DrainEnd) → (rounds m ≤ rounds s) × Lasted r → RunsTo arenas (if_ok next r) m t a → (rounds t ≤ rounds s) × Lasted a
      on m (Ok u) one run =
          let last = rest u m t a (omega (arith, one.0, more)) run in
          (omega (arith, one.0, last.0), last.1)
      on m (Err f) one run =
          let same : rounds t ≡ rounds m = ap rounds (sym run.0) in
          (omega (arith, same, one.0), subst Lasted run.1 one.1)

  done_lasts : {turns : ℕ} (u : Unit {0}) → Lasts turns (Done (Ok u))
  done_lasts u s t a more path =
      let same : rounds t ≡ rounds s = ap rounds (sym path.0) in
      (omega (arith, same), subst Lasted path.1 (ended_lasts (Ok tt)))

  caches_last : {turns : ℕ} (each : ℕ → Unit {0} → Plan DrainEnd) → ((k : ℕ) (u : Unit {0}) → Lasts turns (each k u)) → (all left : ℕ) (u : Unit {0}) → Lasts turns (over_caches each all left u)
  caches_last each one all zero u = done_lasts u
  caches_last each one all (suc left) u = then_lasts (each (all - left) u) (over_caches each all left) (one (all - left) u) (caches_last each one all left)

  arenas_last : {turns : ℕ} (each : ℕ → Unit {0} → Plan DrainEnd) → ((k : ℕ) (u : Unit {0}) → Lasts turns (each k u)) → (end : ℕ) (u : Unit {0}) → Lasts turns (over_arenas each end u)
  arenas_last each one zero u = done_lasts u
  arenas_last each one (suc id) u = then_lasts (each id u) (over_arenas each id) (one id u) (arenas_last each one id)

  chain_lasts : (turns : ℕ) (chain : List Level) → Lasts turns (drain_arena_plan turns chain)
  chain_lasts turns [] = done_lasts tt
  chain_lasts turns (l ∷ up) = caches_last (λ cache _. drain_cache_plan turns l.id cache) (λ cache _. cache_lasts turns l.id cache) (caches_in l) (caches_in l) tt

  pub turns_last : (turns : ℕ) (s t : LocalState) (a : DrainEnd) → rounds s < turns → RunsTo arenas (drain_plan turns arenas) s t a → ¬ (a ≡ Err None)
  turns_last turns s t a more path =
      (arenas_last (λ id _. drain_arena_plan turns (chain_in arenas id)) (λ id _. chain_lasts turns (chain_in arenas id)) (length arenas) tt s t a more path).1
