-- A drain that ends well leaves the CPU no round.
use Rattle.std.proofs.Common.{◌≡◌, ℕ, ◌+◌, ◌*◌, ◌/◌, ◌<◌, ◌≤◌, zero, suc, min, List, [], ◌∷◌, All, Option, Some, None, Result, Ok, Err, length, inl, inr, refl, sym, ap, subst, ◌∙◌, arith}
use Rattle.std.specs.Prelude.{slice_get}
use Rattle.std.proofs.Math.Nat.{mul-le-mul_right}
use Rattle.std.proofs.lemmas.Bool.{cases_lt}
use Rattle.std.proofs.lemmas.Nat.{div-add-mod'}
use Rattle.std.proofs.lemmas.List.{length-replicate}
use Rattle.std.proofs.lemmas.Option.{slice_get_within}
use Rattle.deed_core.specs.Tag.{Tag}
use Rattle.deed_core.proofs.LawProofs.{all_from, mapped, slice_get_one, power_some}
use Rattle.magazine_layer.specs.Magazines.{BothEmpty}
use Rattle.arena_tree.specs.declared.levels.Level.{Level}
use Rattle.arena_tree.specs.declared.limits.TheConstants.{MOST_CACHES}
use Rattle.arena_tree.specs.declared.trees.TreeArena.{TreeArena}
use Rattle.arena_tree.specs.declared.part_faults.ReturnFault.TheVariants as returning
use Rattle.arena_tree.specs.declared.part_faults.Stopped.{Stopped}
use Rattle.arena_tree.specs.Chains.{Node, IsChain, first_id}
use Rattle.arena_tree.specs.Climbs.{ReturnEnd}
use Rattle.arena_tree.specs.Events.{Pop}
use Rattle.arena_tree.specs.Plans.{Done, then}
use Rattle.arena_tree.specs.Trees.{nodes_of, IsTree, IsArena}
use Rattle.arena_tree.proofs.LawProofs.{path_split}
use Rattle.stock.specs.OwnCaches.{OwnCacheState, HasNoRound}
use Rattle.stock.specs.Setups.{plan_for, plans_for}
use Rattle.stock.specs.Spaces.{SpacePlan, plans_of}
use Rattle.quantum_cache.specs.declared.emptying_faults.EmptyingFault.TheVariants as emptying
use Rattle.quantum_cache.specs.Caches.{chain_in}
use Rattle.quantum_cache.specs.Drains.{Turn, on_put_back, on_drain_pop, drain_turn, on_turn, drain_cache_plan, drain_arena_plan, drain_plan}
use Rattle.quantum_cache.specs.Frees.{on_slab_put, put_chunk}
use Rattle.quantum_cache.specs.Sizes.{caches_in}
use Rattle.local_parts.specs.Cpus.{IsCpuOf, indexes_from}
use Rattle.local_parts.specs.OwnSteps.{DoesPop}
use Rattle.local_parts.specs.States.{LocalState}
use Rattle.local_parts.specs.Steps.{IsSetUpAs}
use Rattle.local_calls.specs.Laws.{DrainEmptiesCpu}
use Rattle.local_calls.specs.Runs.{SoundStep, RunsTo}
use Rattle.local_calls.proofs.Chains.{tree_chain, first_arena}
use Rattle.local_calls.proofs.CpuIndexes.{EmptyAt, own_written, empty_pops, reached_here, within_plan}
use Rattle.local_calls.proofs.StagesNone.{popped_none, HasNoRoundOf}
use Rattle.local_calls.proofs.Walks.{caches_walk, arenas_walk}

-- what each step of a drain keeps
record Keeps (old new : LocalState) : Type 0 where
  setup : IsSetUpAs old new
  empty : (k j : ℕ) → EmptyAt old.cpu k j → EmptyAt new.cpu k j

keeps_same : (s : LocalState) → Keeps s s
keeps_same s = record { setup = record { plans = refl; indexes = refl }; empty = λ k j e. e }

keeps_then : (s t u : LocalState) → Keeps s t → Keeps t u → Keeps s u
keeps_then s t u a b = record {
  setup = record { plans = b.setup.plans ∙ a.setup.plans; indexes = b.setup.indexes ∙ a.setup.indexes };
  empty = λ k j e. b.empty k j (a.empty k j e);
}

-- the CPU is the stock's
abbrev IsOf : LocalState → Type 0
IsOf s = IsCpuOf s.spaces s.cpu

still_of : (s t : LocalState) → Keeps s t → IsOf s → IsOf t
still_of s t keeps of = keeps.setup.indexes ∙ (of ∙ ap (indexes_from 0) (sym keeps.setup.plans))

-- a pop
pop_empty : (old new : LocalState) (k c : ℕ) (a : Result (Option Tag) Stopped) → DoesPop old k c a new → (i n : ℕ) → EmptyAt old.cpu i n → EmptyAt new.cpu i n
pop_empty old new k c a does i n empty row o at among = elim does.2 [
  | inl on ↦
      let own = on.1.3 in
      elim (own_written k on.1.0 _ old.cpu new.cpu own i n row o at among) [
        | inl here ↦
            let was : BothEmpty own.own.cpu = empty own.row own.own (ap (slice_get old.cpu) here.0 ∙ own.at) (ap (slice_get own.row) here.1 ∙ own.among) in
            subst (λ (x : OwnCacheState). BothEmpty x.cpu) (sym here.2) (empty_pops own.own.cpu own.changed.cpu does.0 own.does.1 was)
        | inr there ↦ empty there.0 o there.1 there.2
      ]
  | inr none ↦ empty row o (ap (λ xs. slice_get xs i) (sym none.2.cpu) ∙ at) among
]

module _ (arenas : List TreeArena) where
  -- a round that is put back
  put_keeps : (t : Tag) (old new : LocalState) (r : Turn) → RunsTo arenas (then (put_chunk t) (λ a. Done (on_put_back a))) old new r → Keeps old new × (r ≡ Some (Ok tt) → ⊥)
  unfolding put_chunk
  put_keeps t old new r path =
      let step = path.2.step in
      let keeps : Keeps old path.0 = record { setup = step.setup; empty = λ k j e. subst (λ cpu. EmptyAt cpu k j) (sym step.does.1) e } in
      (subst (Keeps old) path.3.0 keeps, λ is. not_ended (on_slab_put path.1) (path.3.1 ∙ is))
    where
      not_ended : (a : ReturnEnd) → on_put_back a ≡ Some (Ok tt) → ⊥
      not_ended (Ok u) e = let x : None ≡ Some (Ok tt) = e in cc
      not_ended (Err (returning.Stuck y)) e = let x : Some (Err (emptying.Stuck y)) ≡ Some (Ok tt) = e in cc
      not_ended (Err (returning.Stopped y)) e = let x : Some (Err (emptying.Stopped (Some y))) ≡ Some (Ok tt) = e in cc

  turn_keeps : (k c : ℕ) (old new : LocalState) (r : Turn) → RunsTo arenas (drain_turn k c) old new r → Keeps old new × (r ≡ Some (Ok tt) → HasNoRoundOf new k c)
  unfolding drain_turn
  turn_keeps k c old new r path = popped path.1 path.2 path.3
    where
      mid : LocalState
      mid = path.0

      popped : (x : Result (Option Tag) Stopped) → SoundStep (nodes_of arenas) old (Pop k c) x mid → RunsTo arenas (on_drain_pop x) mid new r → Keeps old new × (r ≡ Some (Ok tt) → HasNoRoundOf new k c)
      popped (Ok None) step rest =
          let keeps : Keeps old mid = record { setup = step.step.setup; empty = pop_empty old mid k c (Ok None) step.step.does } in
          let none = popped_none old mid k c step.step.does in
          let same : old ≡ mid = λ i. record { spaces = sym none.0.spaces i; cpu = sym none.0.cpu i } in
          (subst (Keeps old) rest.0 keeps, λ is. subst (λ s. HasNoRoundOf s k c) (same ∙ rest.0) none.1)
      popped (Ok (Some t)) step rest =
          let keeps : Keeps old mid = record { setup = step.step.setup; empty = pop_empty old mid k c (Ok (Some t)) step.step.does } in
          let put = put_keeps t mid new r rest in
          (keeps_then old mid new keeps put.0, λ is. absurd (put.1 is))
      popped (Err s) step rest =
          let keeps : Keeps old mid = record { setup = step.step.setup; empty = pop_empty old mid k c (Err s) step.step.does } in
          (subst (Keeps old) rest.0 keeps, λ is. absurd (let e : Some (Err (emptying.Stopped None)) ≡ Some (Ok tt) = rest.1 ∙ is in cc))

  -- the rounds of one cache
  cache_empties : (turns k c : ℕ) (old new : LocalState) → IsOf old → RunsTo arenas (drain_cache_plan turns k c) old new (Ok tt) → Keeps old new × ((j : ℕ) → c ≡ j + 1 → EmptyAt new.cpu k j)
  cache_empties zero k c old new of path = absurd (let e : Err None ≡ Ok tt = path.1 in cc)
  cache_empties (suc turns) k c old new of path =
      let split = path_split (SoundStep (nodes_of arenas)) (drain_turn k c) (on_turn (drain_cache_plan turns k c)) old new (Ok tt) path in
      turned split.0 split.1 (turn_keeps k c old split.0 split.1 split.2) split.3 (cache_empties turns k c split.0 new)
    where
      turned : (m : LocalState) (r : Turn) → Keeps old m × (r ≡ Some (Ok tt) → HasNoRoundOf m k c) → RunsTo arenas (on_turn (drain_cache_plan turns k c) r) m new (Ok tt)
          → (IsOf m → RunsTo arenas (drain_cache_plan turns k c) m new (Ok tt) → Keeps m new × ((j : ℕ) → c ≡ j + 1 → EmptyAt new.cpu k j)) → Keeps old new × ((j : ℕ) → c ≡ j + 1 → EmptyAt new.cpu k j)
      turned m None first rest again = let more = again (still_of old m first.0 of) rest in (keeps_then old m new first.0 more.0, more.1)
      turned m (Some (Ok u)) first rest again =
          let none : HasNoRoundOf m k c = first.1 refl in
          let is : IsOf m = still_of old m first.0 of in
          subst (λ s. Keeps old s × ((j : ℕ) → c ≡ j + 1 → EmptyAt s.cpu k j)) rest.0 (first.0, λ j number row o at among. none j o number (reached_here m.spaces m.cpu is k j row o at among))
      turned m (Some (Err f)) first rest again = absurd (let e : Err (Some f) ≡ Ok tt = rest.1 in cc)

-- an arena has at most MOST_CACHES caches, and each is looked at
quotient_most : (quantum most n : ℕ) → 0 < quantum → most ≤ n * quantum → most / quantum ≤ n
quotient_most quantum most n some le = elim (cases_lt n (most / quantum)) [
  | inl less ↦
      let more : (n + 1) * quantum ≤ most / quantum * quantum = mul-le-mul_right quantum (omega (arith, less)) in
      let one_more : n * quantum + quantum ≡ (n + 1) * quantum = grind arith in
      absurd (omega (arith, more, one_more, le, some, div-add-mod' most quantum))
  | inr ok ↦ ok
]

pub few_caches : (arenas : List TreeArena) → IsTree arenas → (id : ℕ) (x : TreeArena) → slice_get arenas id ≡ Some x → x.qcache_max / x.quantum ≤ MOST_CACHES
few_caches arenas tree id x at =
    let arena : IsArena arenas id x = tree.each id x at in
    quotient_most x.quantum x.qcache_max MOST_CACHES (power_some x.quantum arena.power) arena.caches.1

pub all_caches : (arenas : List TreeArena) → IsTree arenas → (l : Level) (up : List Level) → IsChain (nodes_of arenas) (l ∷ up) → (x : TreeArena) → slice_get arenas l.id ≡ Some x → caches_in l ≡ x.qcache_max / x.quantum
all_caches arenas tree l up is x at =
    let here = first_arena arenas l up is in
    let same : here.0 ≡ x = slice_get_one arenas l.id here.0 x here.1 at in
    let quantum : l.quantum ≡ x.quantum = ap (λ (n : Node). n.quantum) here.2 ∙ ap (λ (y : TreeArena). y.quantum) same in
    let most : l.qcache_max ≡ x.qcache_max = ap (λ (n : Node). n.qcache_max) here.2 ∙ ap (λ (y : TreeArena). y.qcache_max) same in
    let few : x.qcache_max / x.quantum ≤ MOST_CACHES = few_caches arenas tree l.id x at in
    ap (λ q. min (l.qcache_max / q) 255) quantum ∙ (ap (λ m. min (m / x.quantum) 255) most ∙ omega (arith, few))

module _ (arenas : List TreeArena) (tree : IsTree arenas) (turns : ℕ) where
  -- the caches of one arena are emptied
  ArenaEmptied : ℕ → LocalState → Type 0
  ArenaEmptied id s = (x : TreeArena) → slice_get arenas id ≡ Some x → (j : ℕ) → j < x.qcache_max / x.quantum → EmptyAt s.cpu id j

  arena_empties : (chain : List Level) (id : ℕ) → IsChain (nodes_of arenas) chain → first_id chain ≡ Some id → (old new : LocalState) → IsOf old → RunsTo arenas (drain_arena_plan turns chain) old new (Ok tt) → Keeps old new × ArenaEmptied id new
  unfolding ArenaEmptied
  arena_empties [] id is first old new of path = absurd (let e : None ≡ Some id = first in cc)
  arena_empties (l ∷ up) id is first old new of path =
      let here : l.id ≡ id = (let e : Some l.id ≡ Some id = first in cc) in
      let walk = caches_walk arenas Keeps keeps_same keeps_then IsOf still_of (λ (u : Unit {0}). Unit {0}) (λ cache (u : Unit {0}). drain_cache_plan turns l.id cache)
      (λ c s. (j : ℕ) → c ≡ j + 1 → EmptyAt s.cpu l.id j) (λ c s t keeps done j number. keeps.empty l.id j (done j number))
      (λ c x y s t inv run. let one = cache_empties arenas turns l.id c s t inv run in (one.0, λ live. (tt, one.1)))
      (caches_in l) (caches_in l) (omega arith) tt tt old new of path in
      let all = (walk.1 tt).1 in (
        walk.0,
        λ x at j within.
            let count = all_caches arenas tree l up is x (ap (slice_get arenas) here ∙ at) in
            subst (λ k. EmptyAt new.cpu k j) here (all (j + 1) (omega arith) (omega (arith, within, count)) j refl),
      )

  drain_empties : (old new : LocalState) → IsOf old → RunsTo arenas (drain_plan turns arenas) old new (Ok tt) → Keeps old new × ((id : ℕ) → id < length arenas → ArenaEmptied id new)
  unfolding ArenaEmptied
  drain_empties old new of path =
      let walk = arenas_walk arenas Keeps keeps_same keeps_then IsOf still_of (λ (u : Unit {0}). Unit {0}) (λ id (u : Unit {0}). drain_arena_plan turns (chain_in arenas id))
      ArenaEmptied (λ id s t keeps done x at j within. keeps.empty id j (done x at j within)) (length arenas)
      (λ id x y s t less inv run. let chain = tree_chain arenas tree id less in let one = arena_empties (chain_in arenas id) id chain.0 chain.1 s t inv run in (one.0, λ live. (tt, one.1)))
      tt tt old new of path in
      (walk.0, (walk.1 tt).1)

pub drain_empties_cpu : DrainEmptiesCpu
unfolding ArenaEmptied
drain_empties_cpu turns arenas old new local path =
    let done = drain_empties arenas local.tree turns old new local.cpu path in
    let of : IsOf new = still_of old new done.0 local.cpu in
    all_from (λ row. All HasNoRound row) new.cpu (λ k row at. all_from HasNoRound row (λ j o among.
    let p = within_plan new.spaces new.cpu of k j row o at among in
    let plans : plans_of new.spaces ≡ plans_for arenas = done.0.setup.plans ∙ local.plans in
    let x = mapped plan_for arenas k p.0 (ap (λ ps. slice_get ps k) (sym plans) ∙ p.1) in
    let count : length p.0.slab_sizes ≡ x.0.qcache_max / x.0.quantum = ap (λ (q : SpacePlan). length q.slab_sizes) x.2 ∙ length-replicate (x.0.qcache_max / x.0.quantum) x.0.slab_size in
    done.1 k (slice_get_within arenas k x.0 x.1) x.0 x.1 j (omega (arith, p.2, count)) row o at among))
