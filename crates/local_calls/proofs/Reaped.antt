-- A reaping that ends before its limit leaves nothing that could be reaped.
use Rattle.std.proofs.Common.{◌≡◌, ℕ, ◌+◌, ◌/◌, ◌<◌, ◌≤◌, zero, suc, List, [], ◌∷◌, Option, Some, None, Result, Ok, Err, length, inl, inr, refl, sym, ap, subst, ◌∙◌, arith}
use Rattle.std.specs.Prelude.{slice_get}
use Rattle.std.proofs.lemmas.List.{length-map, length-replicate}
use Rattle.std.proofs.lemmas.Option.{slice_get_within}
use Rattle.deed_core.specs.Tag.{Tag}
use Rattle.deed_core.specs.declared.segments.Route.TheVariants.{Cached}
use Rattle.arena_tree.specs.declared.levels.Level.{Level}
use Rattle.arena_tree.specs.declared.trees.TreeArena.{TreeArena}
use Rattle.arena_tree.specs.declared.part_faults.GivenFault.{GivenFault}
use Rattle.arena_tree.specs.declared.part_faults.GivenFault.TheVariants as giving
use Rattle.arena_tree.specs.declared.part_faults.Stopped.{Stopped}
use Rattle.arena_tree.specs.declared.part_faults.ReturnFault.TheVariants as returning
use Rattle.arena_tree.specs.Chains.{IsChain, first_id}
use Rattle.arena_tree.specs.Climbs.{ReturnEnd, return_plan, on_free}
use Rattle.arena_tree.specs.Events.{Free, SlabReap, DepotReap}
use Rattle.arena_tree.specs.Plans.{Plan, Done, then}
use Rattle.arena_tree.specs.Trees.{nodes_of, IsTree}
use Rattle.arena_tree.proofs.LawProofs.{path_split}
use Rattle.stock.specs.Setups.{plans_for}
use Rattle.stock.specs.Spaces.{SpacePlan, IsCacheAt, plans_of, slab_size_of}
use Rattle.quantum_cache.specs.declared.emptying_faults.EmptyingFault.TheVariants as emptying
use Rattle.quantum_cache.specs.declared.reaps.Reaping.{Reaping}
use Rattle.quantum_cache.specs.Caches.{chain_in, if_ok}
use Rattle.quantum_cache.specs.Frees.{on_slab_put, put_chunk}
use Rattle.quantum_cache.specs.Reaps.{LookEnd, ReapEnd, on_return, on_depot_reap, reap_round, on_slab_reap, reap_slab, on_look, looks_in_turn, reap_steps, reap_cache, reap_arena_plan, reap_plan}
use Rattle.quantum_cache.specs.Sizes.{caches_in}
use Rattle.local_parts.specs.States.{LocalState}
use Rattle.local_calls.specs.Laws.{ReapLeavesNothing}
use Rattle.local_calls.specs.Reaped.{NoneToReapAt, NoneToReapIn}
use Rattle.local_calls.specs.Runs.{SoundStep, RunsTo}
use Rattle.local_calls.proofs.Chains.{tree_chain}
use Rattle.local_calls.proofs.Drained.{all_caches}
use Rattle.local_calls.proofs.Refusals.{planned}
use Rattle.local_calls.proofs.ReapSteps.{CachesSame, OthersSame, DepotStands, SlabsStand, freed_same, put_same, depot_none, depot_some, slab_none, slab_some}
use Rattle.local_calls.proofs.Walks.{caches_walk, arenas_walk}

-- what each look of a reaping keeps
pub record ReapKeeps (old new : LocalState) : Type 0 where
  pub plans : plans_of new.spaces ≡ plans_of old.spaces
  pub none : (k j : ℕ) → NoneToReapAt old.spaces k j → NoneToReapAt new.spaces k j

reap_same : (s : LocalState) → ReapKeeps s s
reap_same s = record { plans = refl; none = λ k j was. was }

reap_then : (s t u : LocalState) → ReapKeeps s t → ReapKeeps t u → ReapKeeps s u
reap_then s t u a b = record { plans = b.plans ∙ a.plans; none = λ k j was. b.none k j (a.none k j was) }

-- and each look at slabs
pub record SlabKeeps (old new : LocalState) : Type 0 where
  pub keeps : ReapKeeps old new
  pub depots : (k j : ℕ) → DepotStands old.spaces k j → DepotStands new.spaces k j

slab_same : (s : LocalState) → SlabKeeps s s
slab_same s = record { keeps = reap_same s; depots = λ k j was. was }

slab_then : (s t u : LocalState) → SlabKeeps s t → SlabKeeps t u → SlabKeeps s u
slab_then s t u a b = record { keeps = reap_then s t u a.keeps b.keeps; depots = λ k j was. b.depots k j (a.depots k j was) }

-- where the caches stay, so does all that is said of them
all_same : (old new : LocalState) → plans_of new.spaces ≡ plans_of old.spaces → CachesSame old.spaces new.spaces → SlabKeeps old new
all_same old new plans same = record {
  keeps = record { plans = plans; none = λ k j was d there. was d (same k j d there) };
  depots = λ k j was d there. was d (same k j d there);
}

-- where one cache changed that had something to reap
others_keep : (old new : LocalState) (k c : ℕ) → ((j : ℕ) → c ≡ j + 1 → NoneToReapAt old.spaces k j → ⊥) → OthersSame k c old.spaces new.spaces → (i n : ℕ) → NoneToReapAt old.spaces i n → NoneToReapAt new.spaces i n
others_keep old new k c had others i n was d there = elim (others i n d there) [
  | inl here ↦ absurd (had n here.1 (subst (λ m. NoneToReapAt old.spaces m n) here.0 was))
  | inr same ↦ was d same
]

-- looks one after another
module _ (arenas : List TreeArena) (Rel : LocalState → LocalState → Type 0) (same : (s : LocalState) → Rel s s) (trans : (s t u : LocalState) → Rel s t → Rel t u → Rel s u) (Last : LocalState → Type 0) (look : Plan LookEnd)
    (one : (s t : LocalState) (r : LookEnd) → RunsTo arenas look s t r → Rel s t × (r ≡ Ok None → Last t)) where
  looks : (n units : ℕ) (s t : LocalState) (y : Reaping) → RunsTo arenas (looks_in_turn look n units) s t (Ok y) → Rel s t × (y.left ≤ n) × (0 < y.left → Last t)
  looks zero units s t y path =
      let is : record { left = 0; units = units } ≡ y = (let e : Ok (record { left = 0; units = units }) ≡ Ok y = path.1 in cc) in
      let left : 0 ≡ y.left = ap (λ (r : Reaping). r.left) is in
      (subst (Rel s) path.0 (same s), omega (arith, left), λ some. absurd (omega (arith, left, some)))
  looks (suc n) units s t y path =
      let split = path_split (SoundStep (nodes_of arenas)) look (on_look (looks_in_turn look n) n units) s t (Ok y) path in
      looked split.0 split.1 (one s split.0 split.1 split.2) split.3 (λ sum. looks n sum split.0 t y)
    where
      looked : (m : LocalState) (r : LookEnd) → Rel s m × (r ≡ Ok None → Last m) → RunsTo arenas (on_look (looks_in_turn look n) n units r) m t (Ok y)
          → ((sum : ℕ) → RunsTo arenas (looks_in_turn look n sum) m t (Ok y) → Rel m t × (y.left ≤ n) × (0 < y.left → Last t)) → Rel s t × (y.left ≤ suc n) × (0 < y.left → Last t)
      looked m (Ok (Some more)) first rest again = let r = again _ rest in (trans s m t first.0 r.0, omega (arith, r.1), r.2)
      looked m (Ok None) first rest again =
          let is : record { left = n; units = units } ≡ y = (let e : Ok (record { left = n; units = units }) ≡ Ok y = rest.1 in cc) in
          let left : n ≡ y.left = ap (λ (r : Reaping). r.left) is in
          (subst (Rel s) rest.0 first.0, omega (arith, left), λ some. subst Last rest.0 (first.1 refl))
      looked m (Err f) first rest again = absurd (let e : Err _ ≡ Ok y = rest.1 in cc)

module _ (arenas : List TreeArena) where
  -- a round goes to its slab
  put_back_keeps : (t : Tag) (k c : ℕ) → t.arena ≡ k → t.route ≡ Cached c → (old new : LocalState) (r : LookEnd) → RunsTo arenas (then (put_chunk t) (λ a. Done (on_return 0 a))) old new r
      → (plans_of new.spaces ≡ plans_of old.spaces) × OthersSame k c old.spaces new.spaces × (r ≡ Ok None → ⊥)
  unfolding put_chunk
  put_back_keeps t k c home cached old new r path =
      let step = path.2.step in (
        ap (λ (s : LocalState). plans_of s.spaces) (sym path.3.0) ∙ step.setup.plans,
        subst (λ (s : LocalState). OthersSame k c old.spaces s.spaces) path.3.0 (put_same old.spaces path.0.spaces t k c path.1 home cached step.does.0),
        λ is. not_none 0 (on_slab_put path.1) (path.3.1 ∙ is),
      )
    where
      not_none : (units : ℕ) (a : ReturnEnd) → on_return units a ≡ Ok None → ⊥
      not_none units (Ok u) e = let x : Ok (Some units) ≡ Ok None = e in cc
      not_none units (Err (returning.Stuck y)) e = let x : Err (emptying.Stuck y) ≡ Ok None = e in cc
      not_none units (Err (returning.Stopped y)) e = let x : Err (emptying.Stopped (Some y)) ≡ Ok None = e in cc

  -- a look at a depot
  round_keeps : (k c : ℕ) (old new : LocalState) (r : LookEnd) → RunsTo arenas (reap_round k c) old new r → ReapKeeps old new × (r ≡ Ok None → (j : ℕ) → c ≡ j + 1 → DepotStands new.spaces k j)
  unfolding reap_round
  round_keeps k c old new r path = looked path.1 path.2 path.3
    where
      mid : LocalState
      mid = path.0

      looked : (x : Result (Option Tag) Stopped) → SoundStep (nodes_of arenas) old (DepotReap k c) x mid → RunsTo arenas (on_depot_reap x) mid new r → ReapKeeps old new × (r ≡ Ok None → (j : ℕ) → c ≡ j + 1 → DepotStands new.spaces k j)
      looked (Ok None) step rest =
          let did = depot_none old.spaces mid.spaces k c step.step.does.0 in
          let keeps : ReapKeeps old mid = record { plans = step.step.setup.plans; none = did.0 } in
          subst (λ (s : LocalState). ReapKeeps old s × (r ≡ Ok None → (j : ℕ) → c ≡ j + 1 → DepotStands s.spaces k j)) rest.0 (keeps, λ is. did.1)
      looked (Ok (Some t)) step rest =
          let did = depot_some old.spaces mid.spaces k c t step.step.does.0 in
          let put = put_back_keeps t k c step.sound.of_arena step.sound.cached mid new r rest in
          let others : OthersSame k c old.spaces new.spaces = λ i n d there. elim (put.1 i n d there) [ inl here ↦ inl here | inr before ↦ did.1 i n d before ] in
          (record { plans = put.0 ∙ step.step.setup.plans; none = others_keep old new k c did.0 others }, λ is. absurd (put.2 is))
      looked (Err e) step rest = absurd (let x : Err e ≡ Ok step.step.does.0.0 = step.step.does.0.1 in cc)

  -- spans that go back leave the caches
  frees_same : (chain : List Level) (t : Tag) (old new : LocalState) (r : ReturnEnd) → RunsTo arenas (return_plan chain t) old new r → (plans_of new.spaces ≡ plans_of old.spaces) × CachesSame old.spaces new.spaces
  frees_same [] t old new r path =
      subst (λ (s : LocalState). (plans_of s.spaces ≡ plans_of old.spaces) × CachesSame old.spaces s.spaces) path.0 (refl, λ i n d there. there)
  frees_same (l ∷ up) t old new r path = freed path.1 path.2 path.3 (λ w. frees_same up w)
    where
      mid : LocalState
      mid = path.0

      freed : (x : Result (Option Tag) (GivenFault Tag Tag)) → SoundStep (nodes_of arenas) old (Free t) x mid → RunsTo arenas (on_free (return_plan up) x) mid new r
          → ((w : Tag) (s u : LocalState) (a : ReturnEnd) → RunsTo arenas (return_plan up w) s u a → (plans_of u.spaces ≡ plans_of s.spaces) × CachesSame s.spaces u.spaces) → (plans_of new.spaces ≡ plans_of old.spaces) × CachesSame old.spaces new.spaces
      freed (Ok (Some w)) step rest again =
          let more = again w mid new r rest in
          let first = freed_same old.spaces mid.spaces t (Ok (Some w)) step.step.does.0 in
          (more.0 ∙ step.step.setup.plans, λ i n d there. first i n d (more.1 i n d there))
      freed (Ok None) step rest again = subst (λ (s : LocalState). (plans_of s.spaces ≡ plans_of old.spaces) × CachesSame old.spaces s.spaces) rest.0 (step.step.setup.plans, freed_same old.spaces mid.spaces t (Ok None) step.step.does.0)
      freed (Err (giving.Refused w)) step rest again = subst (λ (s : LocalState). (plans_of s.spaces ≡ plans_of old.spaces) × CachesSame old.spaces s.spaces) rest.0 (step.step.setup.plans, freed_same old.spaces mid.spaces t (Err (giving.Refused w)) step.step.does.0)
      freed (Err (giving.Stopped w)) step rest again = subst (λ (s : LocalState). (plans_of s.spaces ≡ plans_of old.spaces) × CachesSame old.spaces s.spaces) rest.0 (step.step.setup.plans, freed_same old.spaces mid.spaces t (Err (giving.Stopped w)) step.step.does.0)

  -- a look at slabs
  slab_keeps : (chain : List Level) (k c : ℕ) (old new : LocalState) (r : LookEnd) → RunsTo arenas (reap_slab chain k c) old new r → SlabKeeps old new × (r ≡ Ok None → (j : ℕ) → c ≡ j + 1 → SlabsStand new.spaces k j)
  unfolding reap_slab
  slab_keeps chain k c old new r path = looked path.1 path.2 path.3
    where
      mid : LocalState
      mid = path.0

      looked : (x : Result (Option Tag) Stopped) → SoundStep (nodes_of arenas) old (SlabReap k c) x mid → RunsTo arenas (on_slab_reap chain x) mid new r → SlabKeeps old new × (r ≡ Ok None → (j : ℕ) → c ≡ j + 1 → SlabsStand new.spaces k j)
      looked (Ok None) step rest =
          let did = slab_none old.spaces mid.spaces k c step.step.does.0 in
          let keeps : SlabKeeps old mid = all_same old mid step.step.setup.plans (λ i n d there. subst (λ xs. IsCacheAt xs i n d) did.0 there) in
          subst (λ (s : LocalState). SlabKeeps old s × (r ≡ Ok None → (j : ℕ) → c ≡ j + 1 → SlabsStand s.spaces k j)) rest.0 (keeps, λ is j number d there. did.1 j number d (subst (λ xs. IsCacheAt xs k j d) did.0 there))
      looked (Ok (Some t)) step rest =
          let did = slab_some old.spaces mid.spaces k c t step.step.does.0 in
          let first : SlabKeeps old mid = record { keeps = record { plans = step.step.setup.plans; none = others_keep old mid k c did.0 did.1 }; depots = did.2 } in
          let split = path_split (SoundStep (nodes_of arenas)) (return_plan chain t) (λ a. Done (on_return t.holding.range.len a)) mid new r rest in
          let freed = frees_same chain t mid split.0 split.1 split.2 in
          (subst (SlabKeeps old) split.3.0 (slab_then old mid split.0 first (all_same mid split.0 freed.0 freed.1)), λ is. absurd (not_none t.holding.range.len split.1 (split.3.1 ∙ is)))
        where
          not_none : (units : ℕ) (a : ReturnEnd) → on_return units a ≡ Ok None → ⊥
          not_none units (Ok u) e = let x : Ok (Some units) ≡ Ok None = e in cc
          not_none units (Err (returning.Stuck y)) e = let x : Err (emptying.Stuck y) ≡ Ok None = e in cc
          not_none units (Err (returning.Stopped y)) e = let x : Err (emptying.Stopped (Some y)) ≡ Ok None = e in cc
      looked (Err e) step rest = absurd (let x : Err e ≡ Ok step.step.does.0.0 = step.step.does.0.1 in cc)

  -- a cache: its depot, and then its slabs
  cache_reaped : (chain : List Level) (k c : ℕ) (x y : Reaping) (old new : LocalState) → RunsTo arenas (reap_cache chain k c x) old new (Ok y) → ReapKeeps old new × (0 < y.left → (0 < x.left) × ((j : ℕ) → c ≡ j + 1 → NoneToReapAt new.spaces k j))
  unfolding reap_cache
  cache_reaped chain k c x y old new path =
      let split = path_split (SoundStep (nodes_of arenas)) (reap_steps (reap_round k c) x) (if_ok (reap_steps (reap_slab chain k c))) old new (Ok y) path in
      slabs split.0 split.1 split.2 split.3
    where
      slabs : (m : LocalState) (r : ReapEnd) → RunsTo arenas (reap_steps (reap_round k c) x) old m r → RunsTo arenas (if_ok (reap_steps (reap_slab chain k c)) r) m new (Ok y) → ReapKeeps old new × (0 < y.left → (0 < x.left) × ((j : ℕ) → c ≡ j + 1 → NoneToReapAt new.spaces k j))
      slabs m (Err f) first rest = absurd (let e : Err f ≡ Ok y = rest.1 in cc)
      slabs m (Ok z) first rest =
          let rounds = looks arenas ReapKeeps reap_same reap_then (λ s. (j : ℕ) → c ≡ j + 1 → DepotStands s.spaces k j) (reap_round k c) (round_keeps k c) x.left x.units old m z first in
          let spans = looks arenas SlabKeeps slab_same slab_then (λ s. (j : ℕ) → c ≡ j + 1 → SlabsStand s.spaces k j) (reap_slab chain k c) (slab_keeps chain k c) z.left z.units m new y rest in (
            reap_then old m new rounds.0 spans.0.keeps,
            λ some.
                let before : 0 < z.left = omega (arith, some, spans.1) in (
                  omega (arith, before, rounds.1),
                  λ j number d there. (let stands = spans.0.depots k j (rounds.2 before j number) d there in record { rounds = stands.0; empty = stands.1; slabs = spans.2 some j number d there }),
                ),
          )

-- the caches of one arena are reaped
abbrev pub ArenaReaped : List TreeArena → ℕ → LocalState → Type 0
ArenaReaped arenas id s = (x : TreeArena) → slice_get arenas id ≡ Some x → (j : ℕ) → j < x.qcache_max / x.quantum → NoneToReapAt s.spaces id j

module _ (arenas : List TreeArena) (tree : IsTree arenas) where
  pub arena_reaped : (chain : List Level) (id : ℕ) → IsChain (nodes_of arenas) chain → first_id chain ≡ Some id → (x y : Reaping) (old new : LocalState) → RunsTo arenas (reap_arena_plan chain x) old new (Ok y) → ReapKeeps old new × (0 < y.left → (0 < x.left) × ArenaReaped arenas id new)
  arena_reaped [] id is first x y old new path = absurd (let e : None ≡ Some id = first in cc)
  arena_reaped (l ∷ up) id is first x y old new path =
      let here : l.id ≡ id = (let e : Some l.id ≡ Some id = first in cc) in
      let walk = caches_walk arenas ReapKeeps reap_same reap_then (λ s. Unit {0}) (λ s t keeps u. tt) (λ (r : Reaping). 0 < r.left) (reap_cache (l ∷ up) l.id)
      (λ c s. (j : ℕ) → c ≡ j + 1 → NoneToReapAt s.spaces l.id j) (λ c s t keeps done j number. keeps.none l.id j (done j number))
      (λ c a b s t inv run. cache_reaped arenas (l ∷ up) l.id c a b s t run)
      (caches_in l) (caches_in l) (omega arith) x y old new tt path in (
        walk.0,
        λ some.
            let all = walk.1 some in (
              all.0,
              λ z at j within.
                  let count = all_caches arenas tree l up is z (ap (slice_get arenas) here ∙ at) in
                  subst (λ k. NoneToReapAt new.spaces k j) here (all.1 (j + 1) (omega arith) (omega (arith, within, count)) j refl),
            ),
      )

  all_reaped : (limit : ℕ) (y : Reaping) (old new : LocalState) → RunsTo arenas (reap_plan arenas limit) old new (Ok y) → ReapKeeps old new × (0 < y.left → (id : ℕ) → id < length arenas → ArenaReaped arenas id new)
  all_reaped limit y old new path =
      let walk = arenas_walk arenas ReapKeeps reap_same reap_then (λ s. Unit {0}) (λ s t keeps u. tt) (λ (r : Reaping). 0 < r.left) (λ id. reap_arena_plan (chain_in arenas id))
      (ArenaReaped arenas) (λ id s t keeps done z at j within. keeps.none id j (done z at j within)) (length arenas)
      (λ id a b s t less inv run. let chain = tree_chain arenas tree id less in arena_reaped (chain_in arenas id) id chain.0 chain.1 a b s t run)
      (record { left = limit; units = 0 }) y old new tt path in
      (walk.0, λ some. (walk.1 some).1)

-- so all that stand in the stock are, where the stock is the tree's
pub all_of_arena : (arenas : List TreeArena) (s : LocalState) → plans_of s.spaces ≡ plans_for arenas → (k : ℕ) → ArenaReaped arenas k s → NoneToReapIn s.spaces k
all_of_arena arenas s plans k done j c there =
    let x = planned arenas s.spaces s.spaces plans k there.space there.at in
    let count : length there.space.caches ≡ x.0.qcache_max / x.0.quantum = sym (length-map there.space.caches slab_size_of) ∙ (ap (λ (p : SpacePlan). length p.slab_sizes) x.2 ∙ length-replicate (x.0.qcache_max / x.0.quantum) x.0.slab_size) in
    done x.0 x.1 j (omega (arith, slice_get_within there.space.caches j c there.among, count)) c there

pub reap_leaves_nothing : ReapLeavesNothing
reap_leaves_nothing arenas limit old new r local path some k j c there =
    let done = all_reaped arenas local.tree limit r old new path in
    let x = planned arenas new.spaces new.spaces (done.0.plans ∙ local.plans) k there.space there.at in
    all_of_arena arenas new (done.0.plans ∙ local.plans) k (done.1 some k (slice_get_within arenas k x.0 x.1)) j c there
