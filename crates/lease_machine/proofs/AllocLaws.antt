-- What becomes of a request that no cache serves.
-- what a list of steps gives, where each answer is sound
use Rattle.arena_tree.specs.Chains.{IsChain, Node, amount_of, quantum_in}
use Rattle.arena_tree.specs.Climbs.{ClimbEnd, climb_left, climb_plan, on_carve}
use Rattle.arena_tree.specs.Plans.{Ask, Done, Gives, Path, Plan}
use Rattle.arena_tree.specs.Trees.{IsTree, level_of, node_of, nodes_of}
use Rattle.arena_tree.specs.declared.levels.Level.{Level}
use Rattle.arena_tree.specs.declared.part_faults.PartFault.{PartFault}
use Rattle.tag_arena.specs.declared.faults.ArenaFault.{ArenaFault}
use Rattle.arena_tree.specs.declared.part_faults.PartFault.TheVariants as asking
use Rattle.tag_arena.specs.declared.faults.ArenaFault.TheVariants as carving
use Rattle.arena_tree.specs.declared.trees.TreeArena.{TreeArena}
use Rattle.deed_core.proofs.LawProofs.{plain_is_good, plain_is_of_its_size, slice_get_mapped}
use Rattle.deed_core.specs.Request.{Fits, IsGood, IsPlain, plain_of, rounding_of}
use Rattle.deed_core.specs.Tag.{Tag}
use Rattle.deed_core.specs.declared.requests.Request.{Request}
use Rattle.lease_machine.proofs.CachedSizes.{cached_by_number}
use Rattle.lease_machine.proofs.ClimbSteps.{Carvings, Climbings, climb_cpu, climb_ends, climbs_has, does_carve}
use Rattle.lease_machine.proofs.Focus.{there}
use Rattle.lease_machine.proofs.FreeLaws.{cpus_same, parts_are}
use Rattle.lease_machine.proofs.HeldLaws.{accounted_here, hands_of, local, others, reach, there_is}
use Rattle.lease_machine.proofs.XallocLaws.{held_same, picture_same}
use Rattle.lease_machine.specs.CallLaws.{AllocClimbs, IsClimbedFor}
use Rattle.lease_machine.specs.Held.{with_parts}
use Rattle.lease_machine.specs.Picture.{NumberedCpu, Picture, is_cpu, IsHeld}
use Rattle.lease_machine.specs.Serving.{IsCachedIn}
use Rattle.local_calls.proofs.LawProofs.{alloc_never_stuck, tree_chain}
use Rattle.local_calls.specs.Laws.{AllocsWell}
use Rattle.local_calls.specs.Runs.{RunsTo, SoundStep}
use Rattle.local_parts.specs.States.{LocalState}
use Rattle.quantum_cache.proofs.LawProofs.{alloc_bad, alloc_gives, alloc_handles}
use Rattle.quantum_cache.specs.Allocs.{alloc_steps, alloc_plan}
use Rattle.quantum_cache.specs.Caches.{chain_in, rest_of_chain, chain_up}
use Rattle.quantum_cache.specs.Served.{AsksForNone, IsServed, IsServedOf}
use Rattle.quantum_cache.specs.Sizes.{cache_for}
use Rattle.std.proofs.Common.{Err, List, None, Ok, Option, Result, Some, [], ap, arith, find, inl, inr, length, refl, slice_get, subst, suc, sym, zero, ℕ, ◌*◌, ◌+◌, ◌<◌, ◌∙◌, ◌∷◌, ◌≡◌}
use Rattle.std.proofs.lemmas.Bool.{cases_lt}
use Rattle.std.proofs.lemmas.Option.{slice_get_within}
use Rattle.std.specs.Prelude.{IfOk, MatchOption}
use Rattle.stock.specs.Spaces.{SpaceState}
use Rattle.stock.specs.Steps.{OnArena}
use Rattle.stock.specs.Stocks.{IsStock}
use Rattle.tag_arena.specs.Outcomes.{CarveOf}
use Rattle.arena_tree.specs.declared.part_faults.ClimbFault.TheVariants as climbing

pub gives_so : {A : Type 0} (nodes : List Node) (post : A → Type 0) (p : Plan A) → Gives nodes post p → (old new : LocalState) (a : A) → Path (SoundStep nodes) p old new a → post a
gives_so nodes post (Done b) gives old new a path = subst post path.1 gives
gives_so nodes post (Ask e f) gives old new a path = gives_so nodes post (f path.1) (gives path.1 path.2.sound) path.0 new a path.3

-- the chain of an arena begins with it
pub chain_begins : (tree : List TreeArena) (index : ℕ) (x : TreeArena) → slice_get tree index ≡ Some x → chain_in tree index ≡ level_of index x ∷ chain_up 3 tree x.source
chain_begins tree index x here = ap (λ o. rest_of_chain (λ p. chain_up 3 tree p) index o) here

node_quantum : (nodes : List Node) (k : ℕ) (n : Node) → slice_get nodes k ≡ Some n → quantum_in nodes k ≡ n.quantum
node_quantum [] k n at = absurd (let e : None ≡ Some n = at in cc)
node_quantum (m ∷ nodes) zero n at = (let e : Some m ≡ Some n = at in let same : m ≡ n = cc in ap (λ (z : Node). z.quantum) same)
node_quantum (m ∷ nodes) (suc k) n at = node_quantum nodes k n at

pub quantum_of_index : (tree : List TreeArena) (index : ℕ) (x : TreeArena) → slice_get tree index ≡ Some x → quantum_in (nodes_of tree) index ≡ x.quantum
quantum_of_index tree index x here = node_quantum (nodes_of tree) index (node_of x) (slice_get_mapped node_of tree index x here)

-- no units are asked for: the first carve says so
pub none_asked : (arenas : List TreeArena) (l : Level) (up : List Level) (old new : LocalState) (a : ClimbEnd) → IsStock old.spaces → RunsTo arenas (climb_plan (l ∷ up) 0) old new a → a ≡ Err (climbing.Refused carving.BadRequest)
none_asked arenas l up old new a law path = by path.1 (does_carve old.spaces path.0.spaces l.id (plain_of 0) law path.1 path.2.step.does.0) path.2.step.does.0.2 path.3
  where
    zero_bad : (y : SpaceState) → IsGood y.arena.quantum (plain_of 0) → ⊥
    zero_bad y good = omega (arith, good.size)

    by : (x : Result Tag (PartFault ArenaFault)) → Carvings old.spaces path.0.spaces l.id (plain_of 0) law x → OnArena l.id (λ y z. CarveOf y (plain_of 0) path.2.step.does.0.0 z) old.spaces path.0.spaces → RunsTo arenas (on_carve (climb_plan up (amount_of l up 0)) up l.id 0 x) path.0 new a → a ≡ Err (climbing.Refused carving.BadRequest)
    by (Ok t) on there rest = absurd (zero_bad on.space on.does.good)
    by (Err (asking.Refused carving.BadRequest)) on there rest = sym rest.1
    by (Err (asking.Refused carving.NoFit)) on there rest = absurd (zero_bad there.space (on.0 there.space there.at))
    by (Err (asking.Refused carving.NoMemory)) on there rest = absurd (zero_bad there.space (on.0 there.space there.at))
    by (Err asking.Stopped) on there rest = absurd on

-- no cache serves it
pub no_cache : (tree : List TreeArena) (index : ℕ) (x : TreeArena) (q : Request) → IsTree tree → slice_get tree index ≡ Some x → IsPlain q → ¬ IsCachedIn x q → cache_for (level_of index x) q.size ≡ None
no_cache tree index x q is here plain uncached = elim (cases_lt 0 q.size) [
  | inl some ↦ by (cache_for (level_of index x) q.size) (cached_by_number tree index x q is here plain some)
  | inr none ↦ (let zero : q.size ≡ 0 = omega (arith, none) in ap (cache_for (level_of index x)) zero)
]
  where
    by : (o : Option ℕ) → MatchOption o (¬ IsCachedIn x q) (λ number. IsCachedIn x q × ((cache : ℕ) × (number ≡ cache + 1) × (rounding_of x.quantum q.size ≡ (cache + 1) * x.quantum))) → o ≡ None
    by None is = refl
    by (Some k) is = absurd (uncached is.0)

module _ (d : Picture) (index : ℕ) (x : TreeArena) (q : Request) (s : LocalState) (held : IsHeld [] d) (here : slice_get d.tree index ≡ Some x) (c : NumberedCpu) (found : find (is_cpu d.selected) d.cpus ≡ Some c) (plain : IsPlain q) (a : ClimbEnd) (run : RunsTo d.tree (alloc_plan (chain_in d.tree index) q.size) (reach d d.selected c found None held) s a) where
  abbrev pub was : LocalState
  was = reach d d.selected c found None held

  abbrev pub chain : List Level
  chain = chain_in d.tree index

  abbrev pub level : Level
  level = level_of index x

  abbrev pub above : List Level
  above = chain_up 3 d.tree x.source

  within_tree_here : index < length d.tree
  within_tree_here = slice_get_within d.tree index x here

  pub is_chain : IsChain (nodes_of d.tree) chain
  is_chain = (tree_chain d.tree held.tree index within_tree_here).0

  pub ends_well : AllocsWell a
  ends_well = alloc_never_stuck d.tree chain q.size was s (others d d.selected c found None held []) a is_chain (local d d.selected c found None held) (accounted_here d d.selected c found None held) run

  pub served : IfOk a (IsServed (nodes_of d.tree) (level ∷ above) q.size)
  served = subst (λ z. IfOk a (IsServed (nodes_of d.tree) z q.size)) (chain_begins d.tree index x here) (gives_so (nodes_of d.tree) (λ (r : ClimbEnd). IfOk r (IsServed (nodes_of d.tree) chain q.size)) (alloc_plan chain q.size) (alloc_gives (nodes_of d.tree) chain q.size is_chain) was s a run)

  pub asks_none : a ≡ Err (climbing.Refused carving.BadRequest) → AsksForNone (level ∷ above) q.size
  asks_none bad = subst (λ z. AsksForNone z q.size) (chain_begins d.tree index x here) (gives_so (nodes_of d.tree) (λ (r : ClimbEnd). r ≡ Err (climbing.Refused carving.BadRequest) → AsksForNone chain q.size) (alloc_plan chain q.size) (alloc_bad (nodes_of d.tree) chain q.size is_chain) was s a run bad)

  pub good_plain : 0 < q.size → IsGood x.quantum q
  good_plain some = subst (IsGood x.quantum) (sym ((plain_is_of_its_size q).0 plain)) (plain_is_good x.quantum q.size some)

  module _ (uncached : ¬ IsCachedIn x q) where
    climb : RunsTo d.tree (climb_plan (level ∷ above) q.size) was s a
    climb =
        let from : RunsTo d.tree (alloc_steps (cache_for level q.size) (level ∷ above) level q.size) was s a = subst (λ z. RunsTo d.tree (alloc_plan z q.size) was s a) (chain_begins d.tree index x here) run in
        subst (λ o. RunsTo d.tree (alloc_steps o (level ∷ above) level q.size) was s a) (no_cache d.tree index x q held.tree here plain uncached) from

    cpu_same : s.cpu ≡ c.caches
    cpu_same = climb_cpu d.tree (level ∷ above) q.size was s a climb

    climbings : Climbings chain q.size a d.spaces s.spaces
    climbings = subst (λ z. Climbings z q.size a d.spaces s.spaces) (sym (chain_begins d.tree index x here)) (climb_ends d.tree (level ∷ above) q.size was s a held.units.parts climb)

    some_or_bad : (b : ClimbEnd) → a ≡ b → (b ≡ Err (climbing.Refused carving.BadRequest) → ⊥) → 0 < q.size
    some_or_bad b is fine = elim (cases_lt 0 q.size) [
      | inl some ↦ some
      | inr none ↦
          let zero : q.size ≡ 0 = omega (arith, none) in
          absurd (fine (sym is ∙ none_asked d.tree level above was s a held.units.parts (subst (λ n. RunsTo d.tree (climb_plan (level ∷ above) n) was s a) zero climb)))
    ]

    by : (b : ClimbEnd) → a ≡ b → Climbings chain q.size b d.spaces s.spaces → IsClimbedFor index x q d b (with_parts s d)
    by (Ok t) is on =
        let after = held_same climb_left (alloc_plan chain q.size) d d.selected c found None held (alloc_handles chain q.size) s a run cpu_same in
        let given : IsServedOf (nodes_of d.tree) level q.size t = subst (λ z. IfOk z (IsServed (nodes_of d.tree) (level ∷ above) q.size)) is served in
        let fits : Fits x.quantum q t.holding.range.base t.holding.range.len = subst (λ z. Fits x.quantum z t.holding.range.base t.holding.range.len) (sym ((plain_is_of_its_size q).0 plain)) (subst (λ n. Fits n (plain_of q.size) t.holding.range.base t.holding.range.len) (quantum_of_index d.tree index x here) given.fits) in (
          good_plain (some_or_bad (Ok t) is (λ e. (let y : Ok t ≡ Err (climbing.Refused carving.BadRequest) = e in cc))),
          inr (inl (plain, climbs_has chain q.size t d.spaces s.spaces held.units.parts on)),
          record {
            arena = given.of_arena;
            fits = fits;
            from = inr (inl (plain, uncached, on, cpus_same d c found held.cpus.numbers s cpu_same));
            names = (refl, refl);
          },
          subst (λ z. IsHeld (hands_of (climb_left z)) (with_parts s d)) is after.0,
          after.1,
        )
    by (Err (climbing.Refused carving.BadRequest)) is on = (
      (λ good. elim (asks_none is) [
        | inl asked ↦ omega (arith, asked, good.size)
        | inr cached ↦ (let e : Some cached.1.0 ≡ None = sym cached.1.1 ∙ no_cache d.tree index x q held.tree here plain uncached in cc)
      ]),
      picture_same d index x q s held here c found on cpu_same,
    )
    by (Err (climbing.Refused carving.NoFit)) is on = (
      good_plain (some_or_bad (Err (climbing.Refused carving.NoFit)) is (λ e. (let y : Err (climbing.Refused carving.NoFit) ≡ Err (climbing.Refused carving.BadRequest) = e in cc))),
      record {
        none = λ can. elim can [
          | inl cached ↦ uncached cached.0
          | inr more ↦ elim more [
            | inl has ↦ on.0 has.1
            | inr other ↦ other.0 plain
          ]
        ];
        spaces = on.1;
        cpus = inl (cpus_same d c found held.cpus.numbers s cpu_same);
        names = (refl, refl);
      },
      picture_same d index x q s held here c found on.1 cpu_same,
    )
    by (Err (climbing.Refused carving.NoMemory)) is on =
        let after = held_same climb_left (alloc_plan chain q.size) d d.selected c found None held (alloc_handles chain q.size) s a run cpu_same in (
          good_plain (some_or_bad (Err (climbing.Refused carving.NoMemory)) is (λ e. (let y : Err (climbing.Refused carving.NoMemory) ≡ Err (climbing.Refused carving.BadRequest) = e in cc))),
          inr (inl (plain, on.0)),
          inr (inl (plain, uncached, on.1, cpus_same d c found held.cpus.numbers s cpu_same)),
          subst (λ z. IsHeld (hands_of (climb_left z)) (with_parts s d)) is after.0,
          after.1,
        )
    by (Err (climbing.Stuck t)) is on = subst AllocsWell is ends_well
    by (Err (climbing.Stopped o)) is on = subst AllocsWell is ends_well

    pub climbed_for : IsClimbedFor index x q d a (with_parts s d)
    climbed_for = by a refl climbings

pub alloc_climbs : AllocClimbs
alloc_climbs d index x q s a held here plain uncached run =
    let c = there_is (find (is_cpu d.selected) d.cpus) held.cpus.there in
    climbed_for d index x q s held here c.0 c.1 plain a (subst (λ (z : LocalState). RunsTo d.tree (alloc_plan (chain_in d.tree index) q.size) z s a) (parts_are d c.0 c.1) run) uncached
