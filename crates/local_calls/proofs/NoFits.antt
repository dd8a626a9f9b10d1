-- An allocation that ends with NoFit has found nothing that serves.
use Rattle.std.proofs.Common.{◌≡◌, ◌≢◌, ℕ, ◌+◌, List, [], ◌∷◌, ◌++◌, Option, Some, None, Result, Ok, Err, set, inl, inr, sym, ap, subst, ◌∙◌}
use Rattle.std.specs.Prelude.{slice_get}
use Rattle.deed_core.specs.Tag.{Tag}
use Rattle.deed_core.proofs.LawProofs.{set_same}
use Rattle.magazine_layer.specs.Calls.{SwapFullOf}
use Rattle.magazine_layer.specs.Depots.{DepotState}
use Rattle.magazine_layer.specs.Magazines.{CpuCacheState}
use Rattle.magazine_layer.specs.declared.faults.FullFault.{FullFault}
use Rattle.magazine_layer.specs.declared.faults.FullFault.TheVariants as full_fault
use Rattle.arena_tree.specs.declared.levels.Level.{Level}
use Rattle.arena_tree.specs.declared.trees.TreeArena.{TreeArena}
use Rattle.arena_tree.specs.declared.part_faults.PartFault.{PartFault}
use Rattle.arena_tree.specs.declared.part_faults.GivenFault.{GivenFault}
use Rattle.arena_tree.specs.declared.part_faults.ChangeFault.{ChangeFault}
use Rattle.tag_arena.specs.declared.faults.ArenaFault.{ArenaFault}
use Rattle.slab_layer.specs.declared.faults.AddFault.{AddFault}
use Rattle.arena_tree.specs.declared.part_faults.PartFault.TheVariants as asking
use Rattle.arena_tree.specs.declared.part_faults.GivenFault.TheVariants as giving
use Rattle.tag_arena.specs.declared.faults.ArenaFault.TheVariants as carving
use Rattle.slab_layer.specs.declared.faults.AddFault.TheVariants as slabbing
use Rattle.arena_tree.specs.declared.part_faults.ClimbFault.TheVariants as climbing
use Rattle.arena_tree.specs.declared.part_faults.Stopped.{Stopped}
use Rattle.arena_tree.specs.Climbs.{ClimbEnd, return_plan, memory_refusal, climb_plan}
use Rattle.arena_tree.specs.Events.{Pop, SwapFull, SlabTake}
use Rattle.arena_tree.specs.Plans.{Plan, Done, then, or_else}
use Rattle.arena_tree.specs.Trees.{nodes_of}
use Rattle.arena_tree.proofs.LawProofs.{path_split}
use Rattle.stock.specs.OwnCaches.{OwnCacheState}
use Rattle.stock.specs.Spaces.{QuantumCacheState, IsCacheAt, with_cache, with_depot}
use Rattle.stock.specs.Stocks.{IsStock}
use Rattle.quantum_cache.specs.Allocs.{Stage, on_take, take_round, on_change_over, change_over, on_swap_full, take_from_depot, take_chunk, on_slab_add, make_slab, on_slab_climb, take_from_slab, alloc_cached, alloc_steps}
use Rattle.quantum_cache.specs.Sizes.{cache_for}
use Rattle.local_parts.specs.Cpus.{IsOwnAt, cpu_rounds}
use Rattle.local_parts.specs.OwnSteps.{OnExchange, SwapsFull, DoesSwapFull}
use Rattle.local_parts.specs.SharedSteps.{DoesCarve}
use Rattle.local_parts.specs.States.{LocalState, IsReached, IsUnchanged}
use Rattle.arena_tree.specs.Tags.{wording_of}
use Rattle.local_calls.specs.Laws.{NoFitIsRight, XallocNoFitIsRight}
use Rattle.local_calls.specs.NoFits.{HasBaseUp, CanTakeNone, NoneInCacheBy}
use Rattle.local_calls.specs.Runs.{SoundStep, RunsTo}
use Rattle.local_calls.proofs.CarvesNone.{carve_none, given_back, climb_none}
use Rattle.local_calls.proofs.Idle.{none_idle}
use Rattle.local_calls.proofs.StagesNone.{HasNoRoundOf, HasNoFullOf, HasNoChunkOf, own_is, own_same, one_index, cache_one, popped_none, taken_none, changed_over, swapped_some}

-- where no stage gave one, there is none to take
none_to_take : (s : LocalState) (k c : ℕ) → HasNoRoundOf s k c → HasNoFullOf s k c → HasNoChunkOf s.spaces k c → CanTakeNone s k c
none_to_take s k c rounds full idle j o q number reached at can = elim can [
  | inl some ↦ some (ap (λ ts. ts ++ o.cpu.loaded) (rounds j o number reached).previous_empty ∙ (rounds j o number reached).loaded_empty)
  | inr more ↦ elim more [
    | inl one ↦ one.1 (full j o q number reached at one.0)
    | inr one ↦ one (none_idle q.slab (idle j q number at))
  ]
]

-- a stage that gives nothing
module _ (arenas : List TreeArena) (k c : ℕ) where
  pub round_none : (old new : LocalState) → RunsTo arenas (take_round k c) old new None → IsUnchanged old new × HasNoRoundOf old k c
  unfolding take_round
  round_none old new path = popped path.1 path.2 path.3
    where
      popped : (x : Result (Option Tag) Stopped) → SoundStep (nodes_of arenas) old (Pop k c) x path.0 → (path.0 ≡ new) × (on_take x ≡ None) → IsUnchanged old new × HasNoRoundOf old k c
      popped (Ok None) step end = subst (λ (s : LocalState). IsUnchanged old s × HasNoRoundOf old k c) end.0 (popped_none old path.0 k c step.step.does)
      popped (Ok (Some t)) step end = absurd (let e : Some (Ok t) ≡ None = end.1 in cc)
      popped (Err s) step end = absurd (let e : Some (Err (climbing.Stopped None)) ≡ None = end.1 in cc)

  pub chunk_none : (old new : LocalState) → RunsTo arenas (take_chunk k c) old new None → IsUnchanged old new × HasNoChunkOf old.spaces k c
  unfolding take_chunk
  chunk_none old new path = taken path.1 path.2 path.3
    where
      taken : (x : Result (Option Tag) Stopped) → SoundStep (nodes_of arenas) old (SlabTake k c) x path.0 → (path.0 ≡ new) × (on_take x ≡ None) → IsUnchanged old new × HasNoChunkOf old.spaces k c
      taken (Ok None) step end =
          let t = taken_none old path.0 k c step.step.does.0 in
          subst (λ (s : LocalState). IsUnchanged old s × HasNoChunkOf old.spaces k c) end.0 (record { spaces = t.0; cpu = step.step.does.1 }, t.1)
      taken (Ok (Some t)) step end = absurd (let e : Some (Ok t) ≡ None = end.1 in cc)
      taken (Err s) step end = absurd (let e : Some (Err (climbing.Stopped None)) ≡ None = end.1 in cc)

  -- an exchange that was refused
  module _ (old new : LocalState) where
    refused_same : (a : Result (Unit {0}) (PartFault FullFault)) (on : OnExchange old k c (SwapsFull a) new) → on.3.changed.cpu ≡ on.3.own.cpu → on.3.does.1.depot ≡ on.3.does.1.cache.depot → IsUnchanged old new
    refused_same a on cpu depot =
        let d = on.3.does.1 in
        let cache : with_cache on.0 (with_depot d.depot d.cache) d.space ≡ d.space =
        ap (λ x. with_cache on.0 (with_depot x d.cache) d.space) depot ∙ ap (λ cs. record { arena = d.space.arena; source = d.space.source; caches = cs }) (set_same d.space.caches on.0 d.cache d.among) in
        record {
          spaces = d.after ∙ ap (set old.spaces k) cache ∙ set_same old.spaces k d.space d.at;
          cpu = own_same k on.0 _ old.cpu new.cpu on.3 on.3.does.0 cpu;
        }

    -- what a refusal says is said of the CPU's cache and the depot that stand there
    exchange_is : (a : Result (Unit {0}) (PartFault FullFault)) (on : OnExchange old k c (SwapsFull a) new) (P : CpuCacheState → DepotState → Type 0) → P on.3.own.cpu on.3.does.1.cache.depot
        → (j : ℕ) (o : OwnCacheState) (q : QuantumCacheState) → c ≡ j + 1 → IsReached old k j o → IsCacheAt old.spaces k j q → P o.cpu q.depot
    exchange_is a on P is j o q number reached there =
        let here : on.0 ≡ j = one_index c on.0 j on.1 number in
        let own : on.3.own ≡ o = own_is k on.0 _ old.cpu new.cpu on.3 o (subst (λ i. IsOwnAt old.cpu k i o) (sym here) reached.own) in
        let d = on.3.does.1 in
        let cache : d.cache ≡ q = cache_one old.spaces k j d.space d.cache q d.at (ap (slice_get d.space.caches) (sym here) ∙ d.among) there in
        subst (λ (x : OwnCacheState). P x.cpu q.depot) own (subst (λ (x : QuantumCacheState). P on.3.own.cpu x.depot) cache is)

    old_size : (size : ℕ) → DoesSwapFull old k c (Err (asking.Refused (full_fault.OldSize size))) new → IsUnchanged old new × HasNoFullOf old k c
    old_size size does = elim does [
      | inl on ↦ words on on.3.does.1.does.r on.3.does.1.does.told on.3.does.1.does.did
      | inr none ↦ absurd (let e : Err (asking.Refused (full_fault.OldSize size)) ≡ Err (asking.Refused full_fault.NoneFull) = none.0 in cc)
    ]
      where
        words : (on : OnExchange old k c (SwapsFull (Err (asking.Refused (full_fault.OldSize size)))) new) (r : Result (Unit {0}) FullFault) → Err (asking.Refused (full_fault.OldSize size)) ≡ wording_of asking.Refused r → SwapFullOf on.3.own.cpu on.3.does.1.cache.depot r on.3.changed.cpu on.3.does.1.depot → IsUnchanged old new × HasNoFullOf old k c
        words on (Ok u) e did = absurd (let x : Err (asking.Refused (full_fault.OldSize size)) ≡ Ok u = e in cc)
        words on (Err full_fault.NoneFull) e did = absurd (let x : Err (asking.Refused (full_fault.OldSize size)) ≡ Err (asking.Refused full_fault.NoneFull) = e in cc)
        words on (Err (full_fault.OldSize m)) e did =
            (refused_same (Err (asking.Refused (full_fault.OldSize size))) on did.2 did.3, λ j o q number reached there same. absurd (exchange_is (Err (asking.Refused (full_fault.OldSize size))) on (λ x d. x.size ≢ d.size) did.0 j o q number reached there same))

    none_full : HasNoRoundOf old k c → DoesSwapFull old k c (Err (asking.Refused full_fault.NoneFull)) new → IsUnchanged old new × HasNoFullOf old k c
    none_full empty does = elim does [
      | inl on ↦ words on on.3.does.1.does.r on.3.does.1.does.told on.3.does.1.does.did
      | inr none ↦ (none.2, λ j o q number reached there same. absurd (none.1 j o number reached (empty j o number reached)))
    ]
      where
        words : (on : OnExchange old k c (SwapsFull (Err (asking.Refused full_fault.NoneFull))) new) (r : Result (Unit {0}) FullFault) → Err (asking.Refused full_fault.NoneFull) ≡ wording_of asking.Refused r → SwapFullOf on.3.own.cpu on.3.does.1.cache.depot r on.3.changed.cpu on.3.does.1.depot → IsUnchanged old new × HasNoFullOf old k c
        words on (Ok u) e did = absurd (let x : Err (asking.Refused full_fault.NoneFull) ≡ Ok u = e in cc)
        words on (Err (full_fault.OldSize m)) e did = absurd (let x : Err (asking.Refused full_fault.NoneFull) ≡ Err (asking.Refused (full_fault.OldSize m)) = e in cc)
        words on (Err full_fault.NoneFull) e did =
            (refused_same (Err (asking.Refused full_fault.NoneFull)) on did.2 did.3, λ j o q number reached there same. exchange_is (Err (asking.Refused full_fault.NoneFull)) on (λ x d. d.full ≡ []) did.1 j o q number reached there)

  -- the stock is as before, and the CPU has the same rounds
  abbrev pub Stays : LocalState → LocalState → Type 0
  Stays old new = (new.spaces ≡ old.spaces) × (cpu_rounds new.cpu ≡ cpu_rounds old.cpu)

  stays : (old new : LocalState) → IsUnchanged old new → Stays old new
  stays old new u = (u.spaces, ap cpu_rounds u.cpu)

  over_none : (size : ℕ) (old new : LocalState) (r : Stage) → RunsTo arenas (change_over k c size) old new r → Stays old new
  unfolding change_over
  over_none size old new r path = subst (λ (s : LocalState). Stays old s) path.3.0 (changed_over old path.0 k c size path.1 path.2.step.does)

  swapped_again : (old mid new : LocalState) → IsStock old.spaces → SoundStep (nodes_of arenas) old (SwapFull k c) (Ok tt) mid → RunsTo arenas (take_round k c) mid new None → ⊥
  unfolding take_round
  swapped_again old mid new law step rest = popped rest.1 rest.2 rest.3
    where
      popped : (x : Result (Option Tag) Stopped) → SoundStep (nodes_of arenas) mid (Pop k c) x rest.0 → (rest.0 ≡ new) × (on_take x ≡ None) → ⊥
      popped (Ok None) pop end = elim step.step.does [
        | inl on ↦ swapped_some old mid k c law step.step.setup.plans on rest.0 pop.step.does
        | inr none ↦ let e : Ok tt ≡ Err (asking.Refused full_fault.NoneFull) = none.0 in cc
      ]
      popped (Ok (Some t)) pop end = let e : Some (Ok t) ≡ None = end.1 in cc
      popped (Err s) pop end = let e : Some (Err (climbing.Stopped None)) ≡ None = end.1 in cc

  pub depot_none : (old new : LocalState) → IsStock old.spaces → HasNoRoundOf old k c → RunsTo arenas (take_from_depot k c) old new None → Stays old new × HasNoFullOf old k c
  unfolding take_from_depot
  depot_none old new law empty path = swapped path.1 path.2 path.3
    where
      mid : LocalState
      mid = path.0

      swapped : (x : Result (Unit {0}) (PartFault FullFault)) → SoundStep (nodes_of arenas) old (SwapFull k c) x mid → RunsTo arenas (on_swap_full k c x) mid new None → Stays old new × HasNoFullOf old k c
      swapped (Ok u) step rest = absurd (swapped_again old mid new law step rest)
      swapped (Err (asking.Refused (full_fault.OldSize size))) step rest =
          let same = old_size old mid size step.step.does in
          let over = over_none size mid new None rest in
          ((over.0 ∙ same.0.spaces, over.1 ∙ ap cpu_rounds same.0.cpu), same.1)
      swapped (Err (asking.Refused full_fault.NoneFull)) step rest =
          let same = none_full old mid empty step.step.does in
          (subst (λ (s : LocalState). Stays old s) rest.0 (stays old mid same.0), same.1)
      swapped (Err asking.Stopped) step rest = absurd (let e : Some (Err (climbing.Stopped None)) ≡ None = rest.1 in cc)

-- no slab could be carved
module _ (arenas : List TreeArena) (l : Level) (up : List Level) where
  slab_none : (c : ℕ) (old new : LocalState) → RunsTo arenas (take_from_slab (l ∷ up) l c) old new None → IsUnchanged old new × (¬ HasBaseUp old.spaces (l ∷ up) l.slab_size)
  unfolding take_from_slab
  slab_none c old new path =
      let split = path_split (SoundStep (nodes_of arenas)) (climb_plan (l ∷ up) l.slab_size) (on_slab_climb (l ∷ up) l.id c) old new None path in
      climbed split.0 split.1 split.2 split.3
    where
      ended : (m : LocalState) → RunsTo arenas (climb_plan (l ∷ up) l.slab_size) old m (Err (climbing.Refused carving.NoFit)) → m ≡ new → IsUnchanged old new × (¬ HasBaseUp old.spaces (l ∷ up) l.slab_size)
      ended m first same =
          let none = climb_none arenas (l ∷ up) l.slab_size old m first in
          (subst (IsUnchanged old) same none.1, none.0)

      climbed : (m : LocalState) (r : ClimbEnd) → RunsTo arenas (climb_plan (l ∷ up) l.slab_size) old m r → RunsTo arenas (on_slab_climb (l ∷ up) l.id c r) m new None → IsUnchanged old new × (¬ HasBaseUp old.spaces (l ∷ up) l.slab_size)
      climbed m (Ok span) first rest =
          let split = path_split (SoundStep (nodes_of arenas)) (make_slab (l ∷ up) l.id c span) (λ r. Done (Some r)) m new None rest in
          absurd (let e : Some split.1 ≡ None = split.3.1 in cc)
      climbed m (Err (climbing.Refused carving.NoFit)) first rest = ended m first rest.0
      climbed m (Err (climbing.Refused carving.BadRequest)) first rest = absurd (let e : Some (Err (climbing.Refused carving.BadRequest)) ≡ None = rest.1 in cc)
      climbed m (Err (climbing.Refused carving.NoMemory)) first rest = absurd (let e : Some (Err (climbing.Refused carving.NoMemory)) ≡ None = rest.1 in cc)
      climbed m (Err (climbing.Stuck t)) first rest = absurd (let e : Some (Err (climbing.Stuck t)) ≡ None = rest.1 in cc)
      climbed m (Err (climbing.Stopped o)) first rest = absurd (let e : Some (Err (climbing.Stopped o)) ≡ None = rest.1 in cc)

-- a stage that ends the allocation ends it otherwise
abbrev no_fit : Stage
no_fit = Some (Err (climbing.Refused carving.NoFit))

not_taken : (x : Result (Option Tag) Stopped) → on_take x ≡ no_fit → ⊥
not_taken (Ok None) e = let y : None ≡ no_fit = e in cc
not_taken (Ok (Some t)) e = let y : Some (Ok t) ≡ no_fit = e in cc
not_taken (Err s) e = let y : Some (Err (climbing.Stopped None)) ≡ no_fit = e in cc

not_over : (x : Result (Unit {0}) (PartFault ChangeFault)) → on_change_over x ≡ no_fit → ⊥
not_over (Ok u) e = let y : None ≡ no_fit = e in cc
not_over (Err (asking.Refused f)) e = let y : None ≡ no_fit = e in cc
not_over (Err asking.Stopped) e = let y : Some (Err (climbing.Stopped None)) ≡ no_fit = e in cc

module _ (arenas : List TreeArena) (old new : LocalState) where
  round_ends : (k c : ℕ) → RunsTo arenas (take_round k c) old new no_fit → ⊥
  unfolding take_round
  round_ends k c path = not_taken path.1 path.3.1

  chunk_ends : (k c : ℕ) → RunsTo arenas (take_chunk k c) old new no_fit → ⊥
  unfolding take_chunk
  chunk_ends k c path = not_taken path.1 path.3.1

  over_ends : (k c size : ℕ) → RunsTo arenas (change_over k c size) old new no_fit → ⊥
  unfolding change_over
  over_ends k c size path = not_over path.1 path.3.1

  slab_added : (chain : List Level) (x : Result Tag (GivenFault (AddFault Tag) Tag)) → RunsTo arenas (on_slab_add chain x) old new (Err (climbing.Refused carving.NoFit)) → ⊥
  slab_added chain (Ok t) path = let x : Ok t ≡ Err (climbing.Refused carving.NoFit) = path.1 in cc
  slab_added chain (Err (giving.Refused (slabbing.NoMemory t))) path =
      let split = path_split (SoundStep (nodes_of arenas)) (return_plan chain t) (λ r. Done (memory_refusal r)) old new (Err (climbing.Refused carving.NoFit)) path in
      given_back arenas split.1 split.3.1
  slab_added chain (Err (giving.Refused (slabbing.WrongSize t))) path = let x : Err (climbing.Stuck t) ≡ Err (climbing.Refused carving.NoFit) = path.1 in cc
  slab_added chain (Err (giving.Refused (slabbing.Overlaps t))) path = let x : Err (climbing.Stuck t) ≡ Err (climbing.Refused carving.NoFit) = path.1 in cc
  slab_added chain (Err (giving.Stopped t)) path = let x : Err (climbing.Stopped (Some t)) ≡ Err (climbing.Refused carving.NoFit) = path.1 in cc

module _ (arenas : List TreeArena) where
  depot_ends : (k c : ℕ) (old new : LocalState) → RunsTo arenas (take_from_depot k c) old new no_fit → ⊥
  unfolding take_from_depot
  depot_ends k c old new path = swapped path.1 path.3
    where
      swapped : (x : Result (Unit {0}) (PartFault FullFault)) → RunsTo arenas (on_swap_full k c x) path.0 new no_fit → ⊥
      swapped (Ok u) rest = round_ends arenas path.0 new k c rest
      swapped (Err (asking.Refused (full_fault.OldSize size))) rest = over_ends arenas path.0 new k c size rest
      swapped (Err (asking.Refused full_fault.NoneFull)) rest = let e : None ≡ no_fit = rest.1 in cc
      swapped (Err asking.Stopped) rest = let e : Some (Err (climbing.Stopped None)) ≡ no_fit = rest.1 in cc

  slab_made : (chain : List Level) (k c : ℕ) (span : Tag) (old new : LocalState) → RunsTo arenas (make_slab chain k c span) old new (Err (climbing.Refused carving.NoFit)) → ⊥
  unfolding make_slab
  slab_made chain k c span old new path = slab_added arenas path.0 new chain path.1 path.3

  slab_ends : (l : Level) (up : List Level) (c : ℕ) (old new : LocalState) → RunsTo arenas (take_from_slab (l ∷ up) l c) old new no_fit → ⊥
  unfolding take_from_slab
  slab_ends l up c old new path =
      let split = path_split (SoundStep (nodes_of arenas)) (climb_plan (l ∷ up) l.slab_size) (on_slab_climb (l ∷ up) l.id c) old new no_fit path in
      climbed split.0 split.1 split.3
    where
      climbed : (m : LocalState) (r : ClimbEnd) → RunsTo arenas (on_slab_climb (l ∷ up) l.id c r) m new no_fit → ⊥
      climbed m (Ok span) rest =
          let split = path_split (SoundStep (nodes_of arenas)) (make_slab (l ∷ up) l.id c span) (λ r. Done (Some r)) m new no_fit rest in
          let same : split.1 ≡ Err (climbing.Refused carving.NoFit) = (let e : Some split.1 ≡ Some (Err (climbing.Refused carving.NoFit)) = split.3.1 in cc) in
          slab_made (l ∷ up) l.id c span m split.0 (subst (RunsTo arenas (make_slab (l ∷ up) l.id c span) m split.0) same split.2)
      climbed m (Err (climbing.Refused carving.NoFit)) rest = let e : None ≡ no_fit = rest.1 in cc
      climbed m (Err (climbing.Refused carving.BadRequest)) rest = let e : Some (Err (climbing.Refused carving.BadRequest)) ≡ no_fit = rest.1 in cc
      climbed m (Err (climbing.Refused carving.NoMemory)) rest = let e : Some (Err (climbing.Refused carving.NoMemory)) ≡ no_fit = rest.1 in cc
      climbed m (Err (climbing.Stuck t)) rest = let e : Some (Err (climbing.Stuck t)) ≡ no_fit = rest.1 in cc
      climbed m (Err (climbing.Stopped o)) rest = let e : Some (Err (climbing.Stopped o)) ≡ no_fit = rest.1 in cc

  -- where a stage doesn't end so, it gave nothing, and the next ones follow
  goes_on : (p : Plan Stage) (last : Plan ClimbEnd) (old new : LocalState) → ((m : LocalState) → RunsTo arenas p old m no_fit → ⊥) → RunsTo arenas (then p (or_else last)) old new (Err (climbing.Refused carving.NoFit))
      → (m : LocalState) × RunsTo arenas p old m None × RunsTo arenas last m new (Err (climbing.Refused carving.NoFit))
  goes_on p last old new ends path =
      let split = path_split (SoundStep (nodes_of arenas)) p (or_else last) old new (Err (climbing.Refused carving.NoFit)) path in
      on split.0 split.1 split.2 split.3
    where
      on : (m : LocalState) (r : Stage) → RunsTo arenas p old m r → RunsTo arenas (or_else last r) m new (Err (climbing.Refused carving.NoFit)) → (n : LocalState) × RunsTo arenas p old n None × RunsTo arenas last n new (Err (climbing.Refused carving.NoFit))
      on m None first rest = (m, first, rest)
      on m (Some a) first rest = absurd (ends m (subst (λ b. RunsTo arenas p old m (Some b)) rest.1 first))

  stays_so : (s t : LocalState) → IsUnchanged s t → cpu_rounds t.cpu ≡ cpu_rounds s.cpu
  stays_so s t u = ap cpu_rounds u.cpu

  by_cache : (o : Option ℕ) (l : Level) (up : List Level) (size : ℕ) (old new : LocalState) → IsStock old.spaces → RunsTo arenas (alloc_steps o (l ∷ up) l size) old new (Err (climbing.Refused carving.NoFit))
      → (NoneInCacheBy o old l up × (¬ HasBaseUp old.spaces (l ∷ up) size)) × (new.spaces ≡ old.spaces) × (cpu_rounds new.cpu ≡ cpu_rounds old.cpu)
  unfolding alloc_cached
  by_cache None l up size old new law path = let none = climb_none arenas (l ∷ up) size old new path in ((tt, none.0), none.1.spaces, ap cpu_rounds none.1.cpu)
  by_cache (Some c) l up size old new law path =
      let p1 = goes_on (take_round l.id c) _ old new (λ m. round_ends arenas old m l.id c) path in
      let r1 = round_none arenas l.id c old p1.0 p1.1 in
      let s1 : p1.0 ≡ old = λ i. record { spaces = r1.0.spaces i; cpu = r1.0.cpu i } in
      let p2 = goes_on (take_from_depot l.id c) _ p1.0 new (λ m. depot_ends l.id c p1.0 m) p1.2 in
      let r2 = depot_none arenas l.id c old p2.0 law r1.1 (subst (λ (s : LocalState). RunsTo arenas (take_from_depot l.id c) s p2.0 None) s1 p2.1) in
      let p3 = goes_on (take_chunk l.id c) _ p2.0 new (λ m. chunk_ends arenas p2.0 m l.id c) p2.2 in
      let r3 = chunk_none arenas l.id c p2.0 p3.0 p3.1 in
      let p4 = goes_on (take_from_slab (l ∷ up) l c) (climb_plan (l ∷ up) size) p3.0 new (λ m. slab_ends l up c p3.0 m) p3.2 in
      let r4 = slab_none arenas l up c p3.0 p4.0 p4.1 in
      let r5 = climb_none arenas (l ∷ up) size p4.0 new p4.2 in
      let e3 : p3.0.spaces ≡ old.spaces = r3.0.spaces ∙ r2.0.0 in
      let e4 : p4.0.spaces ≡ old.spaces = r4.0.spaces ∙ e3 in (
        (
          record {
            chunks = none_to_take old l.id c r1.1 r2.1 (subst (λ xs. HasNoChunkOf xs l.id c) r2.0.0 r3.1);
            slab = subst (λ xs. ¬ HasBaseUp xs (l ∷ up) l.slab_size) e3 r4.1;
          },
          subst (λ xs. ¬ HasBaseUp xs (l ∷ up) size) e4 r5.0,
        ),
        r5.1.spaces ∙ e4,
        (stays_so p4.0 new r5.1 ∙ stays_so p3.0 p4.0 r4.0) ∙ (stays_so p2.0 p3.0 r3.0 ∙ r2.0.1),
      )

pub no_fit_is_right : NoFitIsRight
no_fit_is_right arenas [] size old new law path = (tt, ap (λ (s : LocalState). s.spaces) (sym path.0), ap (λ (s : LocalState). cpu_rounds s.cpu) (sym path.0))
no_fit_is_right arenas (l ∷ up) size old new law path = by_cache arenas (cache_for l size) l up size old new law path

pub xalloc_no_fit_is_right : XallocNoFitIsRight
xalloc_no_fit_is_right arenas arena request old new law path =
    let none = carve_none old.spaces path.0.spaces arena request (subst (λ (a : Result Tag (PartFault ArenaFault)). DoesCarve old.spaces arena request a path.0.spaces) path.3.1 path.2.step.does.0) in
    (none.0, record { spaces = ap (λ (s : LocalState). s.spaces) (sym path.3.0) ∙ none.1; cpu = ap (λ (s : LocalState). s.cpu) (sym path.3.0) ∙ path.2.step.does.1 })
