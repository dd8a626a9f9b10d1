-- What the stages of an allocation by a cache come to: a round, a chunk, or nothing.
use Rattle.arena_tree.specs.declared.trees.TreeArena.{TreeArena}
use Rattle.deed_core.specs.Tag.{Tag}
use Rattle.lease_machine.proofs.Focus.{Focus, changed, itself, popped, size_some, swapped_full, taken, there}
use Rattle.lease_machine.specs.Chunks.{AnswersRound}
use Rattle.local_calls.specs.Runs.{RunsTo}
use Rattle.local_parts.specs.States.{LocalState}
use Rattle.arena_tree.specs.Tags.{wording_of}
use Rattle.magazine_layer.specs.Calls.{PopOf, SwapFullOf}
use Rattle.magazine_layer.specs.Depots.{DepotState}
use Rattle.magazine_layer.specs.Magazines.{BothEmpty, CpuCacheState, IsSize, Pops, after_change}
use Rattle.magazine_layer.specs.Rounds.TakesRound.{None_full, Old_size, Own_taken, Swapped}
use Rattle.magazine_layer.specs.Rounds.{cpu_depot}
use Rattle.magazine_layer.specs.declared.faults.FullFault.{FullFault}
use Rattle.magazine_layer.specs.declared.rounds.RoundAnswer.TheVariants.{Nothing, Taken}
use Rattle.magazine_layer.specs.declared.rounds.RoundOp.TheVariants.{Take}
use Rattle.quantum_cache.specs.Allocs.{Stage, change_over, on_change_over, on_swap_full, on_take, take_chunk, take_from_depot, take_round}
use Rattle.slab_layer.specs.Cache.{SlabCacheState}
use Rattle.slab_layer.specs.Calls.{TakeOf}
use Rattle.slab_layer.specs.Slab.{IsAllOut}
use Rattle.std.proofs.Common.{All, Err, List, None, Ok, Option, Result, Some, ap, arith, inl, inr, length, refl, subst, sym, ℕ, ◌+◌, ◌<◌, ◌∙◌, ◌≡◌, ◌≢◌, ◌⊎◌}
use Rattle.stock.specs.Spaces.{QuantumCacheState, with_depot, with_slab}
use Rattle.magazine_layer.specs.declared.faults.FullFault.TheVariants as full_fault
use Rattle.arena_tree.specs.declared.part_faults.PartFault.TheVariants as asking

module _ (arenas : List TreeArena) (s : LocalState) (k j : ℕ) (f : Focus s k j) (sized : IsSize f.own.cpu.size) where
  abbrev own : CpuCacheState
  own = f.own.cpu

  abbrev depot : DepotState
  depot = f.cache.depot

  abbrev here : CpuCacheState → QuantumCacheState → LocalState
  here x q = there s k j f x q

  some : 0 < own.size
  some = size_some own.size sized

  -- it was a round
  abbrev pub IsRound : Tag → LocalState → Type 0
  IsRound t new = (y : CpuCacheState) × (d : DepotState) × (new ≡ here y (with_depot d f.cache)) × AnswersRound Take (Taken t) depot d own y

  -- there is none
  abbrev pub Lacks : LocalState → Type 0
  Lacks new = (y : CpuCacheState) × (new ≡ here y f.cache) × AnswersRound Take Nothing depot depot own y

  take_stage : (x : CpuCacheState) (q : QuantumCacheState) (m : LocalState) (r : Stage) → RunsTo arenas (take_round k (j + 1)) (here x q) m r
      → ((t : Tag) × (r ≡ Some (Ok t)) × ((y : CpuCacheState) × (m ≡ here y q) × Pops t x y)) ⊎ ((r ≡ None) × BothEmpty x × (m ≡ here x q))
  unfolding take_round
  take_stage x q m r path =
      let p = popped s k j f x q path.1 path.0 path.2.step.does in
      by p.0 p.1 p.2.0 p.2.1 p.2.2
    where
      by : (o : Option Tag) → path.1 ≡ Ok o → (y : CpuCacheState) → path.0 ≡ here y q → PopOf x o y
          → ((t : Tag) × (r ≡ Some (Ok t)) × ((y : CpuCacheState) × (m ≡ here y q) × Pops t x y)) ⊎ ((r ≡ None) × BothEmpty x × (m ≡ here x q))
      by (Some t) is y state pops = inl (t, sym path.3.1 ∙ ap on_take is, (y, sym path.3.0 ∙ state, pops))
      by None is y state none = inr (sym path.3.1 ∙ ap on_take is, none.0, sym path.3.0 ∙ (state ∙ ap (λ z. here z q) none.1))

  over_stage : (size : ℕ) (m : LocalState) (r : Stage) → BothEmpty own → own.size ≢ depot.size → size ≡ depot.size → RunsTo arenas (change_over k (j + 1) size) (here own f.cache) m r → (r ≡ None) × Lacks m
  unfolding change_over
  over_stage size m r empty ne is path = elim (changed s k j f own f.cache size path.1 path.0 path.2.step.does) [
    | inl done ↦ (sym path.3.1 ∙ ap on_change_over done.0, (done.1.0, sym path.3.0 ∙ done.1.1, (0, Old_size empty ne (inr (ap (λ (z : CpuCacheState). cpu_depot z depot) (done.1.2.after ∙ ap (λ n. after_change n own) is))) refl refl)))
    | inr same ↦ elim same [
      | inl memory ↦ (sym path.3.1 ∙ ap on_change_over memory.0, (own, sym path.3.0 ∙ memory.1, (0, Old_size empty ne (inl refl) refl refl)))
      | inr small ↦ (sym path.3.1 ∙ ap on_change_over small.0, (own, sym path.3.0 ∙ small.1, (0, Old_size empty ne (inl refl) refl refl)))
    ]
  ]

  pub depot_stage : (m : LocalState) (r : Stage) → BothEmpty own → RunsTo arenas (take_from_depot k (j + 1)) (here own f.cache) m r → ((t : Tag) × (r ≡ Some (Ok t)) × IsRound t m) ⊎ ((r ≡ None) × Lacks m)
  unfolding take_from_depot
  depot_stage m r empty path =
      let on = swapped_full s k j f own f.cache empty path.1 path.0 path.2.step.does in
      by on.0 on.1 on.3.r on.2 on.3.did on.3.told
    where
      same_state : (y : CpuCacheState) (d : DepotState) → path.0 ≡ here y (with_depot d f.cache) → y ≡ own → d ≡ depot → path.0 ≡ here own f.cache
      same_state y d state a b = state ∙ (ap (λ z. here z (with_depot d f.cache)) a ∙ ap (λ z. here own (with_depot z f.cache)) b)

      by : (y : CpuCacheState) (d : DepotState) (w : Result (Unit {0}) FullFault) → path.0 ≡ here y (with_depot d f.cache) → SwapFullOf own depot w y d → path.1 ≡ wording_of asking.Refused w → ((t : Tag) × (r ≡ Some (Ok t)) × IsRound t m) ⊎ ((r ≡ None) × Lacks m)
      by y d (Ok u) state did told =
          let rest = subst (λ (z : LocalState). RunsTo arenas (take_round k (j + 1)) z m r) state (subst (λ z. RunsTo arenas (on_swap_full k (j + 1) z) path.0 m r) told path.3) in
          elim (take_stage y (with_depot d f.cache) m r rest) [
            | inl pops ↦ inl (pops.0, pops.1, (pops.2.0, d, pops.2.1, (1, Swapped pops.0 y empty did pops.2.2 refl refl)))
            | inr none ↦ absurd (omega (arith, some, did.whole, ap length none.1.loaded_empty))
          ]
      by y d (Err (full_fault.OldSize size)) state did told =
          inr (over_stage size m r empty did.0 did.1 (subst (λ (z : LocalState). RunsTo arenas (change_over k (j + 1) size) z m r) (same_state y d state did.2 did.3) (subst (λ z. RunsTo arenas (on_swap_full k (j + 1) z) path.0 m r) told path.3)))
      by y d (Err full_fault.NoneFull) state did told =
          let end = subst (λ z. RunsTo arenas (on_swap_full k (j + 1) z) path.0 m r) told path.3 in
          inr (sym end.1, (own, sym end.0 ∙ same_state y d state did.2 did.3, (0, None_full empty did.0 did.1 refl refl refl)))

  -- the first two stages
  pub rounds_stage : (m : LocalState) (r : Stage) → RunsTo arenas (take_round k (j + 1)) s m r → ((t : Tag) × (r ≡ Some (Ok t)) × IsRound t m) ⊎ ((r ≡ None) × BothEmpty own × (m ≡ s))
  rounds_stage m r run = elim (take_stage own f.cache m r (subst (λ (z : LocalState). RunsTo arenas (take_round k (j + 1)) z m r) (itself s k j f) run)) [
    | inl pops ↦ inl (pops.0, pops.1, (pops.2.0, depot, pops.2.1, (0, Own_taken pops.0 pops.2.2 refl refl refl)))
    | inr none ↦ inr (none.0, none.1, none.2 ∙ sym (itself s k j f))
  ]

  -- a chunk that is idle
  pub chunk_stage : (x : CpuCacheState) (m : LocalState) (r : Stage) → RunsTo arenas (take_chunk k (j + 1)) (here x f.cache) m r
      → ((t : Tag) × (r ≡ Some (Ok t)) × ((y : SlabCacheState) × (m ≡ here x (with_slab y f.cache)) × TakeOf f.cache.slab (Some t) y)) ⊎ ((r ≡ None) × All IsAllOut f.cache.slab.slabs × (m ≡ here x f.cache))
  unfolding take_chunk
  chunk_stage x m r path =
      let p = taken s k j f x f.cache path.1 path.0.spaces path.2.step.does.0 in
      by p.0 p.1 p.2.0 p.2.1 p.2.2
    where
      state_of : (y : SlabCacheState) → path.0.spaces ≡ (here x (with_slab y f.cache)).spaces → path.0 ≡ here x (with_slab y f.cache)
      state_of y is = λ i. record { spaces = is i; cpu = path.2.step.does.1 i }

      by : (o : Option Tag) → path.1 ≡ Ok o → (y : SlabCacheState) → path.0.spaces ≡ (here x (with_slab y f.cache)).spaces → TakeOf f.cache.slab o y
          → ((t : Tag) × (r ≡ Some (Ok t)) × ((y : SlabCacheState) × (m ≡ here x (with_slab y f.cache)) × TakeOf f.cache.slab (Some t) y)) ⊎ ((r ≡ None) × All IsAllOut f.cache.slab.slabs × (m ≡ here x f.cache))
      by (Some t) is y state takes = inl (t, sym path.3.1 ∙ ap on_take is, (y, sym path.3.0 ∙ state_of y state, takes))
      by None is y state none = inr (sym path.3.1 ∙ ap on_take is, none.0, sym path.3.0 ∙ (state_of y state ∙ ap (λ z. here x (with_slab z f.cache)) none.1))
