-- A chunk that is freed is a round again, or comes home.
use Rattle.arena_tree.proofs.LawProofs.{path_split}
use Rattle.arena_tree.specs.Trees.{nodes_of}
use Rattle.arena_tree.specs.declared.trees.TreeArena.{TreeArena}
use Rattle.deed_core.specs.Tag.{Tag}
use Rattle.deed_core.specs.declared.segments.Route.TheVariants.{Cached}
use Rattle.lease_machine.proofs.Focus.{Focus, changed, itself, pushed, size_some, slab_on, swapped_empty, swapped_fresh, there}
use Rattle.lease_machine.specs.Chunks.{AnswersRound}
use Rattle.local_calls.specs.Runs.{RunsTo, SoundStep}
use Rattle.local_parts.specs.States.{LocalState}
use Rattle.arena_tree.specs.Tags.{wording_of}
use Rattle.local_parts.specs.OwnSteps.{fresh_word}
use Rattle.magazine_layer.specs.Calls.{PutFullOf, SwapEmptyOf}
use Rattle.magazine_layer.specs.Depots.{DepotState, PutsFull}
use Rattle.magazine_layer.specs.Magazines.{BothFull, CpuCacheState, IsSize, MagazineState, Pushes, after_change, empty_magazine}
use Rattle.magazine_layer.specs.Rounds.{MakesRoom, NeedsMemory, cpu_depot}
use Rattle.magazine_layer.specs.Rounds.GivesRound.{Made, No_room, Own_given}
use Rattle.magazine_layer.specs.Rounds.MakesRoom.{By_change, By_empty, By_new}
use Rattle.magazine_layer.specs.declared.faults.EmptyFault.{EmptyFault}
use Rattle.magazine_layer.specs.declared.faults.PutFullFault.{PutFullFault}
use Rattle.magazine_layer.specs.declared.rounds.RoundAnswer.TheVariants.{Kept, Refused}
use Rattle.magazine_layer.specs.declared.rounds.RoundOp.TheVariants.{Give}
use Rattle.quantum_cache.specs.Frees.{first_that_takes, free_cached, on_change, on_push, on_slab_put, on_swap_empty, on_swap_fresh, or_next, push_changed, push_exchanged, push_fresh, push_round, put_chunk}
use Rattle.quantum_cache.specs.declared.placings.Placing.{Placing}
use Rattle.quantum_cache.specs.declared.placings.Placing.TheVariants.{Left, Placed}
use Rattle.slab_layer.specs.Cache.{SlabCacheState}
use Rattle.slab_layer.specs.Calls.{PutOf}
use Rattle.slab_layer.specs.declared.faults.PutFault.{PutFault}
use Rattle.slab_layer.specs.declared.faults.PutFault.TheVariants.{NotMine}
use Rattle.std.proofs.Common.{Err, List, Ok, Result, [], ap, arith, inl, inr, length, refl, subst, sym, ℕ, ◌+◌, ◌<◌, ◌∙◌, ◌∷◌, ◌≡◌, ◌≢◌, ◌⊎◌}
use Rattle.stock.specs.Spaces.{QuantumCacheState, with_depot, with_slab}
use Rattle.stock.specs.Steps.{OnSlab, PutIn}
use Rattle.stock.specs.Stocks.{IsRoundOf}
use Rattle.magazine_layer.specs.declared.faults.EmptyFault.TheVariants as empty_fault
use Rattle.magazine_layer.specs.declared.faults.PutFullFault.TheVariants as fresh_fault
use Rattle.arena_tree.specs.declared.part_faults.PartFault.TheVariants as asking
use Rattle.arena_tree.specs.declared.part_faults.GivenFault.TheVariants as giving
use Rattle.arena_tree.specs.declared.part_faults.FreshFault.TheVariants as freshing
use Rattle.slab_layer.specs.declared.faults.PutFault.TheVariants as put_fault
use Rattle.arena_tree.specs.declared.part_faults.ReturnFault.TheVariants as returning

module _ (arenas : List TreeArena) (s : LocalState) (k j : ℕ) (f : Focus s k j) (t : Tag) (round : IsRoundOf k (j + 1) f.own.quantum t) (sized : IsSize f.own.cpu.size) where
  abbrev own : CpuCacheState
  own = f.own.cpu

  abbrev depot : DepotState
  depot = f.cache.depot

  abbrev here : CpuCacheState → QuantumCacheState → LocalState
  here x q = there s k j f x q

  -- it is a round
  abbrev pub IsKept : LocalState → Type 0
  IsKept new = (y : CpuCacheState) × (d : DepotState) × (new ≡ here y (with_depot d f.cache)) × AnswersRound (Give t) Kept depot d own y

  -- it is at home
  abbrev pub IsHome : LocalState → Type 0
  IsHome new = (x : SlabCacheState) × (new ≡ here own (with_slab x f.cache)) × AnswersRound (Give t) (Refused t) depot depot own own × PutOf f.cache.slab t (Ok tt) x

  push_stage : (x : CpuCacheState) (q : QuantumCacheState) (m : LocalState) (p : Placing Tag) → RunsTo arenas (push_round k (j + 1) t) (here x q) m p
      → ((p ≡ Placed) × ((y : CpuCacheState) × (m ≡ here y q) × Pushes t x y)) ⊎ ((p ≡ Left t) × BothFull x × (m ≡ here x q))
  unfolding push_round
  push_stage x q m p path = elim (pushed s k j f x q t round path.1 path.0 path.2.step.does) [
    | inl ok ↦ inl (sym path.3.1 ∙ ap on_push ok.0, (ok.1.0, sym path.3.0 ∙ ok.1.1, ok.1.2))
    | inr full_up ↦ inr (sym path.3.1 ∙ ap on_push full_up.0, full_up.1, sym path.3.0 ∙ full_up.2)
  ]

  -- room was made, and it is pushed into
  room_stage : (x : CpuCacheState) (d : DepotState) (exchanges : ℕ) (m : LocalState) (p : Placing Tag) → (BothFull x → ⊥) → BothFull own → MakesRoom (cpu_depot own depot) (cpu_depot x d) exchanges → RunsTo arenas (push_round k (j + 1) t) (here x (with_depot d f.cache)) m p → (p ≡ Placed) × IsKept m
  room_stage x d exchanges m p room full makes path = elim (push_stage x (with_depot d f.cache) m p path) [
    | inl ok ↦ (ok.0, (ok.1.0, d, ok.1.1, (exchanges, Made (cpu_depot x d) full makes ok.1.2 refl refl)))
    | inr full_up ↦ absurd (room full_up.1)
  ]

  -- or couldn't be made
  abbrev Stays : LocalState → Placing Tag → Type 0
  Stays m p = (p ≡ Left t) × (m ≡ here own f.cache) × NeedsMemory (cpu_depot own depot)

  abbrev Exchanged : LocalState → Placing Tag → Type 0
  Exchanged m p = ((p ≡ Placed) × IsKept m) ⊎ Stays m p

  some : 0 < own.size
  some = size_some own.size sized

  -- a change of size
  change_stage : (size : ℕ) (m : LocalState) (p : Placing Tag) → BothFull own → own.size ≢ depot.size → size ≡ depot.size → RunsTo arenas (push_changed k (j + 1) size t) (here own f.cache) m p → Exchanged m p
  unfolding push_changed
  change_stage size m p full ne is path = elim (changed s k j f own f.cache size path.1 path.0 path.2.step.does) [
    | inl ok ↦
        let y = ok.1.0 in
        let empty : length y.previous ≡ 0 = ap (λ (z : CpuCacheState). length z.previous) ok.1.2.after in
        let large : y.size ≡ size = ap (λ (z : CpuCacheState). z.size) ok.1.2.after in
        let some : 0 < size = size_some size ok.1.2.sized in
        let made : cpu_depot y depot ≡ cpu_depot (after_change depot.size own) depot = ap (λ (z : CpuCacheState). cpu_depot z depot) (ok.1.2.after ∙ ap (λ n. after_change n own) is) in
        inl (room_stage y depot 0 m p (λ f. omega (arith, f.previous_full, empty, large, some)) full (By_change ne made refl)
        (subst (λ (z : LocalState). RunsTo arenas (push_round k (j + 1) t) z m p) ok.1.1 (subst (λ z. RunsTo arenas (on_change k (j + 1) t z) path.0 m p) ok.0 path.3)))
    | inr full_up ↦ elim full_up [
      | inl memory ↦ let end = subst (λ z. RunsTo arenas (on_change k (j + 1) t z) path.0 m p) memory.0 path.3 in inr (sym end.1, sym end.0 ∙ memory.1, λ same. absurd (ne same))
      | inr small ↦ let end = subst (λ z. RunsTo arenas (on_change k (j + 1) t z) path.0 m p) small.0 path.3 in inr (sym end.1, sym end.0 ∙ small.1, λ same. absurd (ne same))
    ]
  ]

  -- a fresh magazine
  fresh_stage : (m : LocalState) (p : Placing Tag) → BothFull own → own.size ≡ depot.size → depot.empty ≡ 0 → RunsTo arenas (push_fresh k (j + 1) t) (here own f.cache) m p → Exchanged m p
  unfolding push_fresh
  fresh_stage m p full same none path = elim (swapped_fresh s k j f own f.cache full path.1 path.0 path.2.step.does) [
    | inl on ↦ by on.0 on.1 on.3.r on.2 on.3.did on.3.told
    | inr memory ↦ left memory.0 memory.1
  ]
    where
      left : path.1 ≡ Err (asking.Refused freshing.NoMemory) → path.0 ≡ here own f.cache → Exchanged m p
      left is back = let end = subst (λ z. RunsTo arenas (on_swap_fresh k (j + 1) t z) path.0 m p) is path.3 in inr (sym end.1, sym end.0 ∙ back, λ e. none)

      by : (y : CpuCacheState) (d : DepotState) (r : Result (Unit {0}) (PutFullFault MagazineState)) → path.0 ≡ here y (with_depot d f.cache) → PutFullOf own depot (empty_magazine own.size) r y d → path.1 ≡ wording_of fresh_word r → Exchanged m p
      by y d (Ok u) state did told =
          let empty : length y.loaded ≡ 0 = ap (λ (z : CpuCacheState). length z.loaded) did.cache in
          let large : y.size ≡ own.size = ap (λ (z : CpuCacheState). z.size) did.cache in
          inl (room_stage y d 1 m p (λ f. omega (arith, f.loaded_full, empty, large, some)) full (By_new none (subst (λ n. PutsFull (empty_magazine n) own depot y d) same did) refl)
          (subst (λ (z : LocalState). RunsTo arenas (push_round k (j + 1) t) z m p) state (subst (λ z. RunsTo arenas (on_swap_fresh k (j + 1) t z) path.0 m p) told path.3)))
      by y d (Err (fresh_fault.OldSize size back)) state did told = absurd (elim did.0 [
        | inl ne ↦ ne same
        | inr ne ↦ ne same
      ])
      by y d (Err (fresh_fault.NoMemory back)) state did told = left told (state ∙ (ap (λ z. here z (with_depot d f.cache)) did.3 ∙ ap (λ z. here own (with_depot z f.cache)) did.4))

  exchange_stage : (m : LocalState) (p : Placing Tag) → BothFull own → RunsTo arenas (push_exchanged k (j + 1) t) (here own f.cache) m p → Exchanged m p
  unfolding push_exchanged
  exchange_stage m p full path =
      let on = swapped_empty s k j f own f.cache full path.1 path.0 path.2.step.does in
      by on.0 on.1 on.3.r on.2 on.3.did on.3.told
    where
      same_state : (y : CpuCacheState) (d : DepotState) → path.0 ≡ here y (with_depot d f.cache) → y ≡ own → d ≡ depot → path.0 ≡ here own f.cache
      same_state y d state a b = state ∙ (ap (λ z. here z (with_depot d f.cache)) a ∙ ap (λ z. here own (with_depot z f.cache)) b)

      by : (y : CpuCacheState) (d : DepotState) (r : Result (Unit {0}) EmptyFault) → path.0 ≡ here y (with_depot d f.cache) → SwapEmptyOf own depot r y d → path.1 ≡ wording_of asking.Refused r → Exchanged m p
      by y d (Ok u) state did told =
          let empty : length y.loaded ≡ 0 = ap (λ (z : CpuCacheState). length z.loaded) did.cache in
          let large : y.size ≡ own.size = ap (λ (z : CpuCacheState). z.size) did.cache in
          inl (room_stage y d 1 m p (λ f. omega (arith, f.loaded_full, empty, large, some)) full (By_empty did refl)
          (subst (λ (z : LocalState). RunsTo arenas (push_round k (j + 1) t) z m p) state (subst (λ z. RunsTo arenas (on_swap_empty k (j + 1) t z) path.0 m p) told path.3)))
      by y d (Err (empty_fault.OldSize size)) state did told =
          change_stage size m p full did.0 did.1 (subst (λ (z : LocalState). RunsTo arenas (push_changed k (j + 1) size t) z m p) (same_state y d state did.2 did.3) (subst (λ z. RunsTo arenas (on_swap_empty k (j + 1) t z) path.0 m p) told path.3))
      by y d (Err empty_fault.NoneEmpty) state did told =
          fresh_stage m p full did.0 did.1 (subst (λ (z : LocalState). RunsTo arenas (push_fresh k (j + 1) t) z m p) (same_state y d state did.2 did.3) (subst (λ z. RunsTo arenas (on_swap_empty k (j + 1) t z) path.0 m p) told path.3))

  put_stage : (new : LocalState) → AnswersRound (Give t) (Refused t) depot depot own own → RunsTo arenas (put_chunk t) (here own f.cache) new (Ok tt) → IsHome new
  unfolding put_chunk
  put_stage new room path = by path.2.step.does.0.0 path.2.step.does.0.1 path.2.step.does.0.2
    where
      route_is : (i : ℕ) → t.route ≡ Cached (i + 1) → i ≡ j
      route_is i is = (let e : Cached (i + 1) ≡ Cached (j + 1) = sym is ∙ round.by in let n : i + 1 ≡ j + 1 = cc in omega (arith, n))

      by : (r : Result (Unit {0}) (PutFault Tag)) → path.1 ≡ wording_of giving.Refused r → PutIn (here own f.cache).spaces t r path.0.spaces → IsHome new
      by (Ok u) told (inl on) =
          let moved : OnSlab k on.0 (λ a b. PutOf a t (Ok u) b) (here own f.cache).spaces path.0.spaces = subst (λ i. OnSlab i on.0 (λ a b. PutOf a t (Ok u) b) (here own f.cache).spaces path.0.spaces) round.from on.2 in
          let is = slab_on s k j f own f.cache (λ a b. PutOf a t (Ok u) b) path.0.spaces (subst (λ i. OnSlab k i (λ a b. PutOf a t (Ok u) b) (here own f.cache).spaces path.0.spaces) (route_is on.0 on.1) moved) in
          let state : path.0 ≡ here own (with_slab is.0 f.cache) = λ i. record { spaces = is.1 i; cpu = path.2.step.does.1 i } in
          (is.0, sym path.3.0 ∙ state, room, is.2)
      by (Ok u) told (inr none) = absurd (let e : Ok u ≡ Err (NotMine t) = none.1 in cc)
      by (Err (put_fault.NotMine y)) told put = absurd (let e : Err (returning.Stuck y) ≡ Ok tt = sym (ap on_slab_put told) ∙ path.3.1 in cc)
      by (Err (put_fault.AtHome y)) told put = absurd (let e : Err (returning.Stuck y) ≡ Ok tt = sym (ap on_slab_put told) ∙ path.3.1 in cc)

  -- all stages
  pub cached_goes_back : (new : LocalState) → RunsTo arenas (free_cached k (j + 1) t) s new (Ok tt) → IsKept new ⊎ IsHome new
  unfolding free_cached
  cached_goes_back new run =
      let path = subst (λ (z : LocalState). RunsTo arenas (free_cached k (j + 1) t) z new (Ok tt)) (itself s k j f) run in
      let first = path_split (SoundStep (nodes_of arenas)) (push_round k (j + 1) t) _ (here own f.cache) new (Ok tt) path in
      elim (push_stage own f.cache first.0 first.1 first.2) [
        | inl ok ↦
            let end = subst (λ p. RunsTo arenas (or_next (first_that_takes (push_exchanged k (j + 1) ∷ []) put_chunk) p) first.0 new (Ok tt)) ok.0 first.3 in
            inl (ok.1.0, depot, sym end.0 ∙ ok.1.1, (0, Own_given ok.1.2 refl refl refl))
        | inr full_up ↦
            let rest = subst (λ p. RunsTo arenas (or_next (first_that_takes (push_exchanged k (j + 1) ∷ []) put_chunk) p) first.0 new (Ok tt)) full_up.0 first.3 in
            let second = path_split (SoundStep (nodes_of arenas)) (push_exchanged k (j + 1) t) _ first.0 new (Ok tt) rest in
            elim (exchange_stage second.0 second.1 full_up.1 (subst (λ (z : LocalState). RunsTo arenas (push_exchanged k (j + 1) t) z second.0 second.1) full_up.2 second.2)) [
              | inl made ↦
                  let end = subst (λ p. RunsTo arenas (or_next put_chunk p) second.0 new (Ok tt)) made.0 second.3 in
                  inl (subst IsKept end.0 made.1)
              | inr stays ↦
                  let last = subst (λ p. RunsTo arenas (or_next put_chunk p) second.0 new (Ok tt)) stays.0 second.3 in
                  inr (put_stage new (0, No_room full_up.1 stays.2 refl refl refl) (subst (λ (z : LocalState). RunsTo arenas (put_chunk t) z new (Ok tt)) stays.1 last))
            ]
      ]
