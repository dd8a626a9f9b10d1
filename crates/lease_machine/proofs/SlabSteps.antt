-- What the last stages of an allocation by a cache come to: a slab, or a climb for the size itself.
use Rattle.arena_tree.proofs.LawProofs.{path_split}
use Rattle.arena_tree.specs.Climbs.{ClimbEnd, climb_plan}
use Rattle.arena_tree.specs.Events.{SlabAdd}
use Rattle.arena_tree.specs.Plans.{Done, first_that_gives, or_else}
use Rattle.arena_tree.specs.Trees.{nodes_of}
use Rattle.arena_tree.specs.declared.levels.Level.{Level}
use Rattle.arena_tree.specs.declared.part_faults.GivenFault.{GivenFault}
use Rattle.arena_tree.specs.declared.part_faults.GivenFault.TheVariants as giving
use Rattle.tag_arena.specs.declared.faults.ArenaFault.TheVariants as carving
use Rattle.arena_tree.specs.declared.trees.TreeArena.{TreeArena}
use Rattle.deed_core.proofs.LawProofs.{set_same}
use Rattle.deed_core.specs.Tag.{Tag}
use Rattle.lease_machine.proofs.AllocSteps as stages
use Rattle.lease_machine.proofs.ClimbSteps.{Climbings, IsStuck, climb_cpu, climb_ends, climbs_has, gives_back, gives_back_cpu}
use Rattle.lease_machine.proofs.Focus.{Focus, itself, there}
use Rattle.lease_machine.proofs.FreeLaws.{seen}
use Rattle.lease_machine.specs.Chunks.{AnswersRound}
use Rattle.local_calls.specs.NoFits.{HasBaseUp}
use Rattle.lease_machine.specs.Moves.{Climbs, ClimbsInVain, Returns}
use Rattle.local_calls.specs.Runs.{RunsTo, SoundStep}
use Rattle.local_parts.proofs.LawProofs.{plan_keeps_stock}
use Rattle.local_parts.specs.States.{LocalState}
use Rattle.arena_tree.specs.Tags.{wording_of}
use Rattle.magazine_layer.specs.Magazines.{CpuCacheState, IsSize}
use Rattle.magazine_layer.specs.declared.rounds.RoundAnswer.TheVariants.{Nothing}
use Rattle.magazine_layer.specs.declared.rounds.RoundOp.TheVariants.{Take}
use Rattle.quantum_cache.specs.Allocs.{Stage, alloc_cached, make_slab, on_slab_add, on_slab_climb, take_chunk, take_from_depot, take_from_slab, take_round}
use Rattle.slab_layer.specs.Cache.{SlabCacheState}
use Rattle.slab_layer.specs.Calls.{AddOf, TakeOf}
use Rattle.slab_layer.specs.Slab.{IsAllOut}
use Rattle.slab_layer.specs.declared.faults.AddFault.{AddFault}
use Rattle.std.proofs.Common.{All, Err, List, None, Ok, Result, Some, [], ap, arith, inl, inr, set, subst, sym, ℕ, ◌+◌, ◌∙◌, ◌∷◌, ◌≡◌, ◌⊎◌}
use Rattle.stock.specs.Spaces.{SpaceState, with_cache, with_slab}
use Rattle.stock.specs.Steps.{OnSlab}
use Rattle.stock.specs.Stocks.{IsStock}
use Rattle.slab_layer.specs.declared.faults.AddFault.TheVariants as add_fault
use Rattle.arena_tree.specs.declared.part_faults.ClimbFault.TheVariants as climbing

-- a slab that isn't added leaves all as it was
refusal_same : (k j : ℕ) (span : Tag) (old new : List SpaceState) (r : Result Tag (AddFault Tag)) (x : GivenFault (AddFault Tag) Tag) → Err x ≡ wording_of giving.Refused r → OnSlab k j (λ a b. AddOf a span r b) old new → new ≡ old
refusal_same k j span old new r x told on = on.after ∙ (ap (set old k) (cache (by r told on.does)) ∙ set_same old k on.space on.at)
  where
    by : (r : Result Tag (AddFault Tag)) → Err x ≡ wording_of giving.Refused r → AddOf on.cache.slab span r on.slab → on.slab ≡ on.cache.slab
    by (Ok t) e does = absurd (let z : Err x ≡ Ok t = e in cc)
    by (Err (add_fault.WrongSize t)) e does = does.1.unchanged
    by (Err (add_fault.Overlaps t)) e does = does.2.unchanged
    by (Err (add_fault.NoMemory t)) e does = does.2.unchanged

    cache : on.slab ≡ on.cache.slab → with_cache j (with_slab on.slab on.cache) on.space ≡ on.space
    cache same = ap (λ z. with_cache j (with_slab z on.cache) on.space) same ∙ ap (λ cs. record { arena = on.space.arena; source = on.space.source; caches = cs }) (set_same on.space.caches j on.cache on.among)

told_ok : (r : Result Tag (AddFault Tag)) (t : Tag) → Ok t ≡ wording_of {F = GivenFault (AddFault Tag) Tag} giving.Refused r → r ≡ Ok t
told_ok (Ok y) t e = (let x : Ok t ≡ Ok y = e in let same : t ≡ y = cc in ap Ok (sym same))
told_ok (Err f) t e = absurd (let x : Ok t ≡ Err (giving.Refused f) = e in cc)

module _ (arenas : List TreeArena) (chain : List Level) (l : Level) (size j : ℕ) where
  -- the first chunk of a slab, whose span was climbed for; the stock's laws hold between
  abbrev pub IsCut : Tag → List SpaceState → List SpaceState → Type 0
  IsCut t old new = (span : Tag) × (mid : List SpaceState) × Climbs chain l.slab_size span old mid × OnSlab l.id j (λ a b. AddOf a span (Ok t) b) mid new × IsStock mid

  -- by the answer
  abbrev pub LastStages : ClimbEnd → List SpaceState → List SpaceState → Type 0
  LastStages (Ok t) old new = IsCut t old new ⊎ ((¬ HasBaseUp old chain l.slab_size) × Climbs chain size t old new)
  LastStages (Err (climbing.Refused carving.BadRequest)) old new = Unit {0}
  LastStages (Err (climbing.Refused carving.NoFit)) old new = (¬ HasBaseUp old chain l.slab_size) × (¬ HasBaseUp old chain size) × (new ≡ old)
  LastStages (Err (climbing.Refused carving.NoMemory)) old new = (HasBaseUp old chain l.slab_size × ClimbsInVain chain l.slab_size old new)
      ⊎ ((¬ HasBaseUp old chain l.slab_size) × HasBaseUp old chain size × ClimbsInVain chain size old new)
  LastStages (Err (climbing.Stuck t)) old new = Unit {0}
  LastStages (Err (climbing.Stopped o)) old new = Unit {0}

  -- the span came
  module _ (span : Tag) (old : List SpaceState) (m new : LocalState) (a : ClimbEnd) where
    nothing_said : IsStuck arenas a → LastStages a old new.spaces
    nothing_said is = elim is.1 [
      | inl e ↦ subst (λ z. LastStages z old new.spaces) (sym e) tt
      | inr e ↦ subst (λ z. LastStages z old new.spaces) (sym e) tt
    ]

    vain : (up : List Level) → Climbs up l.slab_size span old m.spaces → Returns new.spaces span m.spaces → ClimbsInVain up l.slab_size old new.spaces
    vain [] climbs returns = absurd climbs
    vain (z ∷ zs) climbs returns = inr (inl (span, m.spaces, climbs, returns))

    slab_made : (b : Result Tag (GivenFault (AddFault Tag) Tag)) (n : LocalState) → IsStock old → IsStock m.spaces → Climbs chain l.slab_size span old m.spaces
        → SoundStep (nodes_of arenas) m (SlabAdd l.id (j + 1) span) b n → RunsTo arenas (on_slab_add chain b) n new a → LastStages a old new.spaces
    slab_made (Ok t) n law mid climbs step end = elim step.step.does.0 [
      | inl on ↦
          let here : on.0 ≡ j = omega (arith, on.1) in
          let slab : OnSlab l.id j (λ x y. AddOf x span on.2.0 y) m.spaces n.spaces = subst (λ i. OnSlab l.id i (λ x y. AddOf x span on.2.0 y) m.spaces n.spaces) here on.2.2 in
          let made : OnSlab l.id j (λ x y. AddOf x span (Ok t) y) m.spaces n.spaces = subst (λ r. OnSlab l.id j (λ x y. AddOf x span r y) m.spaces n.spaces) (told_ok on.2.0 t on.2.1) slab in
          subst (λ z. LastStages z old new.spaces) end.1 (inl (span, m.spaces, climbs, subst (λ (z : LocalState). OnSlab l.id j (λ x y. AddOf x span (Ok t) y) m.spaces z.spaces) end.0 made, mid))
      | inr none ↦ absurd (let e : Ok t ≡ Err (giving.Refused (add_fault.WrongSize span)) = none.1.0 in cc)
    ]
    slab_made (Err (giving.Refused (add_fault.NoMemory t))) n law mid climbs step end =
        let same : t ≡ span = step.sound.1 in
        let state : n.spaces ≡ m.spaces = (elim step.step.does.0 [
          | inl on ↦ refusal_same l.id on.0 span m.spaces n.spaces on.2.0 (giving.Refused (add_fault.NoMemory t)) on.2.1 on.2.2
          | inr none ↦ none.1.1
        ]) in
        elim (gives_back arenas chain t n new a end) [
          | inl back ↦
              let returns : Returns new.spaces span m.spaces = subst (λ y. Returns new.spaces y m.spaces) same (subst (λ xs. Returns new.spaces t xs) state back.1) in
              subst (λ z. LastStages z old new.spaces) (sym back.0) (inl (climbs_has chain l.slab_size span old m.spaces law climbs, vain chain climbs returns))
          | inr stuck ↦ nothing_said stuck
        ]
    slab_made (Err (giving.Refused (add_fault.WrongSize t))) n law mid climbs step end = nothing_said (t, inl (sym end.1))
    slab_made (Err (giving.Refused (add_fault.Overlaps t))) n law mid climbs step end = nothing_said (t, inl (sym end.1))
    slab_made (Err (giving.Stopped t)) n law mid climbs step end = nothing_said (t, inr (sym end.1))

    slab_cpu : (b : Result Tag (GivenFault (AddFault Tag) Tag)) (n : LocalState) → n.cpu ≡ m.cpu → RunsTo arenas (on_slab_add chain b) n new a → new.cpu ≡ m.cpu
    slab_cpu (Ok t) n same end = ap (λ (z : LocalState). z.cpu) (sym end.0) ∙ same
    slab_cpu (Err (giving.Refused (add_fault.NoMemory t))) n same end = gives_back_cpu arenas chain t n new a end ∙ same
    slab_cpu (Err (giving.Refused (add_fault.WrongSize t))) n same end = ap (λ (z : LocalState). z.cpu) (sym end.0) ∙ same
    slab_cpu (Err (giving.Refused (add_fault.Overlaps t))) n same end = ap (λ (z : LocalState). z.cpu) (sym end.0) ∙ same
    slab_cpu (Err (giving.Stopped t)) n same end = ap (λ (z : LocalState). z.cpu) (sym end.0) ∙ same

    span_cut : IsStock old → IsStock m.spaces → Climbs chain l.slab_size span old m.spaces → RunsTo arenas (make_slab chain l.id (j + 1) span) m new a → LastStages a old new.spaces × (new.cpu ≡ m.cpu)
    unfolding make_slab
    span_cut law mid climbs path = (slab_made path.1 path.0 law mid climbs path.2 path.3, slab_cpu path.1 path.0 path.2.step.does.1 path.3)

  -- the fourth stage: what ends the allocation, or nothing, where no span for a slab has a base
  abbrev pub SlabStage : LocalState → LocalState → Stage → Type 0
  SlabStage old new r = ((a : ClimbEnd) × (r ≡ Some a) × LastStages a old.spaces new.spaces × (new.cpu ≡ old.cpu))
      ⊎ ((r ≡ None) × (¬ HasBaseUp old.spaces chain l.slab_size) × (new.spaces ≡ old.spaces) × (new.cpu ≡ old.cpu))

  pub slab_stage : (old new : LocalState) (r : Stage) → IsStock old.spaces → RunsTo arenas (take_from_slab chain l (j + 1)) old new r → SlabStage old new r
  unfolding take_from_slab
  slab_stage old new r law path =
      let split = path_split (SoundStep (nodes_of arenas)) (climb_plan chain l.slab_size) (on_slab_climb chain l.id (j + 1)) old new r path in
      by split.0 split.1 (climb_ends arenas chain l.slab_size old split.0 split.1 law split.2) (climb_cpu arenas chain l.slab_size old split.0 split.1 split.2)
      (plan_keeps_stock ClimbEnd (climb_plan chain l.slab_size) old split.0 split.1 (seen arenas (climb_plan chain l.slab_size) old split.0 split.1 split.2) law) split.3
    where
      ended : (m : LocalState) (a : ClimbEnd) → m.cpu ≡ old.cpu → m ≡ new → Some a ≡ r → LastStages a old.spaces m.spaces → SlabStage old new r
      ended m a cpu same is on = inl (a, sym is, subst (λ (z : LocalState). LastStages a old.spaces z.spaces) same on, ap (λ (z : LocalState). z.cpu) (sym same) ∙ cpu)

      by : (m : LocalState) (b : ClimbEnd) → Climbings chain l.slab_size b old.spaces m.spaces → m.cpu ≡ old.cpu → IsStock m.spaces → RunsTo arenas (on_slab_climb chain l.id (j + 1) b) m new r → SlabStage old new r
      by m (Ok span) on cpu mid rest =
          let split = path_split (SoundStep (nodes_of arenas)) (make_slab chain l.id (j + 1) span) (λ a. Done (Some a)) m new r rest in
          let cut = span_cut span old.spaces m split.0 split.1 law mid on split.2 in
          ended split.0 split.1 (cut.1 ∙ cpu) split.3.0 split.3.1 cut.0
      by m (Err (climbing.Refused carving.NoFit)) on cpu mid rest = inr (sym rest.1, on.0, ap (λ (z : LocalState). z.spaces) (sym rest.0) ∙ on.1, ap (λ (z : LocalState). z.cpu) (sym rest.0) ∙ cpu)
      by m (Err (climbing.Refused carving.BadRequest)) on cpu mid rest = ended m (Err (climbing.Refused carving.BadRequest)) cpu rest.0 rest.1 tt
      by m (Err (climbing.Refused carving.NoMemory)) on cpu mid rest = ended m (Err (climbing.Refused carving.NoMemory)) cpu rest.0 rest.1 (inl (on.0, on.1))
      by m (Err (climbing.Stuck t)) on cpu mid rest = ended m (Err (climbing.Stuck t)) cpu rest.0 rest.1 tt
      by m (Err (climbing.Stopped o)) on cpu mid rest = ended m (Err (climbing.Stopped o)) cpu rest.0 rest.1 tt

  -- the last
  size_stage : (a : ClimbEnd) (old new : List SpaceState) → (¬ HasBaseUp old chain l.slab_size) → Climbings chain size a old new → LastStages a old new
  size_stage (Ok t) old new none on = inr (none, on)
  size_stage (Err (climbing.Refused carving.BadRequest)) old new none on = tt
  size_stage (Err (climbing.Refused carving.NoFit)) old new none on = (none, on.0, on.1)
  size_stage (Err (climbing.Refused carving.NoMemory)) old new none on = inr (none, on.0, on.1)
  size_stage (Err (climbing.Stuck t)) old new none on = tt
  size_stage (Err (climbing.Stopped o)) old new none on = tt

  module _ (s : LocalState) (f : Focus s l.id j) (sized : IsSize f.own.cpu.size) (law : IsStock s.spaces) where
    abbrev here : CpuCacheState → LocalState
    here y = there s l.id j f y f.cache

    -- an idle chunk
    abbrev pub IsIdle : Tag → LocalState → Type 0
    IsIdle t new = (y : CpuCacheState) × (x : SlabCacheState) × (new ≡ there s l.id j f y (with_slab x f.cache)) × AnswersRound Take Nothing f.cache.depot f.cache.depot f.own.cpu y × TakeOf f.cache.slab (Some t) x

    -- there is none either
    abbrev pub IsLast : ClimbEnd → LocalState → Type 0
    IsLast a new = (y : CpuCacheState) × AnswersRound Take Nothing f.cache.depot f.cache.depot f.own.cpu y × All IsAllOut f.cache.slab.slabs × (new.cpu ≡ (here y).cpu) × LastStages a s.spaces new.spaces

    abbrev pub Ends : ClimbEnd → LocalState → Type 0
    Ends a new = ((t : Tag) × (a ≡ Ok t) × stages.IsRound arenas s l.id j f sized t new) ⊎ ((t : Tag) × (a ≡ Ok t) × IsIdle t new) ⊎ IsLast a new

    spaces_here : (y : CpuCacheState) → (here y).spaces ≡ s.spaces
    spaces_here y = ap (λ (z : LocalState). z.spaces) (sym (itself s l.id j f))

    last_stages : (y : CpuCacheState) (m new : LocalState) (a : ClimbEnd) → AnswersRound Take Nothing f.cache.depot f.cache.depot f.own.cpu y → All IsAllOut f.cache.slab.slabs → m ≡ here y
        → RunsTo arenas (first_that_gives (take_from_slab chain l (j + 1) ∷ []) (climb_plan chain size)) m new a → IsLast a new
    last_stages y m new a lacks out state path =
        let spaces : m.spaces ≡ s.spaces = ap (λ (z : LocalState). z.spaces) state ∙ spaces_here y in
        let cpu : m.cpu ≡ (here y).cpu = ap (λ (z : LocalState). z.cpu) state in
        let mid_law : IsStock m.spaces = subst IsStock (sym spaces) law in
        let p = path_split (SoundStep (nodes_of arenas)) (take_from_slab chain l (j + 1)) (or_else (climb_plan chain size)) m new a path in
        elim (slab_stage m p.0 p.1 mid_law p.2) [
          | inl got ↦
              let end = subst (λ r. RunsTo arenas (or_else (climb_plan chain size) r) p.0 new a) got.1 p.3 in
              let on : LastStages a m.spaces new.spaces = subst (λ z. LastStages z m.spaces new.spaces) end.1 (subst (λ (z : LocalState). LastStages got.0 m.spaces z.spaces) end.0 got.2) in
              (y, lacks, out, ap (λ (z : LocalState). z.cpu) (sym end.0) ∙ (got.3 ∙ cpu), subst (λ xs. LastStages a xs new.spaces) spaces on)
          | inr none ↦
              let rest = subst (λ r. RunsTo arenas (or_else (climb_plan chain size) r) p.0 new a) none.0 p.3 in
              let same : p.0.spaces ≡ s.spaces = none.2 ∙ spaces in
              let has : ¬ HasBaseUp s.spaces chain l.slab_size = subst (λ xs. ¬ HasBaseUp xs chain l.slab_size) spaces none.1 in
              let on : Climbings chain size a s.spaces new.spaces = subst (λ xs. Climbings chain size a xs new.spaces) same (climb_ends arenas chain size p.0 new a (subst IsStock (sym same) law) rest) in
              (y, lacks, out, climb_cpu arenas chain size p.0 new a rest ∙ (none.3 ∙ cpu), size_stage a s.spaces new.spaces has on)
        ]

    chunk_stages : (y : CpuCacheState) (m new : LocalState) (a : ClimbEnd) → AnswersRound Take Nothing f.cache.depot f.cache.depot f.own.cpu y → m ≡ here y
        → RunsTo arenas (first_that_gives (take_chunk l.id (j + 1) ∷ take_from_slab chain l (j + 1) ∷ []) (climb_plan chain size)) m new a → Ends a new
    chunk_stages y m new a lacks state path =
        let p = path_split (SoundStep (nodes_of arenas)) (take_chunk l.id (j + 1)) (or_else (first_that_gives (take_from_slab chain l (j + 1) ∷ []) (climb_plan chain size))) m new a path in
        elim (stages.chunk_stage arenas s l.id j f sized y p.0 p.1 (subst (λ (z : LocalState). RunsTo arenas (take_chunk l.id (j + 1)) z p.0 p.1) state p.2)) [
          | inl got ↦
              let end = subst (λ r. RunsTo arenas (or_else (first_that_gives (take_from_slab chain l (j + 1) ∷ []) (climb_plan chain size)) r) p.0 new a) got.1 p.3 in
              inr (inl (got.0, sym end.1, (y, got.2.0, sym end.0 ∙ got.2.1, lacks, got.2.2)))
          | inr none ↦
              let rest = subst (λ r. RunsTo arenas (or_else (first_that_gives (take_from_slab chain l (j + 1) ∷ []) (climb_plan chain size)) r) p.0 new a) none.0 p.3 in
              inr (inr (last_stages y p.0 new a lacks none.1 none.2 rest))
        ]

    -- all stages
    pub alloc_ends : (new : LocalState) (a : ClimbEnd) → RunsTo arenas (alloc_cached chain l (j + 1) size) s new a → Ends a new
    unfolding alloc_cached
    alloc_ends new a run =
        let p = path_split (SoundStep (nodes_of arenas)) (take_round l.id (j + 1)) (or_else (first_that_gives (take_from_depot l.id (j + 1) ∷ take_chunk l.id (j + 1) ∷ take_from_slab chain l (j + 1) ∷ []) (climb_plan chain size))) s new a run in
        elim (stages.rounds_stage arenas s l.id j f sized p.0 p.1 p.2) [
          | inl got ↦
              let end = subst (λ r. RunsTo arenas (or_else (first_that_gives (take_from_depot l.id (j + 1) ∷ take_chunk l.id (j + 1) ∷ take_from_slab chain l (j + 1) ∷ []) (climb_plan chain size)) r) p.0 new a) got.1 p.3 in
              inl (got.0, sym end.1, subst (stages.IsRound arenas s l.id j f sized got.0) end.0 got.2)
          | inr none ↦
              let rest = subst (λ r. RunsTo arenas (or_else (first_that_gives (take_from_depot l.id (j + 1) ∷ take_chunk l.id (j + 1) ∷ take_from_slab chain l (j + 1) ∷ []) (climb_plan chain size)) r) p.0 new a) none.0 p.3 in
              let q = path_split (SoundStep (nodes_of arenas)) (take_from_depot l.id (j + 1)) (or_else (first_that_gives (take_chunk l.id (j + 1) ∷ take_from_slab chain l (j + 1) ∷ []) (climb_plan chain size))) p.0 new a rest in
              let at : p.0 ≡ here f.own.cpu = none.2 ∙ itself s l.id j f in
              elim (stages.depot_stage arenas s l.id j f sized q.0 q.1 none.1 (subst (λ (z : LocalState). RunsTo arenas (take_from_depot l.id (j + 1)) z q.0 q.1) at q.2)) [
                | inl got ↦
                    let end = subst (λ r. RunsTo arenas (or_else (first_that_gives (take_chunk l.id (j + 1) ∷ take_from_slab chain l (j + 1) ∷ []) (climb_plan chain size)) r) q.0 new a) got.1 q.3 in
                    inl (got.0, sym end.1, subst (stages.IsRound arenas s l.id j f sized got.0) end.0 got.2)
                | inr lacks ↦
                    let more = subst (λ r. RunsTo arenas (or_else (first_that_gives (take_chunk l.id (j + 1) ∷ take_from_slab chain l (j + 1) ∷ []) (climb_plan chain size)) r) q.0 new a) lacks.0 q.3 in
                    chunk_stages lacks.1.0 q.0 new a lacks.1.2 lacks.1.1 more
              ]
        ]
