-- What becomes of a request that caches serve.
use Rattle.arena_tree.specs.Climbs.{ClimbEnd, climb_left, climb_plan}
use Rattle.arena_tree.specs.Trees.{IsArena, level_of, nodes_of}
use Rattle.arena_tree.specs.declared.levels.Level.{Level}
use Rattle.arena_tree.specs.declared.trees.TreeArena.{TreeArena}
use Rattle.deed_core.proofs.LawProofs.{plain_is_of_its_size, power_some, rounds_up, slice_get_mapped, slice_get_one, slice_get_some}
use Rattle.deed_core.specs.Request.{Fits, IsGood, IsPlain, plain_of, rounding_of}
use Rattle.deed_core.specs.Tag.{Tag}
use Rattle.deed_core.specs.declared.requests.Request.{Request}
use Rattle.lease_machine.proofs.AllocLaws as allocs
use Rattle.lease_machine.proofs.AllocSteps.{IsRound}
use Rattle.lease_machine.proofs.CachedSizes.{cached_by_number}
use Rattle.lease_machine.proofs.ClimbSteps.{Climbings, climb_cpu, climb_ends, climbs_has}
use Rattle.lease_machine.proofs.Fewer.{fewer_fit}
use Rattle.lease_machine.proofs.Focus.{Focus, depot_becomes, own_becomes, slab_becomes, there}
use Rattle.lease_machine.proofs.FreeLaws.{Round_, depot_fulls, depot_sized, fits_again, fits_before, focus_at, focus_fits, on_selected, parts_are, selected_is, there_all}
use Rattle.lease_machine.proofs.HeldLaws.{Everywhere, FitsIn, hands_of, of_stock, reach, there_is}
use Rattle.lease_machine.proofs.Lasting.{all_last}
use Rattle.lease_machine.proofs.Reached.{IsAmong, among_some, full_some, pops_among, some_idle}
use Rattle.lease_machine.proofs.Shapes.{FitsFor, lacks_fit, no_round, round_taken, takes_fit}
use Rattle.lease_machine.proofs.SlabSteps.{Ends, IsIdle, IsLast, alloc_ends}
use Rattle.lease_machine.proofs.XallocLaws.{held_after, last_after, picture_same, space_here}
use Rattle.lease_machine.specs.CallLaws.{AllocFromCaches, IsFromCaches}
use Rattle.lease_machine.specs.Chunks.{AnswersRound, LacksChunks, OnSelected, WasIdle, WasRound}
use Rattle.lease_machine.specs.Held.{with_parts}
use Rattle.local_calls.specs.NoFits.{HasBaseUp, CanTake}
use Rattle.lease_machine.specs.Moves.{ClimbsInVain}
use Rattle.lease_machine.specs.Picture.{NumberedCpu, Picture, SameSetup, is_cpu, IsHeld}
use Rattle.lease_machine.specs.Serving.{CacheFor, CachesServe, CanServe, HasChunk, IsCachedIn}
use Rattle.local_calls.specs.Laws.{AllocsWell}
use Rattle.local_calls.specs.Runs.{RunsTo}
use Rattle.local_calls.proofs.LawProofs.{none_idle}
use Rattle.local_parts.specs.Cpus.{IsOwnAt}
use Rattle.local_parts.specs.States.{LocalState}
use Rattle.magazine_layer.specs.Magazines.{CpuCacheState, IsSize}
use Rattle.magazine_layer.specs.declared.rounds.RoundAnswer.TheVariants.{Nothing, Taken}
use Rattle.magazine_layer.specs.declared.rounds.RoundOp.TheVariants.{Take}
use Rattle.quantum_cache.proofs.LawProofs.{alloc_handles}
use Rattle.quantum_cache.specs.Allocs.{alloc_steps, alloc_cached, alloc_plan}
use Rattle.quantum_cache.specs.Caches.{chain_in, chain_up}
use Rattle.quantum_cache.specs.Served.{IsServed, IsServedOf}
use Rattle.quantum_cache.specs.Sizes.{cache_for}
use Rattle.slab_layer.specs.Calls.{StandsAt, TakeOf}
use Rattle.slab_layer.specs.Slab.{IsAllOut}
use Rattle.std.proofs.Common.{All, Err, List, None, Ok, Option, Some, [], ap, arith, find, inl, inr, length, refl, slice_get, subst, sym, ℕ, ◌*◌, ◌++◌, ◌+◌, ◌/◌, ◌<◌, ◌∙◌, ◌∷◌, ◌≡◌, ◌≤◌, ◌⊎◌}
use Rattle.std.proofs.Math.Nat.{le-div_iff_mul-le, mul-div_left}
use Rattle.std.proofs.lemmas.Bool.{cases_lt}
use Rattle.std.proofs.lemmas.List.{length-map, length-replicate}
use Rattle.std.specs.Prelude.{IfOk, MatchOption}
use Rattle.stock.specs.OwnCaches.{own_rounds}
use Rattle.stock.specs.Setups.{plan_for}
use Rattle.stock.specs.Spaces.{IsCacheAt, QuantumCacheState, SpacePlan, SpaceState, plan_of, plans_of, slab_size_of, with_depot, with_slab}
use Rattle.stock.specs.Stocks.{IsStock}
use Rattle.arena_tree.specs.declared.part_faults.ClimbFault.TheVariants as climbing
use Rattle.tag_arena.specs.declared.faults.ArenaFault.TheVariants as carving

-- so many quanta are of one number
same_quanta : (i j quantum : ℕ) → 0 < quantum → (i + 1) * quantum ≡ (j + 1) * quantum → i ≡ j
same_quanta i j quantum some same =
    let e : i + 1 ≡ j + 1 = sym (mul-div_left (i + 1) some) ∙ (ap (λ (n : ℕ). n / quantum) same ∙ mul-div_left (j + 1) some) in
    omega (arith, e)

module _ (d : Picture) (index : ℕ) (x : TreeArena) (q : Request) (s : LocalState) (held : IsHeld [] d) (here : slice_get d.tree index ≡ Some x) (c : NumberedCpu) (found : find (is_cpu d.selected) d.cpus ≡ Some c) (plain : IsPlain q) (a : ClimbEnd)
    (run : RunsTo d.tree (alloc_plan (chain_in d.tree index) q.size) (reach d d.selected c found None held) s a) (cached : IsCachedIn x q) where
  abbrev was : LocalState
  was = reach d d.selected c found None held

  abbrev chain : List Level
  chain = chain_in d.tree index

  abbrev level : Level
  level = level_of index x

  abbrev above : List Level
  above = chain_up 3 d.tree x.source

  abbrev then_d : Picture
  then_d = with_parts s d

  law : IsStock d.spaces
  law = held.units.parts

  stage_run : RunsTo d.tree (alloc_steps (cache_for level q.size) (level ∷ above) level q.size) was s a
  stage_run = subst (λ z. RunsTo d.tree (alloc_plan z q.size) was s a) (allocs.chain_begins d.tree index x here) run

  -- no units are asked for
  nothing_asked : q.size ≡ 0 → IsFromCaches index x q d a then_d
  nothing_asked zero =
      let none : cache_for level q.size ≡ None = ap (cache_for level) zero in
      let climb : RunsTo d.tree (climb_plan (level ∷ above) q.size) was s a = subst (λ o. RunsTo d.tree (alloc_steps o (level ∷ above) level q.size) was s a) none stage_run in
      let bad : a ≡ Err (climbing.Refused carving.BadRequest) = allocs.none_asked d.tree level above was s a law (subst (λ n. RunsTo d.tree (climb_plan (level ∷ above) n) was s a) zero climb) in
      let spaces : s.spaces ≡ d.spaces = subst (λ z. Climbings (level ∷ above) q.size z d.spaces s.spaces) bad (climb_ends d.tree (level ∷ above) q.size was s a law climb) in
      subst (λ z. IsFromCaches index x q d z then_d) (sym bad)
      ((λ good. omega (arith, zero, good.size)), picture_same d index x q s held here c found spaces (climb_cpu d.tree (level ∷ above) q.size was s a climb))

  module _ (some : 0 < q.size) (j : ℕ) (number : cache_for level q.size ≡ Some (j + 1)) (size : rounding_of x.quantum q.size ≡ (j + 1) * x.quantum) where
    arena_is : IsArena d.tree index x
    arena_is = held.tree.each index x here

    positive : 0 < x.quantum
    positive = power_some x.quantum arena_is.power

    good : IsGood x.quantum q
    good = allocs.good_plain d index x q s held here c found plain a run some

    -- a slab has room for the size
    small : q.size ≤ x.slab_size
    small =
        let up = (rounds_up x.quantum q.size positive).1 in
        let least : x.qcache_max ≡ 0 → ⊥ = (λ none. omega (arith, none, cached.1, up, some)) in
        let next = (arena_is.caches.2.1 least).1 in
        omega (arith, next, cached.1, up)

    -- the cache that serves it
    stands : (y : QuantumCacheState) × IsCacheAt d.spaces index j y
    stands =
        let y = space_here d index x q s held here c found in
        let plan : plan_of y.0 ≡ plan_for x = slice_get_one (plans_of d.spaces) index (plan_of y.0) (plan_for x) (slice_get_mapped plan_of d.spaces index y.0 y.1) (ap (λ ps. slice_get ps index) held.plans ∙ slice_get_mapped plan_for d.tree index x here) in
        let count : length y.0.caches ≡ x.qcache_max / x.quantum = sym (length-map y.0.caches slab_size_of) ∙ (ap (λ (p : SpacePlan). length p.slab_sizes) plan ∙ length-replicate (x.qcache_max / x.quantum) x.slab_size) in
        let most : (j + 1) * x.quantum ≤ x.qcache_max = subst (λ n. n ≤ x.qcache_max) size cached.1 in
        let within : j + 1 ≤ x.qcache_max / x.quantum = (le-div_iff_mul-le {k = x.quantum} {x = j + 1} {y = x.qcache_max} positive).1 most in
        let z = slice_get_some y.0.caches j (omega (arith, within, count)) in
        (z.0, record { space = y.0; at = y.1; among = z.1 })

    module _ (f : Focus was index j) where
      own_fits : FitsIn d.spaces f.own
      own_fits = fits_before d d.selected c found None held d.spaces refl index j f.row f.own f.row_at f.own_at

      sized : IsSize f.own.cpu.size
      sized = own_fits.shaped.shape.sized

      ends : Ends d.tree chain level q.size j was f sized law a s
      ends =
          let by : RunsTo d.tree (alloc_cached (level ∷ above) level (j + 1) q.size) was s a = subst (λ o. RunsTo d.tree (alloc_steps o (level ∷ above) level q.size) was s a) number stage_run in
          alloc_ends d.tree chain level q.size j was f sized law s a (subst (λ z. RunsTo d.tree (alloc_cached z level (j + 1) q.size) was s a) (sym (allocs.chain_begins d.tree index x here)) by)

      abbrev mine : CacheFor d index x q f.cache f.own
      mine = record {
        cache = j;
        size = size;
        shared = record { space = f.space; at = f.at; among = f.among };
        own = subst (λ rows. IsOwnAt rows index j f.own) (sym (selected_is d c found)) (record { row = f.row; at = f.row_at; among = f.own_at; arena = f.arena; cache = f.number });
      }

      last : all_last s.spaces ≡ all_last d.spaces
      last = last_after climb_left (alloc_plan chain q.size) d d.selected c found None held (alloc_handles chain q.size) s a run

      -- the magazines fit then
      kept : (y : CpuCacheState) (z : QuantumCacheState) → FitsFor (Round_ was index j f law own_fits) f.cache.depot.size y → s.cpu ≡ (there was index j f y z).cpu → IsHeld (hands_of (climb_left a)) then_d × SameSetup d then_d
      kept y z fit cpu =
          held_after climb_left (alloc_plan chain q.size) d d.selected c found None held (alloc_handles chain q.size) s a run
          (subst (λ rows. Everywhere (FitsIn s.spaces) rows) (sym cpu) (there_all (FitsIn s.spaces) was index j f y z (fits_before d d.selected c found None held s.spaces last) (fits_again was index j f law own_fits y s.spaces last fit)))

      lacks_kept : (y : CpuCacheState) (z : QuantumCacheState) → AnswersRound Take Nothing f.cache.depot f.cache.depot f.own.cpu y → s.cpu ≡ (there was index j f y z).cpu → IsHeld (hands_of (climb_left a)) then_d × SameSetup d then_d
      lacks_kept y z lacks cpu = kept y z (lacks_fit (Round_ was index j f law own_fits) f.cache.depot.size f.own.cpu y f.cache.depot refl (depot_sized was index j f law own_fits) (focus_fits was index j f law own_fits) lacks) cpu

      on_own : (P : CpuCacheState → CpuCacheState → Type 0) (y : CpuCacheState) (z : QuantumCacheState) → s.cpu ≡ (there was index j f y z).cpu → P f.own.cpu y → OnSelected index j P d then_d
      on_own P y z cpu so = on_selected d c found s index j P (own_becomes was index j f P y s.cpu cpu so)

      -- a segment that was given
      module _ (t : Tag) (is : a ≡ Ok t) where
        given : IsServedOf (nodes_of d.tree) level q.size t
        given = subst (λ z. IfOk z (IsServed (nodes_of d.tree) (level ∷ above) q.size)) is (allocs.served d index x q s held here c found plain a run)

        granted : CanServe d index x q → CachesServe index x q t d then_d → IsHeld (hands_of (climb_left a)) then_d × SameSetup d then_d → IsFromCaches index x q d (Ok t) then_d
        granted can serves after =
            let fits : Fits x.quantum q t.holding.range.base t.holding.range.len = subst (λ z. Fits x.quantum z t.holding.range.base t.holding.range.len) (sym ((plain_is_of_its_size q).0 plain)) (subst (λ n. Fits n (plain_of q.size) t.holding.range.base t.holding.range.len) (allocs.quantum_of_index d.tree index x here) given.fits) in (
              good,
              can,
              record { arena = given.of_arena; fits = fits; from = inr (inr (cached, serves)); names = (refl, refl) },
              subst (λ z. IsHeld (hands_of (climb_left z)) then_d) is after.0,
              after.1,
            )

        can_take : CanTake f.cache f.own → CanServe d index x q
        can_take can = inl (cached, (f.cache, f.own, mine, can))

        round_given : IsRound d.tree was index j f sized t s → IsFromCaches index x q d (Ok t) then_d
        round_given r =
            let y = r.0 in
            let e = r.1 in
            let cpu : s.cpu ≡ (there was index j f y (with_depot e f.cache)).cpu = ap (λ (z : LocalState). z.cpu) r.2 in
            let round : WasRound index j f.cache t d then_d = (e, on_own (AnswersRound Take (Taken t) f.cache.depot e) y (with_depot e f.cache) cpu r.3, depot_becomes was index j f (λ m n. n ≡ e) e s.spaces (ap (λ (z : LocalState). z.spaces) r.2) refl) in
            let fit = takes_fit (Round_ was index j f law own_fits) f.cache.depot.size t f.own.cpu y f.cache.depot e (depot_fulls was index j f law own_fits) (focus_fits was index j f law own_fits) r.3 in
            let after = kept y (with_depot e f.cache) fit cpu in
            elim (round_taken t f.own.cpu y f.cache.depot e r.3) [
              | inl pops ↦
                  let among : IsAmong t (own_rounds f.own) = pops_among t f.own.cpu y pops in
                  granted (can_take (inl (among_some t (own_rounds f.own) among))) (f.cache, f.own, mine, inl round) after
              | inr swapped ↦
                  let full = full_some t f.own.cpu swapped.1.0 y f.cache.depot e swapped.0 swapped.1.1 swapped.1.2 in
                  granted (can_take (inr (inl (swapped.1.1.sized, full)))) (f.cache, f.own, mine, inl round) after
            ]

        idle_given : IsIdle d.tree chain level q.size j was f sized law t s → IsFromCaches index x q d (Ok t) then_d
        idle_given r =
            let y = r.0 in
            let z = r.1 in
            let cpu : s.cpu ≡ (there was index j f y (with_slab z f.cache)).cpu = ap (λ (w : LocalState). w.cpu) r.2 in
            let idle : WasIdle index j f.cache t d then_d = (on_own (AnswersRound Take Nothing f.cache.depot f.cache.depot) y (with_slab z f.cache) cpu r.3, slab_becomes was index j f (λ m n. TakeOf m (Some t) n) z s.spaces (ap (λ (w : LocalState). w.spaces) r.2) r.4) in
            let takes = r.4.3 in
            let at : StandsAt r.4.0 r.4.2 f.cache.slab.slabs = (elim takes.next [ inl low ↦ low.stands | inr low ↦ low.1.stands ]) in
            granted (can_take (inr (inr (some_idle f.cache.slab r.4.0 r.4.1 r.4.2 at takes.lowest)))) (f.cache, f.own, mine, inr (inl idle)) (lacks_kept y (with_slab z f.cache) r.3 cpu)

      lacks_chunks : (b : ClimbEnd) → (l : IsLast d.tree chain level q.size j was f sized law b s) → LacksChunks index j f.cache d then_d
      lacks_chunks b l = (on_own (AnswersRound Take Nothing f.cache.depot f.cache.depot) l.0 f.cache l.3 l.1, none_idle f.cache.slab l.2)

      last_given : (t : Tag) (is : a ≡ Ok t) → IsLast d.tree chain level q.size j was f sized law (Ok t) s → IsFromCaches index x q d (Ok t) then_d
      last_given t is l =
          let lacks = lacks_chunks (Ok t) l in
          let after = lacks_kept l.0 f.cache l.1 l.3 in
          elim l.4 [
            | inl cut ↦
                let span = cut.0 in
                let mid = cut.1 in
                granted t is (inr (inl (plain, fewer_fit d.tree d.spaces index q.size x.slab_size held.tree law small (climbs_has chain x.slab_size span d.spaces mid law cut.2)))) (f.cache, f.own, mine, inr (inr (lacks, inl (span, mid, cut.2, cut.3)))) after
            | inr climbed ↦
                granted t is (inr (inl (plain, climbs_has chain q.size t d.spaces s.spaces law climbed.1))) (f.cache, f.own, mine, inr (inr (lacks, inr (climbed.0, climbed.1)))) after
          ]

      -- where the cache has none, no cache for the size has one
      no_chunk : (y : CpuCacheState) → AnswersRound Take Nothing f.cache.depot f.cache.depot f.own.cpu y → All IsAllOut f.cache.slab.slabs → ¬ HasChunk d index x q
      no_chunk y lacks out has =
          let g = has.2 in
          let same : g.cache ≡ j = same_quanta g.cache j x.quantum positive (sym g.size ∙ size) in
          let space : g.shared.space ≡ f.space = slice_get_one d.spaces index g.shared.space f.space g.shared.at f.at in
          let cache : has.0 ≡ f.cache = slice_get_one f.space.caches j has.0 f.cache (ap (λ (z : SpaceState). slice_get z.caches j) (sym space) ∙ (ap (slice_get g.shared.space.caches) (sym same) ∙ g.shared.among)) f.among in
          let row : g.own.row ≡ f.row = slice_get_one c.caches index g.own.row f.row (ap (λ rows. slice_get rows index) (sym (selected_is d c found)) ∙ g.own.at) f.row_at in
          let own : has.1 ≡ f.own = slice_get_one f.row j has.1 f.own (ap (λ r. slice_get r j) (sym row) ∙ (ap (slice_get g.own.row) (sym same) ∙ g.own.among)) f.own_at in
          let can : CanTake f.cache f.own = subst (λ o. CanTake f.cache o) own (subst (λ z. CanTake z has.1) cache has.3) in
          let none = no_round f.own.cpu y f.cache.depot f.cache.depot lacks in
          elim can [
            | inl rounds ↦ rounds (ap (λ ts. ts ++ f.own.cpu.loaded) none.0.previous_empty ∙ none.0.loaded_empty)
            | inr more ↦ elim more [
              | inl full ↦ full.1 (none.1 full.0)
              | inr idle ↦ idle (none_idle f.cache.slab out)
            ]
          ]

      no_fit : a ≡ Err (climbing.Refused carving.NoFit) → IsLast d.tree chain level q.size j was f sized law (Err (climbing.Refused carving.NoFit)) s → IsFromCaches index x q d (Err (climbing.Refused carving.NoFit)) then_d
      no_fit is l =
          let after = lacks_kept l.0 f.cache l.1 l.3 in (
            good,
            record {
              none = λ can. elim can [
                | inl has ↦ no_chunk l.0 l.1 l.2 has.1
                | inr more ↦ elim more [
                  | inl up ↦ l.4.1 up.1
                  | inr other ↦ other.0 plain
                ]
              ];
              spaces = l.4.2;
              cpus = inr (cached, (f.cache, f.own, mine, on_own (AnswersRound Take Nothing f.cache.depot f.cache.depot) l.0 f.cache l.3 l.1));
              names = (refl, refl);
            },
            subst (λ z. IsHeld (hands_of (climb_left z)) then_d) is after.0,
            after.1,
          )

      no_memory : a ≡ Err (climbing.Refused carving.NoMemory) → IsLast d.tree chain level q.size j was f sized law (Err (climbing.Refused carving.NoMemory)) s → IsFromCaches index x q d (Err (climbing.Refused carving.NoMemory)) then_d
      no_memory is l =
          let after = lacks_kept l.0 f.cache l.1 l.3 in
          let lacks = lacks_chunks (Err (climbing.Refused carving.NoMemory)) l in
          let base_up : HasBaseUp d.spaces chain q.size = (elim l.4 [
            | inl slab ↦ fewer_fit d.tree d.spaces index q.size x.slab_size held.tree law small slab.0
            | inr climb ↦ climb.1
          ]) in
          let vain : ClimbsInVain chain x.slab_size d.spaces s.spaces ⊎ ((¬ HasBaseUp d.spaces chain x.slab_size) × ClimbsInVain chain q.size d.spaces s.spaces) = (elim l.4 [
            | inl slab ↦ inl slab.1
            | inr climb ↦ inr (climb.0, climb.2)
          ]) in (
            good,
            inr (inl (plain, base_up)),
            inr (inr (cached, inr (inl (f.cache, f.own, mine, lacks, vain)))),
            subst (λ z. IsHeld (hands_of (climb_left z)) then_d) is after.0,
            after.1,
          )

      not_bad : a ≡ Err (climbing.Refused carving.BadRequest) → ⊥
      not_bad is = elim (allocs.asks_none d index x q s held here c found plain a run is) [
        | inl asked ↦ omega (arith, asked, some)
        | inr none ↦ omega (arith, none.0, small, some)
      ]

      -- a refusal comes last
      refused : (b : ClimbEnd) → a ≡ b → ((t : Tag) → b ≡ Ok t → ⊥) → IsLast d.tree chain level q.size j was f sized law b s
      refused b is none = elim ends [
        | inl round ↦ absurd (none round.0 (sym is ∙ round.1))
        | inr (inl idle) ↦ absurd (none idle.0 (sym is ∙ idle.1))
        | inr (inr l) ↦ subst (λ z. IsLast d.tree chain level q.size j was f sized law z s) is l
      ]

      given_so : (t : Tag) → a ≡ Ok t → IsFromCaches index x q d (Ok t) then_d
      given_so t is = elim ends [
        | inl round ↦ round_given t is (subst (λ z. IsRound d.tree was index j f sized z s) (one round.0 round.1) round.2)
        | inr (inl idle) ↦ idle_given t is (subst (λ z. IsIdle d.tree chain level q.size j was f sized law z s) (one idle.0 idle.1) idle.2)
        | inr (inr l) ↦ last_given t is (subst (λ z. IsLast d.tree chain level q.size j was f sized law z s) is l)
      ]
        where
          one : (y : Tag) → a ≡ Ok y → y ≡ t
          one y e = (let both : Ok y ≡ Ok t = sym e ∙ is in cc)

      ends_well : AllocsWell a
      ends_well = allocs.ends_well d index x q s held here c found plain a run

      by : (b : ClimbEnd) → a ≡ b → IsFromCaches index x q d b then_d
      by (Ok t) is = given_so t is
      by (Err (climbing.Refused carving.BadRequest)) is = absurd (not_bad is)
      by (Err (climbing.Refused carving.NoFit)) is = no_fit is (refused (Err (climbing.Refused carving.NoFit)) is (λ t e. (let y : Err (climbing.Refused carving.NoFit) ≡ Ok t = e in cc)))
      by (Err (climbing.Refused carving.NoMemory)) is = no_memory is (refused (Err (climbing.Refused carving.NoMemory)) is (λ t e. (let y : Err (climbing.Refused carving.NoMemory) ≡ Ok t = e in cc)))
      by (Err (climbing.Stuck t)) is = subst AllocsWell is ends_well
      by (Err (climbing.Stopped o)) is = subst AllocsWell is ends_well

    numbered : IsFromCaches index x q d a then_d
    numbered = by (focus_at was index j stands.0 (of_stock d d.selected c found None held []) stands.1) a refl

  from_caches : IsFromCaches index x q d a then_d
  from_caches = elim (cases_lt 0 q.size) [
    | inl some ↦ told some (cache_for level q.size) refl (cached_by_number d.tree index x q held.tree here plain some)
    | inr none ↦ nothing_asked (omega (arith, none))
  ]
    where
      told : 0 < q.size → (o : Option ℕ) → cache_for level q.size ≡ o → MatchOption o (¬ IsCachedIn x q) (λ n. IsCachedIn x q × ((cache : ℕ) × (n ≡ cache + 1) × (rounding_of x.quantum q.size ≡ (cache + 1) * x.quantum))) → IsFromCaches index x q d a then_d
      told some None is by = absurd (by cached)
      told some (Some n) is by = numbered some by.1.0 (is ∙ ap (λ (z : ℕ). Some z) by.1.1) by.1.2

pub alloc_from_caches : AllocFromCaches
alloc_from_caches d index x q s a held here plain cached run =
    let c = there_is (find (is_cpu d.selected) d.cpus) held.cpus.there in
    from_caches d index x q s held here c.0 c.1 plain a (subst (λ (z : LocalState). RunsTo d.tree (alloc_plan (chain_in d.tree index) q.size) z s a) (parts_are d c.0 c.1) run) cached
