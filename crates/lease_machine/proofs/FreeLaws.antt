-- What is freed goes back.
-- up the chain
use Rattle.arena_tree.specs.Climbs.{ReturnEnd, on_free, return_left, return_plan}
use Rattle.arena_tree.specs.Plans.{Path, Plan}
use Rattle.arena_tree.specs.Trees.{nodes_of}
use Rattle.arena_tree.specs.declared.levels.Level.{Level}
use Rattle.arena_tree.specs.declared.part_faults.GivenFault.TheVariants as giving
use Rattle.arena_tree.specs.declared.trees.TreeArena.{TreeArena}
use Rattle.deed_core.proofs.LawProofs.{mapped, slice_get_mapped, slice_get_one, written}
use Rattle.deed_core.specs.Tag.{Tag}
use Rattle.deed_core.specs.declared.segments.Route.{Route}
use Rattle.deed_core.specs.declared.segments.Route.TheVariants.{Cached, Direct}
use Rattle.lease_machine.proofs.CpuRows.{all_back, all_front, found_then, numbers_stay, others_stay_so, round, with_rows}
use Rattle.lease_machine.proofs.Focus.{Focus, depot_becomes, own_becomes, own_with, slab_becomes, there}
use Rattle.lease_machine.proofs.FreeSteps.{cached_goes_back}
use Rattle.lease_machine.proofs.HeldLaws.{Everywhere, FitsIn, accounted_here, hands_of, held_then, of_stock, own_here, reach, same_setup, shaped_here, shaped_last, there_is}
use Rattle.lease_machine.proofs.Lasting.{all_last, run_lasts, size_stood}
use Rattle.lease_machine.proofs.Shapes.{FitsFor, keeps_fit}
use Rattle.lease_machine.specs.CallLaws.{FreeGoesBack}
use Rattle.lease_machine.specs.Chunks.{AnswersRound, BecomesRound, ComesHome, GoesBack, GoesBackBy, OnSelected, own_or_none, selected_caches}
use Rattle.lease_machine.specs.Held.{parts_in, with_parts}
use Rattle.lease_machine.specs.Moves.{OtherCpusStay, Returns}
use Rattle.lease_machine.specs.Moves.Returns.{rises, stays}
use Rattle.lease_machine.specs.Picture.{NumberedCpu, Picture, SameSetup, is_cpu, IsHeld}
use Rattle.local_calls.specs.Runs.{RunsTo, SoundStep}
use Rattle.local_parts.proofs.LawProofs.{path_seen, plan_conserves, plan_keeps_setup, plan_keeps_stock}
use Rattle.local_parts.specs.Cpus.{CacheIndexes, IsCpuOf, OnOwn, own_index, own_indexes, indexes_from, row_indexes}
use Rattle.local_parts.specs.States.{LocalState}
use Rattle.local_parts.specs.Steps.{IsSetUpAs, LocalStep}
use Rattle.arena_tree.specs.Tags.{wording_of}
use Rattle.magazine_layer.specs.Depots.{DepotState, all_rounds, depot_rounds}
use Rattle.magazine_layer.specs.Magazines.{CpuCacheState, IsSize, cache_rounds}
use Rattle.magazine_layer.specs.declared.rounds.RoundAnswer.TheVariants.{Kept, Refused}
use Rattle.magazine_layer.specs.declared.rounds.RoundOp.TheVariants.{Give}
use Rattle.quantum_cache.proofs.LawProofs.{free_handles}
use Rattle.quantum_cache.specs.Caches.{chain_in}
use Rattle.quantum_cache.specs.Frees.{free_steps, free_cached, free_plan}
use Rattle.slab_layer.proofs.LawProofs.{chunks_are_of_cache}
use Rattle.slab_layer.specs.Cache.{IsChunkOf, chunks_out}
use Rattle.slab_layer.specs.Calls.{PutOf}
use Rattle.std.proofs.Common.{All, AllPairs, Err, List, None, Ok, Option, Result, Some, [], ap, arith, find, inl, inr, length, map, refl, set, slice_get, subst, suc, sym, zero, ℕ, ◌%◌, ◌*◌, ◌++◌, ◌+◌, ◌<◌, ◌∙◌, ◌∷◌, ◌≡◌, ◌≢◌, ◌≤◌}
use Rattle.std.proofs.lemmas.List.{length-map}
use Rattle.std.proofs.lemmas.List.Elements.{All-contains}
use Rattle.std.proofs.lemmas.Option.{slice_get_within}
use Rattle.stock.proofs.LawProofs.{always_out}
use Rattle.stock.specs.OwnCaches.{IsAtIndexesOf, OwnCacheState}
use Rattle.stock.specs.Spaces.{IsCacheAt, QuantumCacheState, SpacePlan, SpaceState, plan_of, plans_of, slab_size_of, with_depot, with_slab}
use Rattle.stock.specs.Steps.{FreeIn, IsOutOf, OnArena}
use Rattle.stock.specs.Stocks.{IsQuantumCache, IsRoundOf, IsStock}
use Rattle.tag_arena.specs.Outcomes.{WasFreed}
use Rattle.arena_tree.specs.declared.part_faults.ReturnFault.TheVariants as returning

pub returns_so : (arenas : List TreeArena) (chain : List Level) (t : Tag) (old new : LocalState) → RunsTo arenas (return_plan chain t) old new (Ok tt) → Returns new.spaces t old.spaces × (new.cpu ≡ old.cpu)
returns_so arenas [] t old new path = absurd (let e : Err (returning.Stuck t) ≡ Ok tt = path.1 in cc)
returns_so arenas (l ∷ up) t old new path = by path.2.step.does.0.0 path.2.step.does.0.1 path.2.step.does.0.2 (λ whole. returns_so arenas up whole path.0 new)
  where
    on : (r : Option Tag) → FreeIn old.spaces t (Ok r) path.0.spaces → OnArena t.arena (λ a b. WasFreed a t r b) old.spaces path.0.spaces
    on r is = elim is [
      | inl there ↦ there
      | inr none ↦ absurd (let e : Ok r ≡ Err t = none.1 in cc)
    ]

    by : (r : Result (Option Tag) Tag) → path.1 ≡ wording_of giving.Refused r → FreeIn old.spaces t r path.0.spaces
        → ((whole : Tag) → RunsTo arenas (return_plan up whole) path.0 new (Ok tt) → Returns new.spaces whole path.0.spaces × (new.cpu ≡ path.0.cpu)) → Returns new.spaces t old.spaces × (new.cpu ≡ old.cpu)
    by (Ok None) told is again =
        let rest = subst (λ a. RunsTo arenas (on_free (return_plan up) a) path.0 new (Ok tt)) told path.3 in
        (stays t old.spaces (subst (λ (s : LocalState). OnArena t.arena (λ a b. WasFreed a t None b) old.spaces s.spaces) rest.0 (on None is)), ap (λ (s : LocalState). s.cpu) (sym rest.0) ∙ path.2.step.does.1)
    by (Ok (Some whole)) told is again =
        let rest = subst (λ a. RunsTo arenas (on_free (return_plan up) a) path.0 new (Ok tt)) told path.3 in
        let up_there = again whole rest in
        (rises t whole old.spaces path.0.spaces (on (Some whole) is) up_there.0, up_there.1 ∙ path.2.step.does.1)
    by (Err y) told is again =
        let rest = subst (λ a. RunsTo arenas (on_free (return_plan up) a) path.0 new (Ok tt)) told path.3 in
        absurd (let e : Err (returning.Stuck y) ≡ Ok tt = rest.1 in cc)

-- the indexes of a CPU
at_row : (arena quantum i count j : ℕ) → j < count → slice_get (row_indexes arena quantum i count) j ≡ Some (record { arena = arena; cache = i + j; quantum = quantum })
at_row arena quantum i zero j less = absurd (omega (arith, less))
at_row arena quantum i (suc count) zero less = ap (λ n. Some (record { arena = arena; cache = n; quantum = quantum })) (omega arith)
at_row arena quantum i (suc count) (suc j) less = at_row arena quantum (i + 1) count j (omega (arith, less)) ∙ ap (λ n. Some (record { arena = arena; cache = n; quantum = quantum })) (omega arith)

at_indexes : (n : ℕ) (plans : List SpacePlan) (k : ℕ) (p : SpacePlan) → slice_get plans k ≡ Some p → slice_get (indexes_from n plans) k ≡ Some (row_indexes (n + k) p.quantum 0 (length p.slab_sizes))
at_indexes n [] k p at = absurd (let e : None ≡ Some p = at in cc)
at_indexes n (q ∷ plans) zero p at = let e : Some q ≡ Some p = at in let is : q ≡ p = cc in ap (λ (z : SpacePlan). Some (row_indexes n z.quantum 0 (length z.slab_sizes))) is ∙ ap (λ m. Some (row_indexes m p.quantum 0 (length p.slab_sizes))) (omega arith)
at_indexes n (q ∷ plans) (suc k) p at = at_indexes (n + 1) plans k p at ∙ ap (λ m. Some (row_indexes m p.quantum 0 (length p.slab_sizes))) (omega arith)

-- a CPU of the stock has a cache for each quantum cache
pub focus_at : (s : LocalState) (k j : ℕ) (c : QuantumCacheState) → IsCpuOf s.spaces s.cpu → IsCacheAt s.spaces k j c → Focus s k j
focus_at s k j c of at =
    let p : SpacePlan = plan_of at.space in
    let plan : slice_get (plans_of s.spaces) k ≡ Some p = slice_get_mapped plan_of s.spaces k at.space at.at in
    let indexes : slice_get (own_indexes s.cpu) k ≡ Some (row_indexes k p.quantum 0 (length p.slab_sizes)) = ap (λ ps. slice_get ps k) of ∙ (at_indexes 0 (plans_of s.spaces) k p plan ∙ ap (λ m. Some (row_indexes m p.quantum 0 (length p.slab_sizes))) (omega arith)) in
    let row = mapped (map own_index) s.cpu k (row_indexes k p.quantum 0 (length p.slab_sizes)) indexes in
    let within : j < length at.space.caches = slice_get_within at.space.caches j c at.among in
    let index : slice_get (map own_index row.0) j ≡ Some (record { arena = k; cache = j; quantum = p.quantum }) = ap (λ ps. slice_get ps j) (sym row.2) ∙ (at_row k p.quantum 0 (length p.slab_sizes) j (omega (arith, within, length-map at.space.caches slab_size_of)) ∙ ap (λ n. Some (record { arena = k; cache = n; quantum = p.quantum })) (omega arith)) in
    let own = mapped own_index row.0 j (record { arena = k; cache = j; quantum = p.quantum }) index in
    record {
      space = at.space;
      at = at.at;
      cache = c;
      among = at.among;
      row = row.0;
      row_at = row.1;
      own = own.0;
      own_at = own.1;
      arena = ap (λ (x : CacheIndexes). x.arena) (sym own.2);
      number = ap (λ (x : CacheIndexes). x.cache) (sym own.2);
      quantum = ap (λ (x : CacheIndexes). x.quantum) (sym own.2);
    }

-- where one cache became another, all are so if that one is
pub there_all : (Q : OwnCacheState → Type 0) (s : LocalState) (k j : ℕ) (f : Focus s k j) (y : CpuCacheState) (q : QuantumCacheState) → Everywhere Q s.cpu → Q (own_with s k j f y) → Everywhere Q (there s k j f y q).cpu
there_all Q s k j f y q each one i m row o at among = elim (written s.cpu k i (set f.row j (own_with s k j f y)) row at) [
  | inl here ↦
      elim (written f.row j m (own_with s k j f y) o (ap (λ r. slice_get r m) (sym here.1) ∙ among)) [
        | inl is ↦ subst Q (sym is.1) one
        | inr other ↦ each k m f.row o f.row_at other.1
      ]
  | inr other ↦ each i m row o other.1 among
]

-- a chunk that is out is one of its cache's rounds
pub out_round : (spaces : List SpaceState) (k j : ℕ) (t : Tag) (out : IsOutOf spaces j t) → IsStock spaces → t.arena ≡ k → IsRoundOf k (j + 1) out.at.space.arena.quantum t
out_round spaces k j t out law here =
    let is = (law t.arena out.at.space out.at.at).caches j out.cache out.at.among in
    let mine = (chunks_are_of_cache out.cache.slab is.sound).0 in
    let chunk = All-contains (IsChunkOf out.cache.slab) (chunks_out out.cache.slab) t mine out.mine in
    record {
      from = here;
      by = chunk.by ∙ ap Cached is.k;
      len = chunk.len ∙ (ap (λ n. n * out.cache.slab.quantum) is.k ∙ ap (λ n. (j + 1) * n) is.quantum_is);
      grid = subst (λ n. t.holding.range.base % n ≡ 0) is.quantum_is chunk.grid;
      end = chunk.end;
    }

-- the same parts are those of the selected CPU
module _ (d : Picture) (c : NumberedCpu) (found : find (is_cpu d.selected) d.cpus ≡ Some c) where
  pub selected_is : selected_caches d ≡ c.caches
  selected_is = ap own_or_none found

  pub parts_are : parts_in d ≡ record { spaces = d.spaces; cpu = c.caches }
  parts_are = λ i. record { spaces = d.spaces; cpu = selected_is i }

  pub selected_then : (s : LocalState) → selected_caches (with_parts s d) ≡ s.cpu
  selected_then s = ap own_or_none (found_then d.selected s.cpu d.cpus c found)

  pub others_are : (s : LocalState) → OtherCpusStay d (with_parts s d)
  others_are s = record { numbers = numbers_stay d.selected s.cpu d.cpus; others = others_stay_so d.selected s.cpu d.cpus }

  -- where the CPU's caches are as they were
  pub cpus_same : AllPairs (λ a b. a.number ≢ b.number) d.cpus → (s : LocalState) → s.cpu ≡ c.caches → (with_parts s d).cpus ≡ d.cpus
  cpus_same apart s same =
      let r = round d.selected s.cpu d.cpus c found apart in
      r.then_is ∙ (ap (λ rows. r.front ++ with_rows rows c ∷ r.back) same ∙ sym r.is)

  pub on_selected : (s : LocalState) (k j : ℕ) (P : CpuCacheState → CpuCacheState → Type 0) → OnOwn k j (λ o p. IsAtIndexesOf o p × P o.cpu p.cpu) c.caches s.cpu → OnSelected k j P d (with_parts s d)
  on_selected s k j P on = record {
    others = others_are s;
    own = subst (λ rows. OnOwn k j (λ o p. IsAtIndexesOf o p × P o.cpu p.cpu) rows (selected_caches (with_parts s d))) (sym selected_is) (subst (λ rows. OnOwn k j (λ o p. IsAtIndexesOf o p × P o.cpu p.cpu) c.caches rows) (sym (selected_then s)) on);
  }

-- a run over those parts, as one of local steps
pub seen : {A : Type 0} (arenas : List TreeArena) (p : Plan A) (old new : LocalState) (a : A) → RunsTo arenas p old new a → Path LocalStep p old new a
seen {A} arenas p old new a path = path_seen A LocalState (λ s. s) (SoundStep (nodes_of arenas)) (λ s t e x step. step.step) p old new a path

-- what a CPU's caches are before
pub fits_before : (d : Picture) (n : ℕ) (c : NumberedCpu) (found : find (is_cpu n) d.cpus ≡ Some c) (hand : Option Tag) (held : IsHeld (hands_of hand) d) (new : List SpaceState) → all_last new ≡ all_last d.spaces → Everywhere (FitsIn new) c.caches
fits_before d n c found hand held new last k j row o at among = record {
  shaped = shaped_last d.spaces new last o (shaped_here d n c found hand held [] k j row o at among);
  rounds = (own_here d n c found hand held [] k j row o at among).own.rounds;
}

-- the magazines at a focus fit their depot, and after they moved fit it again
module _ (s : LocalState) (k j : ℕ) (f : Focus s k j) (law : IsStock s.spaces) (fits : FitsIn s.spaces f.own) where
  abbrev pub Round_ : Tag → Type 0
  Round_ = IsRoundOf k (j + 1) f.own.quantum

  depot_is : IsQuantumCache k (j + 1) f.space.arena.quantum f.cache
  depot_is = (law k f.space f.at).caches j f.cache f.among

  pub focus_fits : FitsFor Round_ f.cache.depot.size f.own.cpu
  focus_fits = record {
    shape = fits.shaped.shape;
    most = fits.shaped.most f.cache (subst (λ i. IsCacheAt s.spaces i f.own.cache f.cache) (sym f.arena) (subst (λ i. IsCacheAt s.spaces k i f.cache) (sym f.number) (record { space = f.space; at = f.at; among = f.among })));
    rounds = subst (λ i. All (IsRoundOf i (j + 1) f.own.quantum) (cache_rounds f.own.cpu)) f.arena (subst (λ i. All (IsRoundOf f.own.arena (i + 1) f.own.quantum) (cache_rounds f.own.cpu)) f.number fits.rounds);
  }

  pub depot_sized : IsSize f.cache.depot.size
  depot_sized = depot_is.depot.sized

  pub depot_fulls : All Round_ (all_rounds f.cache.depot.full)
  depot_fulls =
      let all = subst (λ q. All (IsRoundOf k (j + 1) q) (depot_rounds f.cache.depot)) (sym f.quantum) depot_is.rounds in
      all_front Round_ (all_rounds f.cache.depot.full) f.cache.depot.draining (all_back Round_ (all_rounds f.cache.depot.old_full) (all_rounds f.cache.depot.full ++ f.cache.depot.draining) all)

  pub fits_again : (y : CpuCacheState) (new : List SpaceState) → all_last new ≡ all_last s.spaces → FitsFor Round_ f.cache.depot.size y → FitsIn new (own_with s k j f y)
  fits_again y new last is = record {
    shaped = record {
      shape = is.shape;
      most = λ c at. (
          let x = size_stood s.spaces new last f.own.arena f.own.cache c at in
          let there : IsCacheAt s.spaces k j x.0 = subst (λ i. IsCacheAt s.spaces k i x.0) f.number (subst (λ i. IsCacheAt s.spaces i f.own.cache x.0) f.arena x.1) in
          let space : there.space ≡ f.space = slice_get_one s.spaces k there.space f.space there.at f.at in
          let same : x.0 ≡ f.cache = slice_get_one f.space.caches j x.0 f.cache (ap (λ (z : SpaceState). slice_get z.caches j) (sym space) ∙ there.among) f.among in
          subst (λ m. y.size ≤ m) (ap (λ (z : QuantumCacheState). z.depot.size) (sym same) ∙ x.2) is.most
          );
    };
    rounds = subst (λ i. All (IsRoundOf i (f.own.cache + 1) f.own.quantum) (cache_rounds y)) (sym f.arena) (subst (λ i. All (IsRoundOf k (i + 1) f.own.quantum) (cache_rounds y)) (sym f.number) is.rounds);
  }

module _ (d : Picture) (t : Tag) (s : LocalState) (held : IsHeld (t ∷ []) d) (c : NumberedCpu) (found : find (is_cpu d.selected) d.cpus ≡ Some c) (run : RunsTo d.tree (free_plan (chain_in d.tree t.arena) t) (reach d d.selected c found (Some t) held) s (Ok tt)) where
  abbrev was : LocalState
  was = reach d d.selected c found (Some t) held

  abbrev plan : Plan ReturnEnd
  plan = free_plan (chain_in d.tree t.arena) t

  abbrev Goal : Type 0
  Goal = GoesBack t d (with_parts s d) × IsHeld [] (with_parts s d) × SameSetup d (with_parts s d)

  last : all_last s.spaces ≡ all_last d.spaces
  last = run_lasts d.tree plan was s (Ok tt) run

  setup : IsSetUpAs was s
  setup = plan_keeps_setup ReturnEnd plan was s (Ok tt) (seen d.tree plan was s (Ok tt) run)

  kept : Everywhere (FitsIn s.spaces) s.cpu → IsHeld [] (with_parts s d) × SameSetup d (with_parts s d)
  kept fits =
      let path = seen d.tree plan was s (Ok tt) run in
      let law = plan_keeps_stock ReturnEnd plan was s (Ok tt) path held.units.parts in
      let conserves = plan_conserves ReturnEnd return_left plan (Some t) (free_handles (chain_in d.tree t.arena) t) was s (Ok tt) path in (
        held_then d d.selected c found (Some t) held s None law conserves setup last fits,
        same_setup d d.selected c found (Some t) held s None law conserves setup last fits,
      )

  direct : t.route ≡ Direct → Goal
  direct route =
      let path = subst (λ r. RunsTo d.tree (free_steps r (chain_in d.tree t.arena) t) was s (Ok tt)) route run in
      let back = returns_so d.tree (chain_in d.tree t.arena) t was s path in
      let by : GoesBackBy Direct t d (with_parts s d) = (back.0, cpus_same d c found held.cpus.numbers s back.1) in
      let fits = subst (λ rows. Everywhere (FitsIn s.spaces) rows) (sym back.1) (fits_before d d.selected c found (Some t) held s.spaces last) in
      (((refl, refl), subst (λ r. GoesBackBy r t d (with_parts s d)) (sym route) by), (kept fits).0, (kept fits).1)

  cached : (number : ℕ) → t.route ≡ Cached number → Goal
  cached number route =
      let accounted = accounted_here d d.selected c found (Some t) held in
      let out = always_out d.spaces t number _ accounted route in
      let j : ℕ = out.0 in
      let k : ℕ = t.arena in
      let f : Focus was k j = focus_at was k j out.2.cache (of_stock d d.selected c found (Some t) held []) out.2.at in
      let own_fits : FitsIn d.spaces f.own = fits_before d d.selected c found (Some t) held d.spaces refl k j f.row f.own f.row_at f.own_at in
      let all_fit = fits_before d d.selected c found (Some t) held s.spaces last in
      let law : IsStock d.spaces = held.units.parts in
      let round : IsRoundOf k (j + 1) f.own.quantum t = subst (λ q. IsRoundOf k (j + 1) q t) (sym f.quantum) (subst (λ (z : SpaceState). IsRoundOf k (j + 1) z.arena.quantum t) (slice_get_one d.spaces k out.2.at.space f.space out.2.at.at f.at) (out_round d.spaces k j t out.2 law refl)) in
      let stands : IsCacheAt d.spaces k j f.cache = record { space = f.space; at = f.at; among = f.among } in
      let path : RunsTo d.tree (free_cached k (j + 1) t) was s (Ok tt) = subst (λ m. RunsTo d.tree (free_cached k m t) was s (Ok tt)) out.1 (subst (λ r. RunsTo d.tree (free_steps r (chain_in d.tree k) t) was s (Ok tt)) route run) in
      let fitting = focus_fits was k j f law own_fits in
      elim (cached_goes_back d.tree was k j f t round own_fits.shaped.shape.sized s path) [
        | inl keeps ↦
            let y : CpuCacheState = keeps.0 in
            let e : DepotState = keeps.1 in
            let on = own_becomes was k j f (AnswersRound (Give t) Kept f.cache.depot e) y s.cpu (ap (λ (z : LocalState). z.cpu) keeps.2) keeps.3 in
            let becomes : BecomesRound k j f.cache t d (with_parts s d) = (e, on_selected d c found s k j (AnswersRound (Give t) Kept f.cache.depot e) on, depot_becomes was k j f (λ a b. b ≡ e) e s.spaces (ap (λ (z : LocalState). z.spaces) keeps.2) refl) in
            let by : GoesBackBy (Cached number) t d (with_parts s d) = (j, f.cache, out.1, stands, inl becomes) in
            let moved = keeps_fit (Round_ was k j f law own_fits) f.cache.depot.size t f.own.cpu y f.cache.depot e refl (depot_sized was k j f law own_fits) round fitting keeps.3 in
            let fits = subst (λ (z : LocalState). Everywhere (FitsIn s.spaces) z.cpu) (sym keeps.2) (there_all (FitsIn s.spaces) was k j f y (with_depot e f.cache) all_fit (fits_again was k j f law own_fits y s.spaces last moved)) in
            (((refl, refl), subst (λ r. GoesBackBy r t d (with_parts s d)) (sym route) by), (kept fits).0, (kept fits).1)
        | inr home ↦
            let on = own_becomes was k j f (AnswersRound (Give t) (Refused t) f.cache.depot f.cache.depot) f.own.cpu s.cpu (ap (λ (z : LocalState). z.cpu) home.1) home.2 in
            let comes : ComesHome k j f.cache t d (with_parts s d) = (on_selected d c found s k j (AnswersRound (Give t) (Refused t) f.cache.depot f.cache.depot) on, slab_becomes was k j f (λ a b. PutOf a t (Ok tt) b) home.0 s.spaces (ap (λ (z : LocalState). z.spaces) home.1) home.3) in
            let by : GoesBackBy (Cached number) t d (with_parts s d) = (j, f.cache, out.1, stands, inr comes) in
            let fits = subst (λ (z : LocalState). Everywhere (FitsIn s.spaces) z.cpu) (sym home.1) (there_all (FitsIn s.spaces) was k j f f.own.cpu (with_slab home.0 f.cache) all_fit (fits_again was k j f law own_fits f.own.cpu s.spaces last fitting)) in
            (((refl, refl), subst (λ r. GoesBackBy r t d (with_parts s d)) (sym route) by), (kept fits).0, (kept fits).1)
      ]

  pub freed : Goal
  freed = by t.route refl
    where
      by : (r : Route) → t.route ≡ r → Goal
      by Direct route = direct route
      by (Cached number) route = cached number route

pub free_goes_back : FreeGoesBack
free_goes_back d t s held run =
    let c = there_is (find (is_cpu d.selected) d.cpus) held.cpus.there in
    freed d t s held c.0 c.1 (subst (λ (z : LocalState). RunsTo d.tree (free_plan (chain_in d.tree t.arena) t) z s (Ok tt)) (parts_are d c.0 c.1) run)
