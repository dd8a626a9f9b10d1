-- What a drain leaves.
-- each event that a list of steps asks is so
use Rattle.arena_tree.specs.Chains.{Node}
use Rattle.arena_tree.specs.Events.{AddCarve, AnswerTo, Carve, Change, DepotReap, Event, Free, Pop, Push, SlabAdd, SlabPut, SlabReap, SlabTake, SwapEmpty, SwapFresh, SwapFull}
use Rattle.arena_tree.specs.Plans.{Ask, Done, Path, Plan, then}
use Rattle.arena_tree.specs.Trees.{nodes_of}
use Rattle.arena_tree.specs.declared.levels.Level.{Level}
use Rattle.arena_tree.specs.declared.part_faults.Stopped.{Stopped}
use Rattle.arena_tree.specs.declared.trees.TreeArena.{TreeArena}
use Rattle.deed_core.proofs.LawProofs.{map_set_same, slice_get_here}
use Rattle.deed_core.specs.Tag.{Tag}
use Rattle.lease_machine.proofs.CpuRows.{rounds_flat}
use Rattle.lease_machine.proofs.FreeLaws.{seen}
use Rattle.lease_machine.proofs.FreshCpus.{fresh_cpu_fits}
use Rattle.lease_machine.proofs.HeldLaws.{Everywhere, FitsIn, accounted_here, everywhere_all, held_then, local, of_stock, others, reach, same_setup}
use Rattle.lease_machine.proofs.Lasting.{all_last, run_lasts}
use Rattle.lease_machine.specs.CallLaws.{DrainGoesOffline, OfflineIsLocal}
use Rattle.lease_machine.specs.Held.{with_caches_of}
use Rattle.lease_machine.specs.Moves.{arena_of, outline_of, outlines_of, slab_outlines}
use Rattle.lease_machine.specs.Operators.{GoesOffline, depots_of, after_renewal}
use Rattle.lease_machine.specs.Picture.{NumberedCpu, IsShapedIn, Picture, SameSetup, fresh_cpu, is_cpu, IsHeld}
use Rattle.local_calls.proofs.LawProofs.{drain_empties_cpu}
use Rattle.local_calls.specs.Runs.{RunsTo, SoundStep}
use Rattle.local_parts.proofs.LawProofs.{plan_conserves, plan_keeps_setup, plan_keeps_stock}
use Rattle.local_parts.specs.Cpus.{HasNoRounds, cpu_rounds, new_cpu}
use Rattle.stock.specs.OwnCaches.{HasNoRound, all_own_rounds, OwnCacheState}
use Rattle.local_parts.specs.States.{Conserves, LocalState}
use Rattle.local_parts.specs.Steps.{IsSetUpAs, LocalStep}
use Rattle.magazine_layer.specs.Depots.{DepotState}
use Rattle.quantum_cache.proofs.LawProofs.{drain_handles}
use Rattle.quantum_cache.specs.Caches.{chain_in, if_ok, over_arenas, over_caches}
use Rattle.quantum_cache.specs.Drains.{DrainEnd, Turn, drain_arena_plan, drain_cache_plan, drain_plan, drain_turn, on_drain_pop, on_put_back, on_turn}
use Rattle.quantum_cache.specs.Frees.{put_chunk}
use Rattle.quantum_cache.specs.Laws.{drain_left}
use Rattle.quantum_cache.specs.Sizes.{caches_in}
use Rattle.slab_layer.specs.Cache.{SlabCacheState}
use Rattle.slab_layer.specs.Calls.{PutOf, StandsAt}
use Rattle.slab_layer.specs.Slab.{SlabState, with_chunk}
use Rattle.slab_layer.specs.declared.faults.PutFault.{PutFault}
use Rattle.std.proofs.Common.{All, Bool, Err, List, None, Ok, Option, Result, Some, [], ap, cond, false, find, flat_map, inl, inr, length, map, refl, set, subst, suc, sym, true, zero, ℕ, ◌++◌, ◌-◌, ◌∙◌, ◌∷◌, ◌≡◌}
use Rattle.std.proofs.lemmas.Bool.Decides.{Decides-eqb}
use Rattle.std.proofs.lemmas.List.Elements.{All-head, All-tail}
use Rattle.stock.specs.Accounts.{Accounts}
use Rattle.stock.specs.Spaces.{QuantumCacheState, SpaceState, with_cache, with_slab}
use Rattle.stock.specs.Steps.{PutIn}
use Rattle.stock.specs.Stocks.{IsStock}
use Rattle.stock_audit.specs.Accounted.{IsOwnIn}
use Rattle.tag_arena.specs.ArenaState.{ArenaState}
use Rattle.slab_layer.specs.declared.faults.PutFault.TheVariants as put_fault

abbrev pub Asks : {A : Type 0} → (Event → Type 0) → Plan A → Type 0
Asks P (Done a) = Unit {0}
Asks P (Ask e f) = P e × ((x : AnswerTo e) → Asks P (f x))

pub asks_then : {A B : Type 0} (P : Event → Type 0) (p : Plan A) (next : A → Plan B) → Asks P p → ((a : A) → Asks P (next a)) → Asks P (then p next)
asks_then P (Done a) next first rest = rest a
asks_then P (Ask e f) next first rest = (first.0, λ x. asks_then P (f x) next (first.1 x) rest)

-- what such events keep, the whole keeps
pub asks_keep : {A X : Type 0} (P : Event → Type 0) (see : LocalState → X) (nodes : List Node) → ((s t : LocalState) (e : Event) (x : AnswerTo e) → P e → SoundStep nodes s e x t → see t ≡ see s) → (p : Plan A) → Asks P p → (old new : LocalState) (a : A) → Path (SoundStep nodes) p old new a → see new ≡ see old
asks_keep P see nodes keeps (Done b) asks old new a path = ap see (sym path.0)
asks_keep P see nodes keeps (Ask e f) asks old new a path = asks_keep P see nodes keeps (f path.1) (asks.1 path.1) path.0 new a path.3 ∙ keeps old path.0 e path.1 asks.0 path.2

-- those of a drain
abbrev IsDraining : Event → Type 0
IsDraining (Pop k c) = Unit {0}
IsDraining (SlabPut t) = Unit {0}
IsDraining (Carve k q) = ⊥
IsDraining _ = ⊥

put_asks : (t : Tag) → Asks IsDraining (put_chunk t)
unfolding put_chunk
put_asks t = (tt, λ x. tt)

turn_asks : (k c : ℕ) → Asks IsDraining (drain_turn k c)
unfolding drain_turn
turn_asks k c = (tt, λ x. by x)
  where
    by : (x : Result (Option Tag) Stopped) → Asks IsDraining (on_drain_pop x)
    by (Ok None) = tt
    by (Ok (Some t)) = asks_then IsDraining (put_chunk t) (λ r. Done (on_put_back r)) (put_asks t) (λ r. tt)
    by (Err e) = tt

cache_asks : (turns k c : ℕ) → Asks IsDraining (drain_cache_plan turns k c)
cache_asks zero k c = tt
cache_asks (suc turns) k c = asks_then IsDraining (drain_turn k c) (on_turn (drain_cache_plan turns k c)) (turn_asks k c) (λ r. by r (cache_asks turns k c))
  where
    by : (r : Turn) → Asks IsDraining (drain_cache_plan turns k c) → Asks IsDraining (on_turn (drain_cache_plan turns k c) r)
    by None more = more
    by (Some r) more = tt

if_asks : {X F : Type 0} (next : X → Plan (Result X F)) → ((x : X) → Asks IsDraining (next x)) → (r : Result X F) → Asks IsDraining (if_ok next r)
if_asks next each (Ok x) = each x
if_asks next each (Err f) = tt

caches_ask : (turns k all left : ℕ) (u : Unit {0}) → Asks IsDraining (over_caches (λ cache (u : Unit {0}). drain_cache_plan turns k cache) all left u)
caches_ask turns k all zero u = tt
caches_ask turns k all (suc left) u = asks_then IsDraining (drain_cache_plan turns k (all - left)) (if_ok (over_caches (λ cache (u : Unit {0}). drain_cache_plan turns k cache) all left)) (cache_asks turns k (all - left)) (λ r. if_asks (over_caches (λ cache (u : Unit {0}). drain_cache_plan turns k cache) all left) (λ v. caches_ask turns k all left v) r)

arena_asks : (turns : ℕ) (chain : List Level) → Asks IsDraining (drain_arena_plan turns chain)
arena_asks turns [] = tt
arena_asks turns (l ∷ up) = caches_ask turns l.id (caches_in l) (caches_in l) tt

arenas_ask : (turns : ℕ) (arenas : List TreeArena) (n : ℕ) (u : Unit {0}) → Asks IsDraining (over_arenas (λ id (u : Unit {0}). drain_arena_plan turns (chain_in arenas id)) n u)
arenas_ask turns arenas zero u = tt
arenas_ask turns arenas (suc id) u = asks_then IsDraining (drain_arena_plan turns (chain_in arenas id)) (if_ok (over_arenas (λ id (u : Unit {0}). drain_arena_plan turns (chain_in arenas id)) id)) (arena_asks turns (chain_in arenas id)) (λ r. if_asks (over_arenas (λ id (u : Unit {0}). drain_arena_plan turns (chain_in arenas id)) id) (λ v. arenas_ask turns arenas id v) r)

drain_asks : (turns : ℕ) (arenas : List TreeArena) → Asks IsDraining (drain_plan turns arenas)
drain_asks turns arenas = arenas_ask turns arenas (length arenas) tt

-- what a put keeps
pub record Still : Type 0 where
  pub arena : ArenaState
  pub slabs : List SlabCacheState
  pub depots : List DepotState

abbrev still : SpaceState → Still
still s = record { arena = s.arena; slabs = outlines_of s; depots = depots_of s }

outlines_put : (i j : ℕ) (s : SlabState) (slabs : List SlabState) → StandsAt i s slabs → map outline_of (set slabs i (with_chunk s j true)) ≡ map outline_of slabs
outlines_put i j s slabs stands =
    map_set_same outline_of slabs i s (with_chunk s j true) (slice_get_here slabs i s stands.within (sym stands.is)) refl

pub put_outline : (t : Tag) (r : Result (Unit {0}) (PutFault Tag)) (a b : SlabCacheState) → PutOf a t r b → record b { slabs = map outline_of b.slabs } ≡ record a { slabs = map outline_of a.slabs }
put_outline t (Ok u) a b is =
    let puts = is.3 in
    ap (λ (z : SlabCacheState). record z { slabs = map outline_of z.slabs }) puts.after ∙ ap (λ ss. record a { slabs = ss }) (outlines_put is.0 is.1 is.2 a.slabs puts.chunk.stands)
put_outline t (Err (put_fault.AtHome y)) a b is = ap (λ (z : SlabCacheState). record z { slabs = map outline_of z.slabs }) is.1.unchanged
put_outline t (Err (put_fault.NotMine y)) a b is = ap (λ (z : SlabCacheState). record z { slabs = map outline_of z.slabs }) is.2.unchanged

put_still : (t : Tag) (r : Result (Unit {0}) (PutFault Tag)) (old new : List SpaceState) → PutIn old t r new → map still new ≡ map still old
put_still t r old new is = elim is [
  | inl on ↦
      let o = on.2 in
      let same = put_outline t r o.cache.slab o.slab o.does in
      let slabs : map slab_outlines (set o.space.caches on.0 (with_slab o.slab o.cache)) ≡ map slab_outlines o.space.caches = map_set_same slab_outlines o.space.caches on.0 o.cache (with_slab o.slab o.cache) o.among same in
      let depots : map (λ (c : QuantumCacheState). c.depot) (set o.space.caches on.0 (with_slab o.slab o.cache)) ≡ map (λ (c : QuantumCacheState). c.depot) o.space.caches = map_set_same (λ (c : QuantumCacheState). c.depot) o.space.caches on.0 o.cache (with_slab o.slab o.cache) o.among refl in
      ap (map still) o.after ∙ map_set_same still old t.arena o.space (with_cache on.0 (with_slab o.slab o.cache) o.space) o.at (λ i. record { arena = o.space.arena; slabs = slabs i; depots = depots i })
  | inr out ↦ ap (map still) out.2
]

draining_still : (nodes : List Node) (s t : LocalState) (e : Event) (x : AnswerTo e) → IsDraining e → SoundStep nodes s e x t → map still t.spaces ≡ map still s.spaces
draining_still nodes s t (Pop k c) x is step = elim step.step.does.2 [
  | inl on ↦ ap (map still) on.0
  | inr none ↦ ap (map still) none.2.spaces
]
draining_still nodes s t (SlabPut y) x is step = put_still y step.step.does.0.0 s.spaces t.spaces step.step.does.0.2
draining_still nodes s t (Carve k q) x is step = absurd is
draining_still nodes s t (Free y) x is step = absurd is
draining_still nodes s t (AddCarve k y n) x is step = absurd is
draining_still nodes s t (SlabTake k c) x is step = absurd is
draining_still nodes s t (SlabAdd k c y) x is step = absurd is
draining_still nodes s t (SlabReap k c) x is step = absurd is
draining_still nodes s t (SwapFull k c) x is step = absurd is
draining_still nodes s t (SwapEmpty k c) x is step = absurd is
draining_still nodes s t (SwapFresh k c) x is step = absurd is
draining_still nodes s t (DepotReap k c) x is step = absurd is
draining_still nodes s t (Push k c y) x is step = absurd is
draining_still nodes s t (Change k c size) x is step = absurd is

arenas_still : (spaces : List SpaceState) → map arena_of spaces ≡ map (λ (x : Still). x.arena) (map still spaces)
arenas_still [] = refl
arenas_still (s ∷ spaces) = ap (λ xs. s.arena ∷ xs) (arenas_still spaces)

slabs_still : (spaces : List SpaceState) → map outlines_of spaces ≡ map (λ (x : Still). x.slabs) (map still spaces)
slabs_still [] = refl
slabs_still (s ∷ spaces) = ap (λ xs. outlines_of s ∷ xs) (slabs_still spaces)

depots_still : (spaces : List SpaceState) → map depots_of spaces ≡ map (λ (x : Still). x.depots) (map still spaces)
depots_still [] = refl
depots_still (s ∷ spaces) = ap (λ xs. depots_of s ∷ xs) (depots_still spaces)

-- a CPU with no round has none
no_rounds : (cpu : List (List OwnCacheState)) → HasNoRounds cpu → cpu_rounds cpu ≡ []
no_rounds [] none = refl
no_rounds (row ∷ rows) none = ap (λ ts. ts ++ cpu_rounds rows) (in_row row (All-head (λ r. All HasNoRound r) row rows none)) ∙ no_rounds rows (All-tail (λ r. All HasNoRound r) row rows none)
  where
    in_row : (os : List OwnCacheState) → All HasNoRound os → all_own_rounds os ≡ []
    in_row [] empty = refl
    in_row (o ∷ os) empty =
        let first = All-head HasNoRound o os empty in
        ap (λ ts. ts ++ all_own_rounds os) (ap (λ ts. ts ++ o.cpu.loaded) first.previous_empty ∙ first.loaded_empty) ∙ in_row os (All-tail HasNoRound o os empty)

-- a CPU that begins anew is one with the caches of a new one
renewed_is : (n : ℕ) (spaces : List SpaceState) (cs : List NumberedCpu) → map (after_renewal n spaces) cs ≡ map (with_caches_of n (fresh_cpu n spaces).caches) cs
renewed_is n spaces [] = refl
renewed_is n spaces (x ∷ xs) = ap (λ y. y ∷ map (after_renewal n spaces) xs) (by (is_cpu n x) refl) ∙ ap (λ ys. with_caches_of n (fresh_cpu n spaces).caches x ∷ ys) (renewed_is n spaces xs)
  where
    by : (b : Bool) → is_cpu n x ≡ b → after_renewal n spaces x ≡ with_caches_of n (fresh_cpu n spaces).caches x
    by true is =
        let number : x.number ≡ n = (Decides-eqb x.number n).0 is in
        ap (λ b. cond b (fresh_cpu n spaces) x) is ∙ (ap (λ m. record { number = m; caches = (fresh_cpu n spaces).caches }) (sym number) ∙ sym (ap (λ b. cond b (record { number = x.number; caches = (fresh_cpu n spaces).caches }) x) is))
    by false is = ap (λ b. cond b (fresh_cpu n spaces) x) is ∙ sym (ap (λ b. cond b (record { number = x.number; caches = (fresh_cpu n spaces).caches }) x) is)

module _ (d : Picture) (n : ℕ) (turns : ℕ) (c : NumberedCpu) (s : LocalState) (held : IsHeld [] d) (found : find (is_cpu n) d.cpus ≡ Some c) (run : RunsTo d.tree (drain_plan turns d.tree) (reach d n c found None held) s (Ok tt)) where
  abbrev was : LocalState
  was = reach d n c found None held

  abbrev anew : List (List OwnCacheState)
  anew = (fresh_cpu n d.spaces).caches

  abbrev then_s : LocalState
  then_s = record { spaces = s.spaces; cpu = anew }

  path : Path LocalStep (drain_plan turns d.tree) was s (Ok tt)
  path = seen d.tree (drain_plan turns d.tree) was s (Ok tt) run

  setup : IsSetUpAs was s
  setup = plan_keeps_setup DrainEnd (drain_plan turns d.tree) was s (Ok tt) path

  law : IsStock s.spaces
  law = plan_keeps_stock DrainEnd (drain_plan turns d.tree) was s (Ok tt) path held.units.parts

  rounds_gone : cpu_rounds s.cpu ≡ cpu_rounds anew
  rounds_gone = no_rounds s.cpu (drain_empties_cpu turns d.tree was s (local d n c found None held) run) ∙ sym (rounds_flat anew ∙ fresh_cpu_fits.none d.spaces n)

  conserves : Conserves was None then_s None
  conserves rest accounts = subst (λ ts. Accounts s.spaces (ts ++ rest)) rounds_gone (plan_conserves DrainEnd drain_left (drain_plan turns d.tree) None (drain_handles turns d.tree) was s (Ok tt) path rest accounts)

  set_up : IsSetUpAs was then_s
  set_up = record { plans = setup.plans; indexes = fresh_cpu_fits.of d.spaces n ∙ sym (of_stock d n c found None held []) }

  same_fresh : (fresh_cpu n s.spaces).caches ≡ anew
  same_fresh = ap (new_cpu 3) setup.plans

  fits : Everywhere (FitsIn s.spaces) anew
  fits k j row o at among = record {
    shaped = everywhere_all (IsShapedIn s.spaces) anew (subst (λ rows. All (IsShapedIn s.spaces) (flat_map (λ r. r) rows)) same_fresh (fresh_cpu_fits.shapes s.spaces n law)) k j row o at among;
    rounds = (everywhere_all (IsOwnIn s.spaces) anew (subst (λ rows. All (IsOwnIn s.spaces) (flat_map (λ r. r) rows)) same_fresh (fresh_cpu_fits.own s.spaces n law)) k j row o at among).own.rounds;
  }

  last : all_last s.spaces ≡ all_last d.spaces
  last = run_lasts d.tree (drain_plan turns d.tree) was s (Ok tt) run

  same_still : map still s.spaces ≡ map still d.spaces
  same_still = asks_keep IsDraining (λ z. map still z.spaces) (nodes_of d.tree) (draining_still (nodes_of d.tree)) (drain_plan turns d.tree) (drain_asks turns d.tree) was s (Ok tt) run

  abbrev new : Picture
  new = record d { spaces = s.spaces; cpus = map (after_renewal n d.spaces) d.cpus }

  offline : GoesOffline n d new
  offline = record {
    cpus = refl;
    arenas = record {
      arenas = arenas_still s.spaces ∙ (ap (map (λ (x : Still). x.arena)) same_still ∙ sym (arenas_still d.spaces));
      slabs = slabs_still s.spaces ∙ (ap (map (λ (x : Still). x.slabs)) same_still ∙ sym (slabs_still d.spaces));
    };
    depots = depots_still s.spaces ∙ (ap (map (λ (x : Still). x.depots)) same_still ∙ sym (depots_still d.spaces));
    rest = refl;
  }

  pub drained : GoesOffline n d new × IsHeld [] new × SameSetup d new
  drained =
      let cpus : map (with_caches_of n anew) d.cpus ≡ map (after_renewal n d.spaces) d.cpus = sym (renewed_is n d.spaces d.cpus) in
      let held_new = held_then d n c found None held then_s None law conserves set_up last fits in
      let setup_new = same_setup d n c found None held then_s None law conserves set_up last fits in (
        offline,
        subst (λ cs. IsHeld [] (record d { spaces = s.spaces; cpus = cs })) cpus held_new,
        subst (λ cs. SameSetup d (record d { spaces = s.spaces; cpus = cs })) cpus setup_new,
      )

pub drain_goes_offline : DrainGoesOffline
drain_goes_offline d n turns c s held found run = drained d n turns c s held found run

pub offline_is_local : OfflineIsLocal
offline_is_local d n c held found = (local d n c found None held, (others d n c found None held [], accounted_here d n c found None held))
