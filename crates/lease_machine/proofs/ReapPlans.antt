-- A whole reaping in order: arena by arena from the last, cache by cache, rounds and then slabs.
use Rattle.std.proofs.Common.{◌≡◌, ◌≢◌, ℕ, ◌+◌, ◌-◌, ◌*◌, ◌/◌, ◌<◌, ◌≤◌, zero, suc, List, [], ◌∷◌, Option, Some, None, Result, Ok, Err, length, map, set, inl, inr, refl, sym, ap, subst, ◌∙◌, arith}
use Rattle.std.specs.Prelude.{slice_get}
use Rattle.std.proofs.Math.Nat.{div-mul-le_self, mul-le-mul_right}
use Rattle.std.proofs.lemmas.Bool.{cases_lt}
use Rattle.std.proofs.lemmas.List.{length-map, length-replicate}
use Rattle.std.proofs.lemmas.Option.{slice_get_within}
use Rattle.deed_core.specs.Tag.{Tag}
use Rattle.deed_core.specs.declared.segments.Route.TheVariants.{Cached}
use Rattle.deed_core.proofs.LawProofs.{mapped, power_some, slice_get_mapped, slice_get_one, slice_get_some}
use Rattle.slab_layer.specs.Cache.{IsSoundCache}
use Rattle.slab_layer.specs.Calls.{PutOf, ReapOf}
use Rattle.slab_layer.specs.declared.faults.PutFault.{PutFault}
use Rattle.slab_layer.specs.declared.faults.PutFault.TheVariants as put_fault
use Rattle.magazine_layer.specs.Calls.{DepotReapOf}
use Rattle.arena_tree.specs.declared.levels.Level.{Level}
use Rattle.arena_tree.specs.declared.limits.TheConstants.{MOST_CACHES}
use Rattle.arena_tree.specs.declared.trees.TreeArena.{TreeArena}
use Rattle.arena_tree.specs.declared.part_faults.Stopped.{Stopped}
use Rattle.arena_tree.specs.declared.part_faults.ReturnFault.TheVariants as returning
use Rattle.arena_tree.specs.Climbs.{ReturnEnd, return_plan}
use Rattle.arena_tree.specs.Events.{SlabReap, DepotReap}
use Rattle.arena_tree.specs.Plans.{Plan, Done, then}
use Rattle.arena_tree.specs.Trees.{IsTree, level_of, nodes_of}
use Rattle.arena_tree.proofs.LawProofs.{path_split}
use Rattle.quantum_cache.specs.declared.emptying_faults.EmptyingFault.TheVariants as emptying
use Rattle.quantum_cache.specs.declared.reaps.Reaping.{Reaping}
use Rattle.quantum_cache.specs.Caches.{chain_in, chain_up, rest_of_chain, over_caches, over_arenas}
use Rattle.quantum_cache.specs.Frees.{on_slab_put, put_chunk}
use Rattle.quantum_cache.specs.Reaps.{LookEnd, on_return, on_depot_reap, reap_round, on_slab_reap, reap_slab, on_look, looks_in_turn, reap_steps, reap_cache, reap_arena_plan, reap_plan}
use Rattle.quantum_cache.specs.Sizes.{caches_in}
use Rattle.stock.specs.Setups.{plan_for, plans_for}
use Rattle.stock.specs.Spaces.{SpaceState, SpacePlan, QuantumCacheState, IsCacheAt, plan_of, plans_of, slab_size_of, with_cache, with_depot, with_slab}
use Rattle.stock.specs.Steps.{OnDepot, OnSlab, PutIn}
use Rattle.stock.specs.Stocks.{IsStock}
use Rattle.local_parts.specs.SharedSteps.{DoesDepotReap, DoesReap}
use Rattle.local_parts.specs.States.{LocalState}
use Rattle.arena_tree.specs.Tags.{wording_of}
use Rattle.local_calls.specs.Runs.{SoundStep, RunsTo}
use Rattle.lease_machine.specs.Moves.{Returns}
use Rattle.lease_machine.specs.Operators.{rounds_to_go, slabs_after_reap, spans_of_cache}
use Rattle.lease_machine.proofs.FreeLaws.{returns_so}
use Rattle.lease_machine.proofs.ReapCaches.{none_goes, round_comes, slab_goes, trimmed}
use Rattle.lease_machine.proofs.ReapOrder.{Front, Went, cache_count, came, front_next, it_became, next_goes, others_stood, front_stays, returns_keep, went_none, went_then}
use Rattle.lease_machine.proofs.ReapWalks.{frees_leave, ok_on}
use Rattle.arena_tree.specs.declared.part_faults.GivenFault.TheVariants as giving

-- the depot of the cache with this number has no round to let go
abbrev NoRounds : ℕ → ℕ → List SpaceState → Type 0
NoRounds k c spaces = (j : ℕ) (x : QuantumCacheState) → c ≡ j + 1 → IsCacheAt spaces k j x → rounds_to_go x.depot ≡ []

same_number : (c i j : ℕ) → c ≡ i + 1 → c ≡ j + 1 → i ≡ j
same_number c i j a b = omega (arith, a, b)

cache_is : (spaces : List SpaceState) (k j : ℕ) (s : SpaceState) (c x : QuantumCacheState) → slice_get spaces k ≡ Some s → slice_get s.caches j ≡ Some c → IsCacheAt spaces k j x → x ≡ c
cache_is spaces k j s c x at among there =
    slice_get_one s.caches j x c (ap (λ (z : SpaceState). slice_get z.caches j) (slice_get_one spaces k s there.space at there.at) ∙ there.among) among

set_twice : {X : Type 0} (xs : List X) (k : ℕ) (x y : X) → set (set xs k x) k y ≡ set xs k y
set_twice [] k x y = refl
set_twice (z ∷ xs) zero x y = refl
set_twice (z ∷ xs) (suc k) x y = ap (λ zs. z ∷ zs) (set_twice xs k x y)

set_here : {X : Type 0} (xs : List X) (k : ℕ) (x y : X) → slice_get xs k ≡ Some x → slice_get (set xs k y) k ≡ Some y
set_here [] k x y at = absurd (let e : None ≡ Some x = at in cc)
set_here (z ∷ xs) zero x y at = refl
set_here (z ∷ xs) (suc k) x y at = set_here xs k x y at

-- what a look does, where nothing goes of what stands before its cache
record LooksSo (k c : ℕ) (old new : List SpaceState) : Type 0 where
  went : Went old new
  front : Front k c new

-- a round was taken out of a depot, and came home
module _ (k c : ℕ) (t : Tag) (old mid new : List SpaceState) (law : IsStock old) (front : Front k c old) (home : t.arena ≡ k) (number : t.route ≡ Cached c) where
  came_home : (j : ℕ) → c ≡ j + 1 → OnDepot k j (λ a b. DepotReapOf a (Some t) b) old mid → (i : ℕ) → t.route ≡ Cached (i + 1) → OnSlab t.arena i (λ a b. PutOf a t (Ok tt) b) mid new → LooksSo k c old new
  came_home j is on i route put = record { went = came old new k j on.space on.cache q on.at on.among whole both.0 both.1; front = front_stays k c j old new is (others_stood old new k j on.space on.cache q on.at on.among whole) front }
    where
      j_is : i ≡ j
      j_is = let e : Cached (i + 1) ≡ Cached c = sym route ∙ number in let n : i + 1 ≡ c = cc in omega (arith, n, is)

      e : QuantumCacheState
      e = with_depot on.depot on.cache

      x : SpaceState
      x = with_cache j e on.space

      here : OnSlab k j (λ a b. PutOf a t (Ok tt) b) mid new
      here = subst (λ n. OnSlab k n (λ a b. PutOf a t (Ok tt) b) mid new) j_is (subst (λ n. OnSlab n i (λ a b. PutOf a t (Ok tt) b) mid new) home put)

      x_at : slice_get mid k ≡ Some x
      x_at = ap (λ zs. slice_get zs k) on.after ∙ set_here old k on.space x on.at

      space_is : here.space ≡ x
      space_is = slice_get_one mid k here.space x here.at x_at

      cache_was : here.cache ≡ e
      cache_was = slice_get_one x.caches j here.cache e (ap (λ (z : SpaceState). slice_get z.caches j) (sym space_is) ∙ here.among) (set_here on.space.caches j on.cache e on.among)

      q : QuantumCacheState
      q = record { slab = here.slab; depot = on.depot }

      whole : new ≡ set old k (with_cache j q on.space)
      whole =
          here.after
          ∙ ((λ n. set (on.after n) k (with_cache j (with_slab here.slab (cache_was n)) (space_is n)))
          ∙ (set_twice old k x (with_cache j q x) ∙ ap (λ cs. set old k (record { arena = on.space.arena; source = on.space.source; caches = cs })) (set_twice on.space.caches j e q)))

      did : PutOf on.cache.slab t (Ok tt) here.slab
      did = subst (λ (z : QuantumCacheState). PutOf z.slab t (Ok tt) here.slab) cache_was here.does

      sound : IsSoundCache on.cache.slab
      sound = ((law k on.space on.at).caches j on.cache on.among).sound

      both : (spans_of_cache q ≡ spans_of_cache on.cache) × (slabs_after_reap q ≡ slabs_after_reap on.cache)
      both = round_comes on.cache on.depot here.slab t did.0 did.1 did.2 sound on.does did.3

-- a chunk that is put came home, where that ends well
put_home : (arenas : List TreeArena) (t : Tag) (mid new : LocalState) (o : Option ℕ) → RunsTo arenas (then (put_chunk t) (λ a. Done (on_return 0 a))) mid new (Ok o)
    → (i : ℕ) × (t.route ≡ Cached (i + 1)) × OnSlab t.arena i (λ a b. PutOf a t (Ok tt) b) mid.spaces new.spaces × IsStock new.spaces × (o ≢ None)
unfolding put_chunk
put_home arenas t mid new o run = subst (λ (z : LocalState). (i : ℕ) × (t.route ≡ Cached (i + 1)) × OnSlab t.arena i (λ a b. PutOf a t (Ok tt) b) mid.spaces z.spaces × IsStock z.spaces × (o ≢ None)) run.3.0 (by run.2.step.does.0.0 run.2.step.does.0.1 run.2.step.does.0.2)
  where
    by : (r : Result (Unit {0}) (PutFault Tag)) → run.1 ≡ wording_of giving.Refused r → PutIn mid.spaces t r run.0.spaces → (i : ℕ) × (t.route ≡ Cached (i + 1)) × OnSlab t.arena i (λ a b. PutOf a t (Ok tt) b) mid.spaces run.0.spaces × IsStock run.0.spaces × (o ≢ None)
    by (Ok u) told (inl (i, route, on)) = (
      i,
      route,
      on,
      run.2.step.stock,
      λ none. (
          let e : Ok (Some zero) ≡ Ok o = sym (ap (λ a. on_return 0 (on_slab_put a)) told) ∙ run.3.1 in
          let f : Some zero ≡ None = (let g : Some zero ≡ o = cc in g ∙ none) in
          cc
          ),
    )
    by (Ok u) told (inr none) = absurd (let e : Ok u ≡ Err (put_fault.NotMine t) = none.1 in cc)
    by (Err (put_fault.NotMine y)) told put = absurd (let e : Err (emptying.Stuck y) ≡ Ok o = sym (ap (λ a. on_return 0 (on_slab_put a)) told) ∙ run.3.1 in cc)
    by (Err (put_fault.AtHome y)) told put = absurd (let e : Err (emptying.Stuck y) ≡ Ok o = sym (ap (λ a. on_return 0 (on_slab_put a)) told) ∙ run.3.1 in cc)

module _ (arenas : List TreeArena) (k c : ℕ) where
  -- a look at a depot
  abbrev RoundLook : LocalState → LocalState → Option ℕ → Type 0
  RoundLook old new o = LooksSo k c old.spaces new.spaces × IsStock new.spaces × (o ≡ None → NoRounds k c new.spaces)

  round_look : (old new : LocalState) (o : Option ℕ) → IsStock old.spaces → Front k c old.spaces → RunsTo arenas (reap_round k c) old new (Ok o) → RoundLook old new o
  unfolding reap_round
  round_look old new o law front path = looked path.1 path.2 path.3
    where
      mid : LocalState
      mid = path.0

      none : IsStock mid.spaces → DoesDepotReap old.spaces k c (Ok None) mid.spaces → RoundLook old mid o
      none stock (r, told, inl (j, number, on)) =
          let nothing : r ≡ None = (let e : Ok None ≡ Ok r = told in cc) in
          let did : DepotReapOf on.cache.depot None on.depot = subst (λ z. DepotReapOf on.cache.depot z on.depot) nothing on.does in
          let d : QuantumCacheState = with_depot on.depot on.cache in
          let so = trimmed on.cache on.depot did in (
            record {
              went = came old.spaces mid.spaces k j on.space on.cache d on.at on.among on.after so.0 so.1;
              front = front_stays k c j old.spaces mid.spaces number (others_stood old.spaces mid.spaces k j on.space on.cache d on.at on.among on.after) front;
            },
            stock,
            λ is i x also there. (
                let here : IsCacheAt mid.spaces k j x = subst (λ n. IsCacheAt mid.spaces k n x) (same_number c i j also number) there in
                ap (λ (z : QuantumCacheState). rounds_to_go z.depot) (it_became old.spaces mid.spaces k j on.space on.cache d on.at on.among on.after x here) ∙ so.2
                ),
          )
      none stock (r, told, inr (nowhere, (is, same))) = (
        record { went = went_none old.spaces mid.spaces same; front = subst (Front k c) (sym same) front },
        stock,
        λ e i x also there. absurd (nowhere i also (x, subst (λ zs. IsCacheAt zs k i x) same there)),
      )

      taken : (t : Tag) → DoesDepotReap old.spaces k c (Ok (Some t)) mid.spaces → (j : ℕ) × (c ≡ j + 1) × OnDepot k j (λ a b. DepotReapOf a (Some t) b) old.spaces mid.spaces
      taken t (r, told, inl (j, number, on)) = let some : r ≡ Some t = (let e : Ok (Some t) ≡ Ok r = told in cc) in (j, number, subst (λ z. OnDepot k j (λ a b. DepotReapOf a z b) old.spaces mid.spaces) some on)
      taken t (r, told, inr (nowhere, (is, same))) = absurd (let e : Ok (Some t) ≡ Ok r = told in let f : Some t ≡ r = cc in let n : Some t ≡ None = f ∙ is in cc)

      looked : (x : Result (Option Tag) Stopped) → SoundStep (nodes_of arenas) old (DepotReap k c) x mid → RunsTo arenas (on_depot_reap x) mid new (Ok o) → RoundLook old new o
      looked (Err e) step rest = absurd (let x : Err e ≡ Ok step.step.does.0.0 = step.step.does.0.1 in cc)
      looked (Ok None) step rest = subst (λ (z : LocalState). RoundLook old z o) rest.0 (none step.step.stock step.step.does.0)
      looked (Ok (Some t)) step rest =
          let from = taken t step.step.does.0 in
          let home = put_home arenas t mid new o rest in (
            came_home k c t old.spaces mid.spaces new.spaces law front step.sound.of_arena step.sound.cached from.0 from.1 from.2 home.0 home.1 home.2,
            home.3,
            λ is. absurd (home.4 is),
          )

  -- a look at slabs, once no round is left to come
  record SlabsSo (spaces : List SpaceState) : Type 0 where
    front : Front k c spaces
    rounds : NoRounds k c spaces

  abbrev SlabLook : LocalState → LocalState → Option ℕ → Type 0
  SlabLook old new o = Went old.spaces new.spaces × IsStock new.spaces × SlabsSo new.spaces × (o ≡ None → Front k (c + 1) new.spaces)

  module _ (chain : List Level) where
    slab_look : (old new : LocalState) (o : Option ℕ) → IsStock old.spaces → SlabsSo old.spaces → RunsTo arenas (reap_slab chain k c) old new (Ok o) → SlabLook old new o
    unfolding reap_slab
    slab_look old new o law so path = looked path.1 path.2 path.3
      where
        mid : LocalState
        mid = path.0

        none : IsStock mid.spaces → DoesReap old.spaces k c (Ok None) mid.spaces → SlabLook old mid o
        none stock (r, told, inl (j, number, on)) =
            let nothing : r ≡ None = (let e : Ok None ≡ Ok r = told in cc) in
            let did : ReapOf on.cache.slab None on.slab = subst (λ z. ReapOf on.cache.slab z on.slab) nothing on.does in
            let d : QuantumCacheState = with_slab on.slab on.cache in
            let same : d ≡ on.cache = ap (λ z. with_slab z on.cache) did.1 in
            let bare : rounds_to_go on.cache.depot ≡ [] = so.rounds j on.cache number (record { space = on.space; at = on.at; among = on.among }) in
            let no_span : spans_of_cache d ≡ [] = ap spans_of_cache same ∙ (none_goes on.cache bare did.0).0 in
            let is_d : (i : ℕ) (x : QuantumCacheState) → c ≡ i + 1 → IsCacheAt mid.spaces k i x → x ≡ d =
            λ i x also there. it_became old.spaces mid.spaces k j on.space on.cache d on.at on.among on.after x (subst (λ n. IsCacheAt mid.spaces k n x) (same_number c i j also number) there) in
            let front : Front k c mid.spaces = front_stays k c j old.spaces mid.spaces number (others_stood old.spaces mid.spaces k j on.space on.cache d on.at on.among on.after) so.front in (
              came old.spaces mid.spaces k j on.space on.cache d on.at on.among on.after (ap spans_of_cache same) (ap slabs_after_reap same),
              stock,
              record { front = front; rounds = λ i x also there. ap (λ (z : QuantumCacheState). rounds_to_go z.depot) (is_d i x also there) ∙ bare },
              λ is. front_next k c mid.spaces front (λ i x also there. ap spans_of_cache (is_d i x also there) ∙ no_span),
            )
        none stock (r, told, inr (nowhere, (is, same))) =
            let so_now : SlabsSo mid.spaces = subst SlabsSo (sym same) so in (
              went_none old.spaces mid.spaces same,
              stock,
              so_now,
              λ e. front_next k c mid.spaces so_now.front (λ i x also there. absurd (nowhere i also (x, subst (λ zs. IsCacheAt zs k i x) same there))),
            )

        taken : (t : Tag) → DoesReap old.spaces k c (Ok (Some t)) mid.spaces → (j : ℕ) × (c ≡ j + 1) × OnSlab k j (λ a b. ReapOf a (Some t) b) old.spaces mid.spaces
        taken t (r, told, inl (j, number, on)) = let some : r ≡ Some t = (let e : Ok (Some t) ≡ Ok r = told in cc) in (j, number, subst (λ z. OnSlab k j (λ a b. ReapOf a z b) old.spaces mid.spaces) some on)
        taken t (r, told, inr (nowhere, (is, same))) = absurd (let e : Ok (Some t) ≡ Ok r = told in let f : Some t ≡ r = cc in let n : Some t ≡ None = f ∙ is in cc)

        back : (t : Tag) (j : ℕ) → c ≡ j + 1 → OnSlab k j (λ a b. ReapOf a (Some t) b) old.spaces mid.spaces → (last : LocalState) → IsStock last.spaces → Returns last.spaces t mid.spaces → o ≢ None → SlabLook old last o
        back t j number on last stock returns some =
            let keeps = returns_keep last.spaces t mid.spaces returns in
            let sound : IsSoundCache on.cache.slab = ((law k on.space on.at).caches j on.cache on.among).sound in
            let bare : rounds_to_go on.cache.depot ≡ [] = so.rounds j on.cache number (record { space = on.space; at = on.at; among = on.among }) in
            let less = slab_goes on.cache on.slab t on.does.0 on.does.1 sound bare on.does.2 in
            let d : QuantumCacheState = with_slab on.slab on.cache in
            let first : Front k (j + 1) old.spaces = subst (λ n. Front k n old.spaces) number so.front in
            let front : Front k c mid.spaces = front_stays k c j old.spaces mid.spaces number (others_stood old.spaces mid.spaces k j on.space on.cache d on.at on.among on.after) so.front in (
              next_goes old.spaces mid.spaces k j on.space on.cache d on.at on.among on.after t first less.0 less.1 last.spaces returns keeps.goes keeps.slabs keeps.counts,
              stock,
              record {
                front = λ i n x at before. front i n x (keeps.stood i n x at) before;
                rounds = λ i x also there. (
                    let here : IsCacheAt mid.spaces k j x = subst (λ n. IsCacheAt mid.spaces k n x) (same_number c i j also number) (keeps.stood k i x there) in
                    ap (λ (z : QuantumCacheState). rounds_to_go z.depot) (it_became old.spaces mid.spaces k j on.space on.cache d on.at on.among on.after x here) ∙ bare
                    );
              },
              λ is. absurd (some is),
            )

        looked : (x : Result (Option Tag) Stopped) → SoundStep (nodes_of arenas) old (SlabReap k c) x mid → RunsTo arenas (on_slab_reap chain x) mid new (Ok o) → SlabLook old new o
        looked (Err e) step rest = absurd (let x : Err e ≡ Ok step.step.does.0.0 = step.step.does.0.1 in cc)
        looked (Ok None) step rest = subst (λ (z : LocalState). SlabLook old z o) rest.0 (none step.step.stock step.step.does.0)
        looked (Ok (Some t)) step rest =
            let from = taken t step.step.does.0 in
            let split = path_split (SoundStep (nodes_of arenas)) (return_plan chain t) (λ a. Done (on_return t.holding.range.len a)) mid new (Ok o) rest in
            let stock : IsStock split.0.spaces = (frees_leave arenas chain t mid split.0 split.1 split.2).stock step.step.stock in
            subst (λ (z : LocalState). SlabLook old z o) split.3.0 (ended split.1 split.0 split.2 split.3.1 stock from.0 from.1 from.2)
          where
            ended : (a : ReturnEnd) (last : LocalState) → RunsTo arenas (return_plan chain t) mid last a → on_return t.holding.range.len a ≡ Ok o → IsStock last.spaces → (j : ℕ) → c ≡ j + 1 → OnSlab k j (λ x y. ReapOf x (Some t) y) old.spaces mid.spaces → SlabLook old last o
            ended (Ok u) last run told stock j number on = back t j number on last stock (returns_so arenas chain t mid last run).0 (λ none. (
                let e : Ok (Some t.holding.range.len) ≡ Ok o = told in
                let f : Some t.holding.range.len ≡ None = (let g : Some t.holding.range.len ≡ o = cc in g ∙ none) in
                cc
                ))
            ended (Err (returning.Stuck w)) last run told stock j number on = absurd (let e : Err (emptying.Stuck w) ≡ Ok o = told in cc)
            ended (Err (returning.Stopped w)) last run told stock j number on = absurd (let e : Err (emptying.Stopped (Some w)) ≡ Ok o = told in cc)

-- a part of a reaping: while looks are left, it begins where P is so, and ends where Q is
abbrev Part : (P Q : List SpaceState → Type 0) → Reaping → Reaping → LocalState → LocalState → Type 0
Part P Q x y old new = IsStock old.spaces → (0 < x.left → P old.spaces) → Went old.spaces new.spaces × IsStock new.spaces × (0 < y.left → Q new.spaces)

part_none : (P : List SpaceState → Type 0) (x y : Reaping) (old new : LocalState) → old ≡ new → x.left ≡ y.left → Part P P x y old new
part_none P x y old new same left stock so = (
  went_none old.spaces new.spaces (ap (λ (s : LocalState). s.spaces) (sym same)),
  subst (λ (s : LocalState). IsStock s.spaces) same stock,
  λ some. subst (λ (s : LocalState). P s.spaces) same (so (omega (arith, some, left))),
)

part_then : (P Q R : List SpaceState → Type 0) (x y z : Reaping) (a b c : LocalState) → Part P Q x y a b → Part Q R y z b c → Part P R x z a c
part_then P Q R x y z a b c one two stock so =
    let first = one stock so in
    let second = two first.1 first.2 in
    (went_then a.spaces b.spaces c.spaces first.0 second.0, second.1, second.2)

module _ (arenas : List TreeArena) where
  -- looks one after another
  looks_part : (look : Plan LookEnd) (P Q : List SpaceState → Type 0)
      → ((s t : LocalState) (o : Option ℕ) → IsStock s.spaces → P s.spaces → RunsTo arenas look s t (Ok o) → Went s.spaces t.spaces × IsStock t.spaces × P t.spaces × (o ≡ None → Q t.spaces))
      → (n units : ℕ) (s t : LocalState) (y : Reaping) → RunsTo arenas (looks_in_turn look n units) s t (Ok y) → Part P Q (record { left = n; units = units }) y s t
  looks_part look P Q one zero units s t y path stock so =
      let is : record { left = 0; units = units } ≡ y = (let e : Ok (record { left = 0; units = units }) ≡ Ok y = path.1 in cc) in
      let left : 0 ≡ y.left = ap (λ (r : Reaping). r.left) is in (
        went_none s.spaces t.spaces (ap (λ (z : LocalState). z.spaces) (sym path.0)),
        subst (λ (z : LocalState). IsStock z.spaces) path.0 stock,
        λ some. absurd (omega (arith, some, left)),
      )
  looks_part look P Q one (suc n) units s t y path stock so =
      let split = path_split (SoundStep (nodes_of arenas)) look (on_look (looks_in_turn look n) n units) s t (Ok y) path in
      looked split.0 split.1 split.2 split.3 (λ sum. looks_part look P Q one n sum split.0 t y)
    where
      looked : (m : LocalState) (r : LookEnd) → RunsTo arenas look s m r → RunsTo arenas (on_look (looks_in_turn look n) n units r) m t (Ok y) → ((sum : ℕ) → RunsTo arenas (looks_in_turn look n sum) m t (Ok y) → Part P Q (record { left = n; units = sum }) y m t)
          → Went s.spaces t.spaces × IsStock t.spaces × (0 < y.left → Q t.spaces)
      looked m (Ok (Some more)) run rest again =
          let first = one s m (Some more) stock (so (omega arith)) run in
          let second = again (units + more) rest first.1 (λ some. first.2) in
          (went_then s.spaces m.spaces t.spaces first.0 second.0, second.1, second.2)
      looked m (Ok None) run rest again =
          let first = one s m None stock (so (omega arith)) run in
          subst (λ (z : LocalState). Went s.spaces z.spaces × IsStock z.spaces × (0 < y.left → Q z.spaces)) rest.0 (first.0, first.1, λ some. first.3 refl)
      looked m (Err f) run rest again = absurd (let e : Err _ ≡ Ok y = rest.1 in cc)

  cache_part : (chain : List Level) (k c : ℕ) (x y : Reaping) (old new : LocalState) → RunsTo arenas (reap_cache chain k c x) old new (Ok y) → Part (Front k c) (Front k (c + 1)) x y old new
  unfolding reap_cache
  cache_part chain k c x y old new path =
      let on = ok_on arenas (reap_steps (reap_round k c) x) (reap_steps (reap_slab chain k c)) y old new path in
      part_then (Front k c) (SlabsSo arenas k c) (Front k (c + 1)) x on.1 y old on.0 new
      (looks_part (reap_round k c) (Front k c) (SlabsSo arenas k c) (λ s t o stock front run. (
      let look = round_look arenas k c s t o stock front run in
      (look.0.went, look.1, look.0.front, λ none. record { front = look.0.front; rounds = look.2 none })
      )) x.left x.units old on.0 on.1 on.2)
      (looks_part (reap_slab chain k c) (SlabsSo arenas k c) (Front k (c + 1)) (slab_look arenas k c chain) on.1.left on.1.units on.0 new y on.3)

  caches_part : (chain : List Level) (k all left c : ℕ) → c + left ≡ all + 1 → (x y : Reaping) (old new : LocalState) → RunsTo arenas (over_caches (reap_cache chain k) all left x) old new (Ok y) → Part (Front k c) (Front k (all + 1)) x y old new
  caches_part chain k all zero c is x y old new path =
      let here : c ≡ all + 1 = omega (arith, is) in
      let left : x.left ≡ y.left = (let e : Ok x ≡ Ok y = path.1 in let d : x ≡ y = cc in ap (λ (r : Reaping). r.left) d) in
      subst (λ n. Part (Front k n) (Front k (all + 1)) x y old new) (sym here) (part_none (Front k (all + 1)) x y old new path.0 left)
  caches_part chain k all (suc n) c is x y old new path =
      let here : all - n ≡ c = omega (arith, is) in
      let on = ok_on arenas (reap_cache chain k (all - n) x) (over_caches (reap_cache chain k) all n) y old new path in
      let first : Part (Front k c) (Front k (c + 1)) x on.1 old on.0 = cache_part chain k c x on.1 old on.0 (subst (λ m. RunsTo arenas (reap_cache chain k m x) old on.0 (Ok on.1)) here on.2) in
      part_then (Front k c) (Front k (c + 1)) (Front k (all + 1)) x on.1 y old on.0 new first (caches_part chain k all n (c + 1) (omega (arith, is)) on.1 y on.0 new on.3)

  -- nothing goes of the arenas from this number on
  abbrev Above : ℕ → List SpaceState → Type 0
  Above n spaces = (i j : ℕ) (x : QuantumCacheState) → IsCacheAt spaces i j x → n ≤ i → spans_of_cache x ≡ []

  -- an arena has no more caches than are looked at
  abbrev Fits : List SpaceState → Type 0
  Fits spaces = (i : ℕ) (s : SpaceState) (x : TreeArena) → slice_get spaces i ≡ Some s → slice_get arenas i ≡ Some x → length s.caches ≤ caches_in (level_of i x)

  fits_then : (old new : List SpaceState) → map cache_count new ≡ map cache_count old → Fits old → Fits new
  fits_then old new same fits i s x at there =
      let was = mapped cache_count old i (cache_count s) (ap (λ ns. slice_get ns i) (sym same) ∙ slice_get_mapped cache_count new i s at) in
      subst (λ n. n ≤ caches_in (level_of i x)) (sym was.2) (fits i was.0 x was.1 there)

  arena_part : (k : ℕ) (a : TreeArena) → slice_get arenas k ≡ Some a → (x y : Reaping) (old new : LocalState) → Fits old.spaces → RunsTo arenas (reap_arena_plan (chain_in arenas k) x) old new (Ok y) → Part (Above (k + 1)) (Above k) x y old new
  arena_part k a at x y old new fits path stock so =
      let all : ℕ = caches_in (level_of k a) in
      let chain : chain_in arenas k ≡ level_of k a ∷ chain_up 3 arenas a.source = ap (rest_of_chain (chain_up 3 arenas) k) at in
      let run : RunsTo arenas (over_caches (reap_cache (level_of k a ∷ chain_up 3 arenas a.source) k) all all x) old new (Ok y) = subst (λ ls. RunsTo arenas (reap_arena_plan ls x) old new (Ok y)) chain path in
      let walk = caches_part (level_of k a ∷ chain_up 3 arenas a.source) k all all 1 (omega arith) x y old new run stock
      (λ some i n z there before. so some i n z there (elim before [
        | inl more ↦ omega (arith, more)
        | inr none ↦ absurd (omega (arith, none.1))
      ])) in (
        walk.0,
        walk.1,
        λ some i n z there up. elim (cases_lt k i) [
          | inl more ↦ walk.2 some i n z there (inl more)
          | inr same ↦ (
              let here : i ≡ k = omega (arith, up, same) in
              let within : n < length there.space.caches = slice_get_within there.space.caches n z there.among in
              let few : length there.space.caches ≤ all = fits_then old.spaces new.spaces walk.0.counts fits k there.space a (ap (slice_get new.spaces) (sym here) ∙ there.at) at in
              walk.2 some i n z there (inr (here, omega (arith, within, few)))
              )
        ],
      )

  arenas_part : (end : ℕ) → end ≤ length arenas → (x y : Reaping) (old new : LocalState) → Fits old.spaces → RunsTo arenas (over_arenas (λ id. reap_arena_plan (chain_in arenas id)) end x) old new (Ok y) → Part (Above end) (Above 0) x y old new
  arenas_part zero within x y old new fits path stock so =
      part_none (Above 0) x y old new path.0 (let e : Ok x ≡ Ok y = path.1 in let d : x ≡ y = cc in ap (λ (r : Reaping). r.left) d) stock so
  arenas_part (suc n) within x y old new fits path stock so =
      let on = ok_on arenas (reap_arena_plan (chain_in arenas n) x) (over_arenas (λ id. reap_arena_plan (chain_in arenas id)) n) y old new path in
      let here = slice_get_some arenas n (omega (arith, within)) in
      let one : n + 1 ≡ suc n = omega arith in
      let first = arena_part n here.0 here.1 x on.1 old on.0 fits on.2 stock (λ some. subst (λ m. Above m old.spaces) (sym one) (so some)) in
      let second = arenas_part n (omega (arith, within)) on.1 y on.0 new (fits_then old.spaces on.0.spaces first.0.counts fits) on.3 first.1 first.2 in
      (went_then old.spaces on.0.spaces new.spaces first.0 second.0, second.1, second.2)

  module _ (tree : IsTree arenas) where
    quotient_most : (quantum most n : ℕ) → 0 < quantum → most ≤ n * quantum → most / quantum ≤ n
    quotient_most quantum most n some le = elim (cases_lt n (most / quantum)) [
      | inl less ↦
          let more : (n + 1) * quantum ≤ most / quantum * quantum = mul-le-mul_right quantum (omega (arith, less)) in
          let one_more : n * quantum + quantum ≡ (n + 1) * quantum = grind arith in
          absurd (omega (arith, more, one_more, le, some, div-mul-le_self most quantum))
      | inr ok ↦ ok
    ]

    fits_so : (spaces : List SpaceState) → plans_of spaces ≡ plans_for arenas → Fits spaces
    fits_so spaces plans i s x at there =
        let is = tree.each i x there in
        let few : x.qcache_max / x.quantum ≤ MOST_CACHES = quotient_most x.quantum x.qcache_max MOST_CACHES (power_some x.quantum is.power) is.caches.1 in
        let plan : plan_of s ≡ plan_for x = (
        let e : Some (plan_of s) ≡ Some (plan_for x) = sym (slice_get_mapped plan_of spaces i s at) ∙ (ap (λ ps. slice_get ps i) plans ∙ slice_get_mapped plan_for arenas i x there) in
        cc
        ) in
        let count : length s.caches ≡ x.qcache_max / x.quantum = sym (length-map s.caches slab_size_of) ∙ (ap (λ (p : SpacePlan). length p.slab_sizes) plan ∙ length-replicate (x.qcache_max / x.quantum) x.slab_size) in
        omega (arith, count, few)

    -- a whole reaping, whatever its limit
    pub reap_went : (limit : ℕ) (y : Reaping) (old new : LocalState) → IsStock old.spaces → plans_of old.spaces ≡ plans_for arenas → RunsTo arenas (reap_plan arenas limit) old new (Ok y) → Went old.spaces new.spaces
    reap_went limit y old new stock plans path =
        let count : length old.spaces ≡ length arenas = sym (length-map old.spaces plan_of) ∙ (ap length plans ∙ length-map arenas plan_for) in
        (arenas_part (length arenas) (omega arith) (record { left = limit; units = 0 }) y old new (fits_so old.spaces plans) path stock
        (λ some i n x there up. absurd (omega (arith, up, count, slice_get_within old.spaces i there.space there.at)))).0
