-- An allocation ends well.
use Rattle.std.proofs.Common.{◌≡◌, ℕ, List, [], ◌∷◌, Option, Some, None, Result, Ok, Err, refl, sym, subst}
use Rattle.deed_core.specs.Tag.{Tag}
use Rattle.deed_core.specs.declared.requests.Request.{Request}
use Rattle.deed_core.specs.declared.segments.Route.TheVariants.{Direct}
use Rattle.arena_tree.specs.declared.levels.Level.{Level}
use Rattle.arena_tree.specs.declared.trees.TreeArena.{TreeArena}
use Rattle.arena_tree.specs.declared.part_faults.PartFault.{PartFault}
use Rattle.arena_tree.specs.declared.part_faults.GivenFault.{GivenFault}
use Rattle.arena_tree.specs.declared.part_faults.ChangeFault.{ChangeFault}
use Rattle.slab_layer.specs.declared.faults.AddFault.{AddFault}
use Rattle.magazine_layer.specs.declared.faults.FullFault.{FullFault}
use Rattle.arena_tree.specs.declared.part_faults.PartFault.TheVariants as asking
use Rattle.arena_tree.specs.declared.part_faults.GivenFault.TheVariants as giving
use Rattle.tag_arena.specs.declared.faults.ArenaFault.TheVariants as carving
use Rattle.slab_layer.specs.declared.faults.AddFault.TheVariants as slabbing
use Rattle.magazine_layer.specs.declared.faults.FullFault.TheVariants as fulling
use Rattle.arena_tree.specs.declared.part_faults.ClimbFault.TheVariants as climbing
use Rattle.arena_tree.specs.declared.part_faults.Stopped.{Stopped}
use Rattle.arena_tree.specs.Chains.{IsChain}
use Rattle.arena_tree.specs.Climbs.{ClimbEnd, climb_plan}
use Rattle.arena_tree.specs.Events.{SlabAdd}
use Rattle.arena_tree.specs.Plans.{Plan, Done, Ask, then, or_else}
use Rattle.arena_tree.specs.Sound.{Sound}
use Rattle.arena_tree.specs.Trees.{nodes_of, IsTree}
use Rattle.quantum_cache.specs.Allocs.{Stage, on_take, take_round, on_change_over, change_over, on_swap_full, take_from_depot, take_chunk, on_slab_add, make_slab, on_slab_climb, take_from_slab, alloc_cached, alloc_steps, alloc_plan, xalloc_plan}
use Rattle.quantum_cache.specs.Sizes.{cache_for}
use Rattle.local_calls.specs.Asked.{GoesWell, DoesWell, AsksWell, EndsWell, IsForSlab}
use Rattle.local_calls.specs.Laws.{AllocsWell}
use Rattle.local_calls.proofs.ClimbWells.{ends_then, ClimbsWell, well_climb, well_refused}
use Rattle.local_calls.proofs.Slabs.{for_slab}

-- a stage
abbrev StageWell : Stage → Type 0
StageWell None = Unit {0}
StageWell (Some r) = AllocsWell r

module _ (arenas : List TreeArena) where
  well_or_else : (p : Plan Stage) (last : Plan ClimbEnd) → EndsWell arenas StageWell p → EndsWell arenas AllocsWell last → EndsWell arenas AllocsWell (then p (or_else last))
  well_or_else p last w next = ends_then arenas StageWell AllocsWell p (or_else last) w go
    where
      go : (a : Stage) → StageWell a → EndsWell arenas AllocsWell (or_else last a)
      go None w' = next
      go (Some r) w' = w'

  well_take : (a : Result (Option Tag) Stopped) → DoesWell a → StageWell (on_take a)
  well_take (Ok None) well = tt
  well_take (Ok (Some t)) well = tt
  well_take (Err e) well = absurd well

  well_round : (arena cache : ℕ) → EndsWell arenas StageWell (take_round arena cache)
  unfolding take_round
  well_round arena cache = (tt, λ a s well. well_take a well)

  well_over : (arena cache size : ℕ) → EndsWell arenas StageWell (change_over arena cache size)
  unfolding change_over
  well_over arena cache size = (tt, changed)
    where
      changed : (a : Result (Unit {0}) (PartFault ChangeFault)) → Unit {0} → AsksWell a → StageWell (on_change_over a)
      changed (Ok u) s well = tt
      changed (Err (asking.Refused f)) s well = tt
      changed (Err asking.Stopped) s well = absurd well

  well_depot : (arena cache : ℕ) → EndsWell arenas StageWell (take_from_depot arena cache)
  unfolding take_from_depot
  well_depot arena cache = (tt, swapped)
    where
      swapped : (x : Result (Unit {0}) (PartFault FullFault)) → Unit {0} → AsksWell x → EndsWell arenas StageWell (on_swap_full arena cache x)
      swapped (Ok u) s well = well_round arena cache
      swapped (Err (asking.Refused (fulling.OldSize m))) s well = well_over arena cache m
      swapped (Err (asking.Refused fulling.NoneFull)) s well = tt
      swapped (Err asking.Stopped) s well = absurd well

  well_chunk : (arena cache : ℕ) → EndsWell arenas StageWell (take_chunk arena cache)
  unfolding take_chunk
  well_chunk arena cache = (tt, λ a s well. well_take a well)

  well_slab : (l : Level) (up : List Level) (cache : ℕ) (span : Tag) → IsChain (nodes_of arenas) (l ∷ up) → IsForSlab arenas l.id cache span → (x : Result Tag (GivenFault (AddFault Tag) Tag)) → Sound (nodes_of arenas) (SlabAdd l.id cache span) x → GoesWell (SlabAdd l.id cache span) x
      → EndsWell arenas AllocsWell (on_slab_add (l ∷ up) x)
  well_slab l up cache span is for (Ok t) s well = tt
  well_slab l up cache span is for (Err (giving.Refused (slabbing.NoMemory t))) s well =
      well_refused arenas AllocsWell tt (l ∷ up) t is (subst (λ (z : Tag). Some l.id ≡ Some z.arena) (sym s.1) (let e : span.arena ≡ l.id = for.of_arena in cc)) (subst (λ (z : Tag). z.route ≡ Direct) (sym s.1) for.direct)
  well_slab l up cache span is for (Err (giving.Refused (slabbing.WrongSize t))) s well = absurd well
  well_slab l up cache span is for (Err (giving.Refused (slabbing.Overlaps t))) s well = absurd well
  well_slab l up cache span is for (Err (giving.Stopped t)) s well = absurd well

  module _ (tree : IsTree arenas) (l : Level) (up : List Level) (is : IsChain (nodes_of arenas) (l ∷ up)) (size : ℕ) where
    well_climbed : (cache : ℕ) → cache_for l size ≡ Some cache → (r : ClimbEnd) → ClimbsWell arenas (l ∷ up) l.slab_size r → EndsWell arenas StageWell (on_slab_climb (l ∷ up) l.id cache r)
    unfolding make_slab
    well_climbed cache e (Ok span) w =
        let for : IsForSlab arenas l.id cache span = for_slab arenas tree l up size cache span is e w in
        ends_then arenas AllocsWell StageWell (make_slab (l ∷ up) l.id cache span) (λ r. Done (Some r)) (for, well_slab l up cache span is for) (λ r w'. w')
    well_climbed cache e (Err (climbing.Refused carving.BadRequest)) w = tt
    well_climbed cache e (Err (climbing.Refused carving.NoFit)) w = tt
    well_climbed cache e (Err (climbing.Refused carving.NoMemory)) w = tt
    well_climbed cache e (Err (climbing.Stuck t)) w = absurd w
    well_climbed cache e (Err (climbing.Stopped o)) w = absurd w

    well_import : (cache : ℕ) → cache_for l size ≡ Some cache → EndsWell arenas StageWell (take_from_slab (l ∷ up) l cache)
    unfolding take_from_slab
    well_import cache e = ends_then arenas (ClimbsWell arenas (l ∷ up) l.slab_size) StageWell (climb_plan (l ∷ up) l.slab_size) (on_slab_climb (l ∷ up) l.id cache) (well_climb arenas (l ∷ up) l.slab_size is) (well_climbed cache e)

    well_last : EndsWell arenas AllocsWell (climb_plan (l ∷ up) size)
    well_last = weaker (climb_plan (l ∷ up) size) (well_climb arenas (l ∷ up) size is)
      where
        ends : (r : ClimbEnd) → ClimbsWell arenas (l ∷ up) size r → AllocsWell r
        ends (Ok t) w = tt
        ends (Err (climbing.Refused f)) w = tt
        ends (Err (climbing.Stuck t)) w = w
        ends (Err (climbing.Stopped o)) w = w

        weaker : (p : Plan ClimbEnd) → EndsWell arenas (ClimbsWell arenas (l ∷ up) size) p → EndsWell arenas AllocsWell p
        weaker (Done r) w = ends r w
        weaker (Ask ev f) w = (w.0, λ x s well. weaker (f x) (w.1 x s well))

    well_by : (o : Option ℕ) → cache_for l size ≡ o → EndsWell arenas AllocsWell (alloc_steps o (l ∷ up) l size)
    unfolding alloc_cached
    well_by None e = well_last
    well_by (Some cache) e =
        well_or_else (take_round l.id cache) _ (well_round l.id cache)
        (well_or_else (take_from_depot l.id cache) _ (well_depot l.id cache)
        (well_or_else (take_chunk l.id cache) _ (well_chunk l.id cache)
        (well_or_else (take_from_slab (l ∷ up) l cache) _ (well_import cache e) well_last)))

  pub well_alloc : IsTree arenas → (chain : List Level) (size : ℕ) → IsChain (nodes_of arenas) chain → EndsWell arenas AllocsWell (alloc_plan chain size)
  well_alloc tree [] size is = tt
  well_alloc tree (l ∷ up) size is = well_by tree l up is size (cache_for l size) refl

  pub well_xalloc : (arena : ℕ) (request : Request) → EndsWell arenas AsksWell (xalloc_plan arena request)
  well_xalloc arena request = (tt, λ a s well. well)
