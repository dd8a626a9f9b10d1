-- Lists of steps over the parts: a stop ends them at once, and no other ends as stopped.
use Rattle.std.proofs.Common.{◌≡◌, ℕ, List, [], ◌∷◌, Option, Some, None, Result, Ok, Err, Bool, true, false, refl, subst}
use Rattle.deed_core.specs.Tag.{Tag}
use Rattle.deed_core.specs.Request.{plain_of}
use Rattle.deed_core.specs.declared.segments.Route.{Route}
use Rattle.deed_core.specs.declared.segments.Route.TheVariants.{Direct, Cached}
use Rattle.arena_tree.specs.Chains.{amount_of}
use Rattle.arena_tree.specs.Climbs.{ClimbEnd, ReturnEnd, on_free, return_plan, memory_refusal, give_back_plan, on_add, on_import, on_carve, climb_plan}
use Rattle.arena_tree.specs.Events.{AnswerTo, Carve, Free, AddCarve, SlabPut, SlabAdd, SwapFull, SwapEmpty, SwapFresh, Push, Change}
use Rattle.arena_tree.specs.Plans.{Plan, Done, Ask, then, or_else}
use Rattle.arena_tree.specs.Stops.{is_stopped, refuses_by}
use Rattle.arena_tree.specs.declared.levels.Level.{Level}
use Rattle.arena_tree.specs.declared.part_faults.PartFault.{PartFault}
use Rattle.arena_tree.specs.declared.part_faults.GivenFault.{GivenFault}
use Rattle.arena_tree.specs.declared.part_faults.ChangeFault.{ChangeFault}
use Rattle.arena_tree.specs.declared.part_faults.FreshFault.{FreshFault}
use Rattle.arena_tree.specs.declared.part_faults.Stopped.{Stopped}
use Rattle.tag_arena.specs.declared.faults.ArenaFault.{ArenaFault}
use Rattle.tag_arena.specs.declared.faults.SpanFault.{SpanFault}
use Rattle.slab_layer.specs.declared.faults.AddFault.{AddFault}
use Rattle.slab_layer.specs.declared.faults.PutFault.{PutFault}
use Rattle.magazine_layer.specs.declared.faults.FullFault.{FullFault}
use Rattle.magazine_layer.specs.declared.faults.EmptyFault.{EmptyFault}
use Rattle.arena_tree.specs.declared.part_faults.PartFault.TheVariants as asking
use Rattle.arena_tree.specs.declared.part_faults.GivenFault.TheVariants as giving
use Rattle.arena_tree.specs.declared.part_faults.FreshFault.TheVariants as freshing
use Rattle.arena_tree.specs.declared.part_faults.ClimbFault.TheVariants as climbing
use Rattle.arena_tree.specs.declared.part_faults.ReturnFault.TheVariants as returning
use Rattle.tag_arena.specs.declared.faults.ArenaFault.TheVariants as carving
use Rattle.tag_arena.specs.declared.faults.SpanFault.TheVariants as adding
use Rattle.slab_layer.specs.declared.faults.AddFault.TheVariants as slabbing
use Rattle.slab_layer.specs.declared.faults.PutFault.TheVariants as putting
use Rattle.magazine_layer.specs.declared.faults.FullFault.TheVariants as fulling
use Rattle.magazine_layer.specs.declared.faults.EmptyFault.TheVariants as emptying
use Rattle.quantum_cache.specs.Sizes.{cache_for}
use Rattle.quantum_cache.specs.Allocs.{Stage, on_take, take_round, on_change_over, change_over, on_swap_full, take_from_depot, take_chunk, on_slab_add, make_slab, on_slab_climb, take_from_slab, alloc_cached, alloc_steps, alloc_plan}
use Rattle.quantum_cache.specs.Frees.{or_next, on_push, push_round, on_change, push_changed, on_swap_fresh, push_fresh, on_swap_empty, push_exchanged, on_slab_put, put_chunk, free_cached, free_steps, free_plan}
use Rattle.quantum_cache.specs.declared.placings.Placing.{Placing}
use Rattle.quantum_cache.specs.declared.placings.Placing.TheVariants as placing

-- where a step is stopped the list ends at once, as such, and else it doesn't
abbrev pub PartsStop : {A : Type 0} → (A → Bool) → Plan A → (stopped : Bool) → Type 0
PartsStop ends (Done a) stopped = ends a ≡ stopped
PartsStop ends (Ask e f) true = ⊥
PartsStop ends (Ask e f) false = (x : AnswerTo e) → PartsStop ends (f x) (is_stopped e x)

pub then_stops : {A B : Type 0} (ends : A → Bool) (ends' : B → Bool) (p : Plan A) (next : A → Plan B) (b : Bool) → PartsStop ends p b → ((x : A) → PartsStop ends' (next x) (ends x)) → PartsStop ends' (then p next) b
then_stops ends ends' (Done x) next b w f = subst (PartsStop ends' (next x)) w (f x)
then_stops ends ends' (Ask e g) next true w f = absurd w
then_stops ends ends' (Ask e g) next false w f = λ x. then_stops ends ends' (g x) next (is_stopped e x) (w x) f

-- a hand back
abbrev pub return_stopped : ReturnEnd → Bool
return_stopped (Ok u) = false
return_stopped (Err (returning.Stuck t)) = false
return_stopped (Err (returning.Stopped t)) = true

return_stops : (chain : List Level) (t : Tag) → PartsStop return_stopped (return_plan chain t) false
return_stops [] t = refl
return_stops (l ∷ up) t = by (return_stops up)
  where
    by : ((s : Tag) → PartsStop return_stopped (return_plan up s) false) → (x : Result (Option Tag) (GivenFault Tag Tag)) → PartsStop return_stopped (on_free (return_plan up) x) (is_stopped (Free t) x)
    by again (Ok None) = refl
    by again (Ok (Some whole)) = again whole
    by again (Err (giving.Refused s)) = refl
    by again (Err (giving.Stopped s)) = refl

-- a climb
abbrev pub climb_stopped : ClimbEnd → Bool
climb_stopped (Ok t) = false
climb_stopped (Err (climbing.Refused f)) = false
climb_stopped (Err (climbing.Stuck t)) = false
climb_stopped (Err (climbing.Stopped o)) = true

memory_stops : (r : ReturnEnd) → climb_stopped (memory_refusal r) ≡ return_stopped r
memory_stops (Ok u) = refl
memory_stops (Err (returning.Stuck t)) = refl
memory_stops (Err (returning.Stopped t)) = refl

give_back_stops : (up : List Level) (t : Tag) → PartsStop climb_stopped (give_back_plan up t) false
give_back_stops up t = then_stops return_stopped climb_stopped (return_plan up t) (λ r. Done (memory_refusal r)) false (return_stops up t) memory_stops

added_stops : (up : List Level) (child n : ℕ) (span : Tag) (x : Result Tag (GivenFault (SpanFault Tag) Tag)) → PartsStop climb_stopped (on_add up x) (is_stopped (AddCarve child span n) x)
added_stops up child n span (Ok t) = refl
added_stops up child n span (Err (giving.Refused (adding.NoMemory t))) = give_back_stops up t
added_stops up child n span (Err (giving.Refused (adding.Overlaps t))) = refl
added_stops up child n span (Err (giving.Refused (adding.NotAligned t))) = refl
added_stops up child n span (Err (giving.Stopped t)) = refl

imported_stops : (up : List Level) (child n : ℕ) (x : ClimbEnd) → PartsStop climb_stopped (on_import up child n x) (climb_stopped x)
imported_stops up child n (Ok span) = added_stops up child n span
imported_stops up child n (Err f) = refl

climb_stops : (chain : List Level) (n : ℕ) → PartsStop climb_stopped (climb_plan chain n) false
climb_stops [] n = refl
climb_stops (l ∷ up) n = by (climb_stops up (amount_of l up n))
  where
    by : PartsStop climb_stopped (climb_plan up (amount_of l up n)) false → (x : Result Tag (PartFault ArenaFault)) → PartsStop climb_stopped (on_carve (climb_plan up (amount_of l up n)) up l.id n x) (is_stopped (Carve l.id (plain_of n)) x)
    by again (Ok t) = refl
    by again (Err (asking.Refused carving.NoFit)) = then_stops climb_stopped climb_stopped (climb_plan up (amount_of l up n)) (on_import up l.id n) false again (imported_stops up l.id n)
    by again (Err (asking.Refused carving.BadRequest)) = refl
    by again (Err (asking.Refused carving.NoMemory)) = refl
    by again (Err asking.Stopped) = refl

-- an allocation
abbrev stage_stopped : Stage → Bool
stage_stopped None = false
stage_stopped (Some r) = climb_stopped r

or_else_stops : (p : Plan Stage) (q : Plan ClimbEnd) → PartsStop stage_stopped p false → PartsStop climb_stopped q false → PartsStop climb_stopped (then p (or_else q)) false
or_else_stops p q w next = then_stops stage_stopped climb_stopped p (or_else q) false w go
  where
    go : (a : Stage) → PartsStop climb_stopped (or_else q a) (stage_stopped a)
    go None = next
    go (Some a) = refl

taken_stops : (x : Result (Option Tag) Stopped) → stage_stopped (on_take x) ≡ refuses_by (λ _. true) x
taken_stops (Ok None) = refl
taken_stops (Ok (Some t)) = refl
taken_stops (Err e) = refl

round_stops : (arena cache : ℕ) → PartsStop stage_stopped (take_round arena cache) false
unfolding take_round
round_stops arena cache = taken_stops

over_stops : (arena cache size : ℕ) → PartsStop stage_stopped (change_over arena cache size) false
unfolding change_over
over_stops arena cache size = changed
  where
    changed : (x : Result (Unit {0}) (PartFault ChangeFault)) → stage_stopped (on_change_over x) ≡ is_stopped (Change arena cache size) x
    changed (Ok u) = refl
    changed (Err (asking.Refused f)) = refl
    changed (Err asking.Stopped) = refl

depot_stops : (arena cache : ℕ) → PartsStop stage_stopped (take_from_depot arena cache) false
unfolding take_from_depot
depot_stops arena cache = swapped
  where
    swapped : (x : Result (Unit {0}) (PartFault FullFault)) → PartsStop stage_stopped (on_swap_full arena cache x) (is_stopped (SwapFull arena cache) x)
    swapped (Ok u) = round_stops arena cache
    swapped (Err (asking.Refused (fulling.OldSize m))) = over_stops arena cache m
    swapped (Err (asking.Refused fulling.NoneFull)) = refl
    swapped (Err asking.Stopped) = refl

chunk_stops : (arena cache : ℕ) → PartsStop stage_stopped (take_chunk arena cache) false
unfolding take_chunk
chunk_stops arena cache = taken_stops

slab_stops : (chain : List Level) (arena cache : ℕ) (span : Tag) (x : Result Tag (GivenFault (AddFault Tag) Tag)) → PartsStop climb_stopped (on_slab_add chain x) (is_stopped (SlabAdd arena cache span) x)
slab_stops chain arena cache span (Ok t) = refl
slab_stops chain arena cache span (Err (giving.Refused (slabbing.WrongSize t))) = refl
slab_stops chain arena cache span (Err (giving.Refused (slabbing.Overlaps t))) = refl
slab_stops chain arena cache span (Err (giving.Refused (slabbing.NoMemory t))) = give_back_stops chain t
slab_stops chain arena cache span (Err (giving.Stopped t)) = refl

climbed_stops : (chain : List Level) (arena cache : ℕ) (x : ClimbEnd) → PartsStop stage_stopped (on_slab_climb chain arena cache x) (climb_stopped x)
unfolding make_slab
climbed_stops chain arena cache (Ok span) = then_stops climb_stopped stage_stopped (make_slab chain arena cache span) (λ r. Done (Some r)) false (slab_stops chain arena cache span) (λ r. refl)
climbed_stops chain arena cache (Err (climbing.Refused carving.BadRequest)) = refl
climbed_stops chain arena cache (Err (climbing.Refused carving.NoFit)) = refl
climbed_stops chain arena cache (Err (climbing.Refused carving.NoMemory)) = refl
climbed_stops chain arena cache (Err (climbing.Stuck t)) = refl
climbed_stops chain arena cache (Err (climbing.Stopped o)) = refl

import_stops : (chain : List Level) (l : Level) (cache : ℕ) → PartsStop stage_stopped (take_from_slab chain l cache) false
unfolding take_from_slab
import_stops chain l cache = then_stops climb_stopped stage_stopped (climb_plan chain l.slab_size) (on_slab_climb chain l.id cache) false (climb_stops chain l.slab_size) (climbed_stops chain l.id cache)

alloc_by : (o : Option ℕ) (chain : List Level) (l : Level) (n : ℕ) → PartsStop climb_stopped (alloc_steps o chain l n) false
unfolding alloc_cached
alloc_by None chain l n = climb_stops chain n
alloc_by (Some cache) chain l n =
    or_else_stops (take_round l.id cache) _ (round_stops l.id cache)
    (or_else_stops (take_from_depot l.id cache) _ (depot_stops l.id cache)
    (or_else_stops (take_chunk l.id cache) _ (chunk_stops l.id cache)
    (or_else_stops (take_from_slab chain l cache) _ (import_stops chain l cache) (climb_stops chain n))))

pub alloc_stops : (chain : List Level) (size : ℕ) → PartsStop climb_stopped (alloc_plan chain size) false
alloc_stops [] size = refl
alloc_stops (l ∷ up) size = alloc_by (cache_for l size) (l ∷ up) l size

-- a free
abbrev placing_stopped : Placing Tag → Bool
placing_stopped placing.Placed = false
placing_stopped (placing.Left t) = false
placing_stopped (placing.Stopped t) = true

or_next_stops : (p : Plan (Placing Tag)) (q : Tag → Plan ReturnEnd) → PartsStop placing_stopped p false → ((t : Tag) → PartsStop return_stopped (q t) false) → PartsStop return_stopped (then p (or_next q)) false
or_next_stops p q w next = then_stops placing_stopped return_stopped p (or_next q) false w go
  where
    go : (a : Placing Tag) → PartsStop return_stopped (or_next q a) (placing_stopped a)
    go placing.Placed = refl
    go (placing.Left t) = next t
    go (placing.Stopped t) = refl

push_stops : (arena cache : ℕ) (t : Tag) → PartsStop placing_stopped (push_round arena cache t) false
unfolding push_round
push_stops arena cache t = done
  where
    done : (x : Result (Unit {0}) (GivenFault Tag Tag)) → placing_stopped (on_push x) ≡ is_stopped (Push arena cache t) x
    done (Ok u) = refl
    done (Err (giving.Refused x)) = refl
    done (Err (giving.Stopped x)) = refl

changed_stops : (arena cache m : ℕ) (t : Tag) → PartsStop placing_stopped (push_changed arena cache m t) false
unfolding push_changed
changed_stops arena cache m t = done
  where
    done : (x : Result (Unit {0}) (PartFault ChangeFault)) → PartsStop placing_stopped (on_change arena cache t x) (is_stopped (Change arena cache m) x)
    done (Ok u) = push_stops arena cache t
    done (Err (asking.Refused f)) = refl
    done (Err asking.Stopped) = refl

fresh_stops : (arena cache : ℕ) (t : Tag) → PartsStop placing_stopped (push_fresh arena cache t) false
unfolding push_fresh
fresh_stops arena cache t = done
  where
    done : (x : Result (Unit {0}) (PartFault FreshFault)) → PartsStop placing_stopped (on_swap_fresh arena cache t x) (is_stopped (SwapFresh arena cache) x)
    done (Ok u) = push_stops arena cache t
    done (Err (asking.Refused (freshing.OldSize m))) = changed_stops arena cache m t
    done (Err (asking.Refused freshing.NotFull)) = refl
    done (Err (asking.Refused freshing.NoMemory)) = refl
    done (Err asking.Stopped) = refl

exchanged_stops : (arena cache : ℕ) (t : Tag) → PartsStop placing_stopped (push_exchanged arena cache t) false
unfolding push_exchanged
exchanged_stops arena cache t = done
  where
    done : (x : Result (Unit {0}) (PartFault EmptyFault)) → PartsStop placing_stopped (on_swap_empty arena cache t x) (is_stopped (SwapEmpty arena cache) x)
    done (Ok u) = push_stops arena cache t
    done (Err (asking.Refused emptying.NoneEmpty)) = fresh_stops arena cache t
    done (Err (asking.Refused (emptying.OldSize m))) = changed_stops arena cache m t
    done (Err asking.Stopped) = refl

put_stops : (t : Tag) → PartsStop return_stopped (put_chunk t) false
unfolding put_chunk
put_stops t = done
  where
    done : (x : Result (Unit {0}) (GivenFault (PutFault Tag) Tag)) → return_stopped (on_slab_put x) ≡ is_stopped (SlabPut t) x
    done (Ok u) = refl
    done (Err (giving.Refused (putting.NotMine x))) = refl
    done (Err (giving.Refused (putting.AtHome x))) = refl
    done (Err (giving.Stopped x)) = refl

free_by : (route : Route) (chain : List Level) (t : Tag) → PartsStop return_stopped (free_steps route chain t) false
unfolding free_cached
free_by Direct chain t = return_stops chain t
free_by (Cached cache) chain t = or_next_stops (push_round t.arena cache t) _ (push_stops t.arena cache t) (λ x. or_next_stops (push_exchanged t.arena cache x) _ (exchanged_stops t.arena cache x) put_stops)

pub free_stops : (chain : List Level) (t : Tag) → PartsStop return_stopped (free_plan chain t) false
free_stops chain t = free_by t.route chain t
