-- What an allocation leaves in the hand.
use Rattle.std.proofs.Common.{◌≡◌, ℕ, List, [], ◌∷◌, Option, Some, None, Result, Ok, Err, refl}
use Rattle.deed_core.specs.Tag.{Tag}
use Rattle.arena_tree.specs.declared.levels.Level.{Level}
use Rattle.arena_tree.specs.declared.part_faults.PartFault.{PartFault}
use Rattle.arena_tree.specs.declared.part_faults.GivenFault.{GivenFault}
use Rattle.arena_tree.specs.declared.part_faults.ChangeFault.{ChangeFault}
use Rattle.tag_arena.specs.declared.faults.ArenaFault.{ArenaFault}
use Rattle.slab_layer.specs.declared.faults.AddFault.{AddFault}
use Rattle.magazine_layer.specs.declared.faults.FullFault.{FullFault}
use Rattle.arena_tree.specs.declared.part_faults.PartFault.TheVariants as asking
use Rattle.arena_tree.specs.declared.part_faults.GivenFault.TheVariants as giving
use Rattle.tag_arena.specs.declared.faults.ArenaFault.TheVariants as carving
use Rattle.slab_layer.specs.declared.faults.AddFault.TheVariants as slabbing
use Rattle.magazine_layer.specs.declared.faults.FullFault.TheVariants as fulling
use Rattle.arena_tree.specs.declared.part_faults.ClimbFault.TheVariants as climbing
use Rattle.arena_tree.specs.declared.part_faults.Stopped.{Stopped}
use Rattle.arena_tree.specs.Events.{hand_left, hand_of_answer, segment_of_slab_add}
use Rattle.arena_tree.specs.Plans.{Plan, Done, then, or_else, Handles}
use Rattle.arena_tree.specs.Climbs.{ClimbEnd, climb_plan, climb_left}
use Rattle.arena_tree.proofs.LawProofs.{handles_then, handles_refused, handles_climb}
use Rattle.quantum_cache.specs.Sizes.{cache_for}
use Rattle.quantum_cache.specs.Allocs.{Stage, on_take, take_round, on_change_over, change_over, on_swap_full, take_from_depot, take_chunk, on_slab_add, make_slab, on_slab_climb, take_from_slab, alloc_cached, alloc_steps}
use Rattle.quantum_cache.specs.Laws.{carve_left, AllocHandles, XallocHandles}

handles_or_else : {A : Type 0} (left : A → Option Tag) (stage : Option A → Option Tag) (p : Plan (Option A)) (q : Plan A) (h : Option Tag) → Handles stage p h → ((a : A) → stage (Some a) ≡ left a) → Handles left q (stage None) → Handles left (then p (or_else q)) h
handles_or_else {A} left stage p q h w gives next = handles_then stage left p (or_else q) h w go
  where
    go : (a : Option A) → Handles left (or_else q a) (stage a)
    go None = next
    go (Some a) = gives a

-- the hand after a stage
abbrev stage_left : Stage → Option Tag
stage_left None = None
stage_left (Some r) = climb_left r

handles_take : (a : Result (Option Tag) Stopped) → hand_of_answer (λ _. None) a ≡ stage_left (on_take a)
handles_take (Ok None) = refl
handles_take (Ok (Some t)) = refl
handles_take (Err e) = refl

handles_round : (arena cache : ℕ) → Handles stage_left (take_round arena cache) None
unfolding take_round
handles_round arena cache = (refl, handles_take)

handles_over : (arena cache size : ℕ) → Handles stage_left (change_over arena cache size) None
unfolding change_over
handles_over arena cache size = (tt, changed)
  where
    changed : (a : Result (Unit {0}) (PartFault ChangeFault)) → None ≡ stage_left (on_change_over a)
    changed (Ok u) = refl
    changed (Err (asking.Refused f)) = refl
    changed (Err asking.Stopped) = refl

handles_depot : (arena cache : ℕ) → Handles stage_left (take_from_depot arena cache) None
unfolding take_from_depot
handles_depot arena cache = (tt, swapped)
  where
    swapped : (x : Result (Unit {0}) (PartFault FullFault)) → Handles stage_left (on_swap_full arena cache x) None
    swapped (Ok u) = handles_round arena cache
    swapped (Err (asking.Refused (fulling.OldSize m))) = handles_over arena cache m
    swapped (Err (asking.Refused fulling.NoneFull)) = refl
    swapped (Err asking.Stopped) = refl

handles_chunk : (arena cache : ℕ) → Handles stage_left (take_chunk arena cache) None
unfolding take_chunk
handles_chunk arena cache = (refl, handles_take)

handles_slab : (chain : List Level) (x : Result Tag (GivenFault (AddFault Tag) Tag)) → Handles climb_left (on_slab_add chain x) (hand_left (λ f. Some (segment_of_slab_add f)) x)
handles_slab chain (Ok t) = refl
handles_slab chain (Err (giving.Refused (slabbing.WrongSize t))) = refl
handles_slab chain (Err (giving.Refused (slabbing.Overlaps t))) = refl
handles_slab chain (Err (giving.Stopped t)) = refl
handles_slab chain (Err (giving.Refused (slabbing.NoMemory t))) = handles_refused chain t

handles_climbed : (chain : List Level) (arena cache : ℕ) (x : ClimbEnd) → Handles stage_left (on_slab_climb chain arena cache x) (climb_left x)
unfolding make_slab
handles_climbed chain arena cache (Ok span) = handles_then climb_left stage_left (make_slab chain arena cache span) (λ r. Done (Some r)) (Some span) (refl, handles_slab chain) (λ r. refl)
handles_climbed chain arena cache (Err (climbing.Refused carving.BadRequest)) = refl
handles_climbed chain arena cache (Err (climbing.Refused carving.NoFit)) = refl
handles_climbed chain arena cache (Err (climbing.Refused carving.NoMemory)) = refl
handles_climbed chain arena cache (Err (climbing.Stuck t)) = refl
handles_climbed chain arena cache (Err (climbing.Stopped o)) = refl

handles_import : (chain : List Level) (l : Level) (cache : ℕ) → Handles stage_left (take_from_slab chain l cache) None
unfolding take_from_slab
handles_import chain l cache = handles_then climb_left stage_left (climb_plan chain l.slab_size) (on_slab_climb chain l.id cache) None (handles_climb chain l.slab_size) (handles_climbed chain l.id cache)

handles_by : (o : Option ℕ) (chain : List Level) (l : Level) (n : ℕ) → Handles climb_left (alloc_steps o chain l n) None
unfolding alloc_cached
handles_by None chain l n = handles_climb chain n
handles_by (Some cache) chain l n =
    handles_or_else climb_left stage_left (take_round l.id cache) _ None (handles_round l.id cache) (λ a. refl)
    (handles_or_else climb_left stage_left (take_from_depot l.id cache) _ None (handles_depot l.id cache) (λ a. refl)
    (handles_or_else climb_left stage_left (take_chunk l.id cache) _ None (handles_chunk l.id cache) (λ a. refl)
    (handles_or_else climb_left stage_left (take_from_slab chain l cache) _ None (handles_import chain l cache) (λ a. refl) (handles_climb chain n))))

pub alloc_handles : AllocHandles
alloc_handles [] size = refl
alloc_handles (l ∷ up) size = handles_by (cache_for l size) (l ∷ up) l size

pub xalloc_handles : XallocHandles
xalloc_handles arena request = (refl, carved)
  where
    carved : (a : Result Tag (PartFault ArenaFault)) → hand_left (λ _. None) a ≡ carve_left a
    carved (Ok t) = refl
    carved (Err e) = refl
