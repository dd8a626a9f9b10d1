-- Allocation, as lists of steps.
use Rattle.std.specs.Prelude.{ℕ, List, [], ◌∷◌, Option, Some, None, Result, Ok, Err}
use Rattle.deed_core.specs.Tag.{Tag}
use Rattle.deed_core.specs.declared.requests.Request.{Request}
use Rattle.arena_tree.specs.declared.levels.Level.{Level}
use Rattle.arena_tree.specs.declared.part_faults.PartFault.{PartFault}
use Rattle.arena_tree.specs.declared.part_faults.GivenFault.{GivenFault}
use Rattle.arena_tree.specs.declared.part_faults.ChangeFault.{ChangeFault}
use Rattle.tag_arena.specs.declared.faults.ArenaFault.{ArenaFault}
use Rattle.slab_layer.specs.declared.faults.AddFault.{AddFault}
use Rattle.magazine_layer.specs.declared.faults.FullFault.{FullFault}
use Rattle.arena_tree.specs.declared.part_faults.PartFault.TheVariants as asking
use Rattle.arena_tree.specs.declared.part_faults.GivenFault.TheVariants as giving
use Rattle.tag_arena.specs.declared.faults.ArenaFault.TheVariants.{NoFit}
use Rattle.slab_layer.specs.declared.faults.AddFault.TheVariants as slabbing
use Rattle.magazine_layer.specs.declared.faults.FullFault.TheVariants.{OldSize, NoneFull}
use Rattle.arena_tree.specs.declared.part_faults.ClimbFault.{ClimbFault}
use Rattle.arena_tree.specs.declared.part_faults.ClimbFault.TheVariants as climbing
use Rattle.arena_tree.specs.declared.part_faults.Stopped.{Stopped}
use Rattle.arena_tree.specs.Events.{Carve, SlabTake, SlabAdd, SwapFull, Pop, Change}
use Rattle.arena_tree.specs.Plans.{Plan, Done, Ask, then, first_that_gives}
use Rattle.arena_tree.specs.Climbs.{ClimbEnd, climb_plan, give_back_plan}
use Rattle.arena_tree.specs.Tags.{tag_climb}
use Rattle.quantum_cache.specs.Sizes.{cache_for}

-- what a stage of an allocation ends with: nothing, where the next one is tried
abbrev pub Stage : Type 0
Stage = Option ClimbEnd

abbrev pub tag_stage : {X : Type 0} → (X → Tag) → Option (Result X (ClimbFault X)) → Stage
tag_stage f None = None
tag_stage f (Some r) = Some (tag_climb f r)

-- the next stage is tried where nothing came
abbrev pub on_take : Result (Option Tag) Stopped → Stage
on_take (Ok None) = None
on_take (Ok (Some t)) = Some (Ok t)
on_take (Err e) = Some (Err (climbing.Stopped None))

-- 1. pop
unfoldable pub take_round : ℕ → ℕ → Plan Stage
take_round arena cache = Ask (Pop arena cache) (λ a. Done (on_take a))

-- the CPU changes over to magazines of the depot's size; the next stage is tried even where it
-- couldn't
abbrev pub on_change_over : Result (Unit {0}) (PartFault ChangeFault) → Stage
on_change_over (Ok u) = None
on_change_over (Err (asking.Refused f)) = None
on_change_over (Err asking.Stopped) = Some (Err (climbing.Stopped None))

unfoldable pub change_over : ℕ → ℕ → ℕ → Plan Stage
change_over arena cache size = Ask (Change arena cache size) (λ a. Done (on_change_over a))

-- 2. swap_full, then pop; on OldSize two magazines are made and changed to, and there is no second
-- exchange
abbrev pub on_swap_full : ℕ → ℕ → Result (Unit {0}) (PartFault FullFault) → Plan Stage
on_swap_full arena cache (Ok u) = take_round arena cache
on_swap_full arena cache (Err (asking.Refused (OldSize size))) = change_over arena cache size
on_swap_full arena cache (Err (asking.Refused NoneFull)) = Done None
on_swap_full arena cache (Err asking.Stopped) = Done (Some (Err (climbing.Stopped None)))

unfoldable pub take_from_depot : ℕ → ℕ → Plan Stage
take_from_depot arena cache = Ask (SwapFull arena cache) (on_swap_full arena cache)

-- 3. slab_take
unfoldable pub take_chunk : ℕ → ℕ → Plan Stage
take_chunk arena cache = Ask (SlabTake arena cache) (λ a. Done (on_take a))

-- 4. a climb of the slab size, then slab_add; out of memory for that, the span is freed upwards
abbrev pub on_slab_add : List Level → Result Tag (GivenFault (AddFault Tag) Tag) → Plan ClimbEnd
on_slab_add chain (Ok t) = Done (Ok t)
on_slab_add chain (Err (giving.Refused (slabbing.NoMemory t))) = give_back_plan chain t
on_slab_add chain (Err (giving.Refused (slabbing.WrongSize t))) = Done (Err (climbing.Stuck t))
on_slab_add chain (Err (giving.Refused (slabbing.Overlaps t))) = Done (Err (climbing.Stuck t))
on_slab_add chain (Err (giving.Stopped t)) = Done (Err (climbing.Stopped (Some t)))

unfoldable pub make_slab : List Level → ℕ → ℕ → Tag → Plan ClimbEnd
make_slab chain arena cache span = Ask (SlabAdd arena cache span) (on_slab_add chain)

-- after NoFit alone the next stage is tried
abbrev pub on_no_slab : ClimbFault Tag → Stage
on_no_slab (climbing.Refused NoFit) = None
on_no_slab f = Some (Err f)

abbrev pub on_slab_climb : List Level → ℕ → ℕ → ClimbEnd → Plan Stage
on_slab_climb chain arena cache (Ok span) =
    then (make_slab chain arena cache span) (λ r. Done (Some r))
on_slab_climb chain arena cache (Err f) = Done (on_no_slab f)

unfoldable pub take_from_slab : List Level → Level → ℕ → Plan Stage
take_from_slab chain l cache =
    then (climb_plan chain l.slab_size) (on_slab_climb chain l.id cache)

-- the stages in their order; 5. a climb of the size itself
unfoldable pub alloc_cached : List Level → Level → ℕ → ℕ → Plan ClimbEnd
alloc_cached chain l cache size =
    first_that_gives
    (take_round l.id cache ∷ take_from_depot l.id cache ∷ take_chunk l.id cache
    ∷ take_from_slab chain l cache ∷ [])
    (climb_plan chain size)

abbrev pub alloc_steps : Option ℕ → List Level → Level → ℕ → Plan ClimbEnd
alloc_steps None chain l size = climb_plan chain size
alloc_steps (Some cache) chain l size = alloc_cached chain l cache size

-- so many units of the chain's first arena: by its cache for that size, or else by a climb
abbrev pub alloc_plan : List Level → ℕ → Plan ClimbEnd
alloc_plan [] size = Done (Err (climbing.Refused NoFit))
alloc_plan (l ∷ up) size = alloc_steps (cache_for l size) (l ∷ up) l size

-- a constrained request: one carve, and never an import
abbrev pub xalloc_plan : ℕ → Request → Plan (Result Tag (PartFault ArenaFault))
xalloc_plan arena request = Ask (Carve arena request) (λ a. Done a)
