-- Laws of the lists of steps through caches, over all chains and trees: where each segment is, and
-- how many locks they take.
use Rattle.std.specs.Prelude.{ℕ, ◌+◌, ◌-◌, ◌*◌, ◌≤◌, List, Option, Some, None, Result, Ok, Err}
use Rattle.std.specs.Prelude.{length}
use Rattle.deed_core.specs.Tag.{Tag}
use Rattle.deed_core.specs.declared.requests.Request.{Request}
use Rattle.deed_core.specs.declared.segments.Route.{Route}
use Rattle.deed_core.specs.declared.segments.Route.TheVariants.{Direct, Cached}
use Rattle.arena_tree.specs.declared.levels.Level.{Level}
use Rattle.arena_tree.specs.declared.limits.TheConstants.{LONGEST_CHAIN}
use Rattle.arena_tree.specs.declared.part_faults.PartFault.{PartFault}
use Rattle.tag_arena.specs.declared.faults.ArenaFault.{ArenaFault}
use Rattle.arena_tree.specs.declared.trees.TreeArena.{TreeArena}
use Rattle.arena_tree.specs.Climbs.{ClimbEnd, ReturnEnd, climb_left, return_left}
use Rattle.arena_tree.specs.Plans.{Within, Handles}
use Rattle.quantum_cache.specs.declared.emptying_faults.EmptyingFault.{EmptyingFault}
use Rattle.quantum_cache.specs.declared.emptying_faults.EmptyingFault.TheVariants as emptying
use Rattle.quantum_cache.specs.declared.reaps.Reaping.{Reaping}
use Rattle.quantum_cache.specs.Allocs.{alloc_plan, xalloc_plan}
use Rattle.quantum_cache.specs.Drains.{DrainEnd, drain_plan}
use Rattle.quantum_cache.specs.Frees.{free_plan}
use Rattle.quantum_cache.specs.Reaps.{ReapEnd, reap_arena_plan, reap_plan}

-- the hand after a carve, after what empties, and after a reaping
abbrev pub carve_left : Result Tag (PartFault ArenaFault) → Option Tag
carve_left (Ok t) = Some t
carve_left (Err e) = None

abbrev pub emptying_left : EmptyingFault Tag → Option Tag
emptying_left (emptying.Stuck t) = Some t
emptying_left (emptying.Stopped o) = o

abbrev pub drain_left : DrainEnd → Option Tag
drain_left (Ok u) = None
drain_left (Err None) = None
drain_left (Err (Some f)) = emptying_left f

abbrev pub reap_left : ReapEnd → Option Tag
reap_left (Ok r) = None
reap_left (Err f) = emptying_left f.cause

-- An allocation begins with an empty hand. It ends with the segment that it gives, with an empty
-- hand, or with the one segment that a part refused or that wasn't placed any more: all else that
-- it took it has put into a part, or left in the CPU's magazines.
abbrev pub AllocHandles : Type 0
AllocHandles = (chain : List Level) (size : ℕ) → Handles climb_left (alloc_plan chain size) None

-- So does one of a constrained request, which has nothing in its hand but what it gives.
abbrev pub XallocHandles : Type 0
XallocHandles = (arena : ℕ) (request : Request)
    → Handles carve_left (xalloc_plan arena request) None

-- A free begins with its segment in the hand, and ends with an empty hand, or with the segment that
-- wasn't placed.
abbrev pub FreeHandles : Type 0
FreeHandles = (chain : List Level) (t : Tag) → Handles return_left (free_plan chain t) (Some t)

-- A drain and a reaping begin with an empty hand, and end so, or with the segment that wasn't
-- placed.
abbrev pub DrainHandles : Type 0
DrainHandles = (turns : ℕ) (arenas : List TreeArena)
    → Handles drain_left (drain_plan turns arenas) None

abbrev pub ReapArenaHandles : Type 0
ReapArenaHandles = (chain : List Level) (r : Reaping)
    → Handles reap_left (reap_arena_plan chain r) None

abbrev pub ReapHandles : Type 0
ReapHandles = (arenas : List TreeArena) (limit : ℕ)
    → Handles reap_left (reap_plan arenas limit) None

-- In a chain of d arenas, four at most, an allocation takes at most 8 + 2 d locks.
abbrev pub AllocIsShort : Type 0
AllocIsShort = (chain : List Level) (size : ℕ) → length chain ≤ LONGEST_CHAIN
    → Within (λ (r : ClimbEnd). 8 + 2 * length chain) (alloc_plan chain size) 0

-- A free of what was carved takes at most d, and one of a round three.
abbrev pub free_most : Route → ℕ → ℕ
free_most Direct depth = depth
free_most (Cached k) depth = 3

abbrev pub FreeIsShort : Type 0
FreeIsShort = (chain : List Level) (t : Tag)
    → Within (λ (r : ReturnEnd). free_most t.route (length chain)) (free_plan chain t) 0

-- the looks that a reaping didn't take
abbrev pub looks_left : ReapEnd → ℕ
looks_left (Ok r) = r.left
looks_left (Err f) = f.reaping.left

-- A reaping takes at most five for each look: its own, and those of a hand back.
abbrev pub ReapIsShort : Type 0
ReapIsShort = (arenas : List TreeArena) (limit : ℕ)
    → Within (λ (r : ReapEnd). (1 + LONGEST_CHAIN) * (limit - looks_left r))
    (reap_plan arenas limit) 0

-- So does one of an arena by its chain, four at most.
abbrev pub ReapArenaIsShort : Type 0
ReapArenaIsShort = (chain : List Level) (limit : ℕ) → length chain ≤ LONGEST_CHAIN
    → Within (λ (r : ReapEnd). (1 + LONGEST_CHAIN) * (limit - looks_left r))
    (reap_arena_plan chain (record { left = limit; units = 0 })) 0
