-- What the calls of quantum caches come to over one thread's parts.
use Rattle.std.specs.Prelude.{◌≡◌, ◌<◌, ℕ, List, length, Some, None, Result, Ok, Err}
use Rattle.deed_core.specs.Tag.{Tag}
use Rattle.deed_core.specs.declared.requests.Request.{Request}
use Rattle.arena_tree.specs.declared.levels.Level.{Level}
use Rattle.arena_tree.specs.declared.part_faults.PartFault.{PartFault}
use Rattle.tag_arena.specs.declared.faults.ArenaFault.{ArenaFault}
use Rattle.arena_tree.specs.declared.part_faults.PartFault.TheVariants as asking
use Rattle.tag_arena.specs.declared.faults.ArenaFault.TheVariants as carving
use Rattle.arena_tree.specs.declared.part_faults.ClimbFault.TheVariants as climbing
use Rattle.arena_tree.specs.declared.trees.TreeArena.{TreeArena}
use Rattle.arena_tree.specs.Chains.{IsChain, first_id}
use Rattle.arena_tree.specs.Climbs.{ClimbEnd, ReturnEnd}
use Rattle.arena_tree.specs.Trees.{nodes_of}
use Rattle.quantum_cache.specs.declared.reaps.Reaping.{Reaping}
use Rattle.quantum_cache.specs.Allocs.{alloc_plan, xalloc_plan}
use Rattle.quantum_cache.specs.Drains.{DrainEnd, drain_plan}
use Rattle.quantum_cache.specs.Frees.{free_plan}
use Rattle.quantum_cache.specs.Reaps.{ReapEnd, reap_plan}
use Rattle.stock.specs.Stocks.{IsStock}
use Rattle.local_parts.specs.Cpus.{cpu_rounds, HasNoRounds}
use Rattle.local_parts.specs.States.{LocalState, IsUnchanged}
use Rattle.local_calls.specs.Asked.{AsksWell, DoesWell}
use Rattle.local_calls.specs.NoFits.{HasBase, NothingFits}
use Rattle.local_calls.specs.Reaped.{NoneToReap}
use Rattle.local_calls.specs.Runs.{IsLocalOf, IsAccountedWith, RunsTo}

-- an allocation gives a segment, or is refused with an empty hand: nothing is stuck or stopped
abbrev pub AllocsWell : ClimbEnd → Type 0
AllocsWell (Ok t) = Unit {0}
AllocsWell (Err (climbing.Refused f)) = Unit {0}
AllocsWell (Err (climbing.Stuck t)) = ⊥
AllocsWell (Err (climbing.Stopped o)) = ⊥

-- a drain ends with all rounds placed, unless its turns ran out, of which DrainWithTurns says how
-- many are enough
abbrev pub DrainsWell : DrainEnd → Type 0
DrainsWell (Ok u) = Unit {0}
DrainsWell (Err None) = Unit {0}
DrainsWell (Err (Some f)) = ⊥

-- Where the accounts balance, whoever else holds segments: no allocation ends stuck or stopped.
abbrev pub AllocNeverStuck : Type 0
AllocNeverStuck = (arenas : List TreeArena) (chain : List Level) (size : ℕ)
    (old new : LocalState) (others : List Tag) (a : ClimbEnd) → IsChain (nodes_of arenas) chain
    → IsLocalOf arenas old → IsAccountedWith old None others
    → RunsTo arenas (alloc_plan chain size) old new a → AllocsWell a

-- Nor does one of a constrained request.
abbrev pub XallocNeverStops : Type 0
XallocNeverStops = (arenas : List TreeArena) (arena : ℕ) (request : Request)
    (old new : LocalState) (others : List Tag) (a : Result Tag (PartFault ArenaFault))
    → IsLocalOf arenas old → IsAccountedWith old None others
    → RunsTo arenas (xalloc_plan arena request) old new a → AsksWell a

-- A segment that is out can always be freed.
abbrev pub FreeAlwaysDone : Type 0
FreeAlwaysDone = (arenas : List TreeArena) (chain : List Level) (t : Tag) (old new : LocalState)
    (others : List Tag) (a : ReturnEnd) → IsChain (nodes_of arenas) chain
    → first_id chain ≡ Some t.arena → IsLocalOf arenas old → IsAccountedWith old (Some t) others
    → RunsTo arenas (free_plan chain t) old new a → DoesWell a

-- A drain ends well, and so does a reaping.
abbrev pub DrainAlwaysDone : Type 0
DrainAlwaysDone = (turns : ℕ) (arenas : List TreeArena) (old new : LocalState) (others : List Tag)
    (a : DrainEnd) → IsLocalOf arenas old → IsAccountedWith old None others
    → RunsTo arenas (drain_plan turns arenas) old new a → DrainsWell a

abbrev pub ReapAlwaysDone : Type 0
ReapAlwaysDone = (arenas : List TreeArena) (limit : ℕ) (old new : LocalState) (others : List Tag)
    (a : ReapEnd) → IsLocalOf arenas old → IsAccountedWith old None others
    → RunsTo arenas (reap_plan arenas limit) old new a → DoesWell a

-- An allocation that ends with NoFit has found nothing that serves, in the parts as they were when
-- it began, and leaves the stock as it was: at most the CPU has changed over, with no round.
abbrev pub NoFitIsRight : Type 0
NoFitIsRight = (arenas : List TreeArena) (chain : List Level) (size : ℕ) (old new : LocalState)
    → IsStock old.spaces
    → RunsTo arenas (alloc_plan chain size) old new (Err (climbing.Refused carving.NoFit))
    → NothingFits old chain size × (new.spaces ≡ old.spaces)
    × (cpu_rounds new.cpu ≡ cpu_rounds old.cpu)

-- A constrained request: no address of the arena serves it, and nothing changes.
abbrev pub XallocNoFitIsRight : Type 0
XallocNoFitIsRight = (arenas : List TreeArena) (arena : ℕ) (request : Request)
    (old new : LocalState) → IsStock old.spaces
    → RunsTo arenas (xalloc_plan arena request) old new (Err (asking.Refused carving.NoFit))
    → (¬ HasBase old.spaces arena request) × IsUnchanged old new

-- A drain that ends well leaves the CPU no round.
abbrev pub DrainEmptiesCpu : Type 0
DrainEmptiesCpu = (turns : ℕ) (arenas : List TreeArena) (old new : LocalState)
    → IsLocalOf arenas old → RunsTo arenas (drain_plan turns arenas) old new (Ok tt)
    → HasNoRounds new.cpu

-- A drain with more turns than the CPU has rounds ends well, whoever else holds segments: its turns
-- don't run out.
abbrev pub DrainWithTurns : Type 0
DrainWithTurns = (turns : ℕ) (arenas : List TreeArena) (old new : LocalState) (others : List Tag)
    (a : DrainEnd) → IsLocalOf arenas old → IsAccountedWith old None others
    → length (cpu_rounds old.cpu) < turns → RunsTo arenas (drain_plan turns arenas) old new a
    → (a ≡ Ok tt) × HasNoRounds new.cpu

-- A reaping that ends before its limit leaves nothing that could be reaped.
abbrev pub ReapLeavesNothing : Type 0
ReapLeavesNothing = (arenas : List TreeArena) (limit : ℕ) (old new : LocalState) (r : Reaping)
    → IsLocalOf arenas old → RunsTo arenas (reap_plan arenas limit) old new (Ok r) → 0 < r.left
    → NoneToReap new.spaces
