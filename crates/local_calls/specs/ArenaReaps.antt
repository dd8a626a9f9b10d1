-- What a reaping of one arena comes to over one thread's parts: the first of its chain.
use Rattle.std.specs.Prelude.{◌≡◌, ◌+◌, ◌*◌, ◌<◌, ◌≤◌, ℕ, List, Some, None, Ok}
use Rattle.deed_core.specs.Tag.{Tag}
use Rattle.arena_tree.specs.declared.levels.Level.{Level}
use Rattle.arena_tree.specs.declared.limits.TheConstants.{MOST_CACHES}
use Rattle.arena_tree.specs.declared.trees.TreeArena.{TreeArena}
use Rattle.arena_tree.specs.Chains.{IsChain, first_id}
use Rattle.arena_tree.specs.Trees.{nodes_of}
use Rattle.quantum_cache.specs.declared.reaps.Reaping.{Reaping}
use Rattle.quantum_cache.specs.Reaps.{ReapEnd, reap_arena_plan}
use Rattle.local_parts.specs.States.{LocalState}
use Rattle.local_calls.specs.Asked.{DoesWell}
use Rattle.local_calls.specs.Looks.{finds_in_spaces}
use Rattle.local_calls.specs.Reaped.{NoneToReapAt, NoneToReapIn}
use Rattle.local_calls.specs.Runs.{IsLocalOf, IsAccountedWith, RunsTo}

-- the arena was reaped by the chain, in at most so many looks
abbrev pub ReapsArena : List TreeArena → List Level → ℕ → LocalState → LocalState → ReapEnd → Type 0
ReapsArena arenas chain limit old new a =
    RunsTo arenas (reap_arena_plan chain (record { left = limit; units = 0 })) old new a

-- Where the accounts balance, whoever else holds segments, it ends well.
abbrev pub ReapArenaAlwaysDone : Type 0
ReapArenaAlwaysDone = (arenas : List TreeArena) (chain : List Level) (limit : ℕ)
    (old new : LocalState) (others : List Tag) (a : ReapEnd) → IsChain (nodes_of arenas) chain
    → IsLocalOf arenas old → IsAccountedWith old None others
    → ReapsArena arenas chain limit old new a → DoesWell a

-- With looks left it leaves nothing of the arena that could be reaped.
abbrev pub ReapArenaLeavesNothing : Type 0
ReapArenaLeavesNothing = (arenas : List TreeArena) (chain : List Level) (id limit : ℕ)
    (old new : LocalState) (r : Reaping) → IsChain (nodes_of arenas) chain
    → first_id chain ≡ Some id → IsLocalOf arenas old
    → ReapsArena arenas chain limit old new (Ok r) → 0 < r.left → NoneToReapIn new.spaces id

-- Whatever its limit, a cache that had nothing, of any arena, has nothing after it.
abbrev pub ReapArenaBringsNothing : Type 0
ReapArenaBringsNothing = (arenas : List TreeArena) (chain : List Level) (id limit : ℕ)
    (old new : LocalState) (r : Reaping) → IsChain (nodes_of arenas) chain
    → first_id chain ≡ Some id → IsLocalOf arenas old
    → ReapsArena arenas chain limit old new (Ok r)
    → (k j : ℕ) → NoneToReapAt old.spaces k j → NoneToReapAt new.spaces k j

-- It takes no more looks than one for each round of a depot and each slab that it doesn't leave to
-- be found, and two for each cache of the arena.
abbrev pub ReapArenaTakesFewLooks : Type 0
ReapArenaTakesFewLooks = (arenas : List TreeArena) (chain : List Level) (limit : ℕ)
    (old new : LocalState) (r : Reaping) → IsChain (nodes_of arenas) chain → IsLocalOf arenas old
    → ReapsArena arenas chain limit old new (Ok r)
    → limit + finds_in_spaces new.spaces ≤ r.left + finds_in_spaces old.spaces + 2 * MOST_CACHES
