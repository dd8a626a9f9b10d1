-- How many looks a reaping takes.
use Rattle.std.specs.Prelude.{ℕ, ◌+◌, ◌*◌, ◌<◌, ◌≤◌, List, Ok, length, sum_by}
use Rattle.magazine_layer.specs.Depots.{depot_rounds}
use Rattle.arena_tree.specs.declared.limits.TheConstants.{MOST_CACHES}
use Rattle.arena_tree.specs.declared.trees.TreeArena.{TreeArena}
use Rattle.quantum_cache.specs.declared.reaps.Reaping.{Reaping}
use Rattle.quantum_cache.specs.Reaps.{reap_plan}
use Rattle.stock.specs.Spaces.{SpaceState, QuantumCacheState}
use Rattle.local_parts.specs.States.{LocalState}
use Rattle.local_calls.specs.Reaped.{NoneToReap}
use Rattle.local_calls.specs.Runs.{IsLocalOf, RunsTo}

-- what looks may find: the rounds of depots, and slabs; of a cache, of an arena, of all
abbrev pub finds_in_cache : QuantumCacheState → ℕ
finds_in_cache c = length (depot_rounds c.depot) + length c.slab.slabs

abbrev pub finds_in_space : SpaceState → ℕ
finds_in_space s = sum_by finds_in_cache s.caches

abbrev pub finds_in_spaces : List SpaceState → ℕ
finds_in_spaces spaces = sum_by finds_in_space spaces

-- one look for each of these, and two for each cache that find nothing
abbrev pub looks_enough : List SpaceState → ℕ
looks_enough spaces = finds_in_spaces spaces + 2 * MOST_CACHES * length spaces

-- A reaping takes no more looks than are enough for what it doesn't leave to be found.
abbrev pub ReapTakesFewLooks : Type 0
ReapTakesFewLooks = (arenas : List TreeArena) (limit : ℕ) (old new : LocalState) (r : Reaping)
    → IsLocalOf arenas old → RunsTo arenas (reap_plan arenas limit) old new (Ok r)
    → limit + finds_in_spaces new.spaces ≤ r.left + looks_enough old.spaces

-- So one whose limit is greater leaves nothing that could be reaped.
abbrev pub ReapWithoutLimit : Type 0
ReapWithoutLimit = (arenas : List TreeArena) (limit : ℕ) (old new : LocalState) (r : Reaping)
    → IsLocalOf arenas old → RunsTo arenas (reap_plan arenas limit) old new (Ok r)
    → looks_enough old.spaces < limit → (0 < r.left) × NoneToReap new.spaces
