-- What a contract sees of a stock: its arenas, each with its source and its quantum caches.
use Rattle.std.specs.Prelude.{◌≡◌, ℕ, List, map, set, slice_get, Option, Some}
use Rattle.tag_arena.specs.declared.policies.Policy.{Policy}
use Rattle.tag_arena.specs.ArenaState.{ArenaState}
use Rattle.slab_layer.specs.Cache.{SlabCacheState}
use Rattle.magazine_layer.specs.Depots.{DepotState}

-- a quantum cache: its slabs, and the magazines that no CPU has
pub record QuantumCacheState : Type 0 where
  pub slab : SlabCacheState
  pub depot : DepotState

-- an arena, the arena that it imports from, and its caches, of which the first has chunks of one
-- quantum, the second of two, and so on
pub record SpaceState : Type 0 where
  pub arena : ArenaState
  pub source : Option ℕ
  pub caches : List QuantumCacheState

-- the space with another arena in it
abbrev pub with_arena : ArenaState → SpaceState → SpaceState
with_arena a s = record { arena = a; source = s.source; caches = s.caches }

-- with other caches
abbrev pub with_caches : List QuantumCacheState → SpaceState → SpaceState
with_caches cs s = record { arena = s.arena; source = s.source; caches = cs }

-- with another cache at that index
abbrev pub with_cache : ℕ → QuantumCacheState → SpaceState → SpaceState
with_cache j c s = with_caches (set s.caches j c) s

-- the cache with other slabs
abbrev pub with_slab : SlabCacheState → QuantumCacheState → QuantumCacheState
with_slab x c = record { slab = x; depot = c.depot }

-- with another depot
abbrev pub with_depot : DepotState → QuantumCacheState → QuantumCacheState
with_depot d c = record { slab = c.slab; depot = d }

-- the cache stands at the index j of the arena at the index k
pub record IsCacheAt (spaces : List SpaceState) (k j : ℕ) (c : QuantumCacheState)
    : Type 0 where
  pub space : SpaceState
  pub at : slice_get spaces k ≡ Some space
  pub among : slice_get space.caches j ≡ Some c

-- some cache does
abbrev pub HasCache : List SpaceState → ℕ → ℕ → Type 0
HasCache spaces k j = (c : QuantumCacheState) × IsCacheAt spaces k j c

-- what an arena was set up as
pub record SpacePlan : Type 0 where
  pub source : Option ℕ
  pub quantum : ℕ
  pub policy : Policy
  pub slab_sizes : List ℕ

abbrev pub slab_size_of : QuantumCacheState → ℕ
slab_size_of c = c.slab.slab_size

abbrev pub plan_of : SpaceState → SpacePlan
plan_of s = record {
  source = s.source;
  quantum = s.arena.quantum;
  policy = s.arena.policy;
  slab_sizes = map slab_size_of s.caches;
}

abbrev pub plans_of : List SpaceState → List SpacePlan
plans_of spaces = map plan_of spaces

abbrev pub quantum_of : SpaceState → ℕ
quantum_of s = s.arena.quantum

abbrev pub quanta_of : List SpaceState → List ℕ
quanta_of spaces = map quantum_of spaces
