-- Quantum caches, and what a contract sees of a CPU's magazines and of a depot with theirs.
use Rattle.std.specs.Prelude.{◌≡◌, ℕ, zero, suc, ◌*◌, ◌<◌, List, [], ◌∷◌, ◌++◌, All, length}
use Rattle.std.specs.Prelude.{◌≤◌, map, sum_by}
use Rattle.std.specs.Prelude.{Option, Some, None, slice_get, slice_index}
use Rattle.arena_tree.specs.Chains.{quantum_in}
use Rattle.arena_tree.specs.Trees.{caches_up_to, nodes_of}
use Rattle.arena_tree.specs.declared.trees.TreeArena.{TreeArena}
use Rattle.deed_core.specs.Tag.{Tag}
use Rattle.deed_core.specs.declared.segments.Route.TheVariants.{Cached}
use Rattle.slab_layer.specs.Cache.{IsSegmentOf, SlabCacheState}
use Rattle.magazine_layer.specs.Magazines.{CpuCacheState, cache_rounds}
use Rattle.magazine_layer.specs.Depots.{DepotState, depot_rounds}
use Rattle.locked_parts.specs.declared.kinds.CacheKind.{CacheKind}

-- a chunk of the quantum cache
abbrev pub IsOfKind : CacheKind → Tag → Type 0
IsOfKind k t = IsSegmentOf k.arena (Cached k.number) (k.number * k.quantum) k.quantum t

-- the slabs of the quantum cache
abbrev pub AreSlabsOf : CacheKind → SlabCacheState → Type 0
AreSlabsOf k c = (c.arena ≡ k.arena) × (c.k ≡ k.number) × (c.quantum ≡ k.quantum)

-- a CPU's magazines for a quantum cache
pub record OwnCacheState : Type 0 where
  pub kind : CacheKind
  pub cpu : CpuCacheState

-- how many rounds a magazine holds at first
abbrev pub first_size : ℕ
first_size = 3

-- as they begin: two empty ones
abbrev pub new_own : CacheKind → OwnCacheState
new_own k = record { kind = k; cpu = record { size = first_size; loaded = []; previous = [] } }

-- all their rounds are chunks of it
pub record IsOwnCache (r : OwnCacheState) : Type 0 where
  pub some : 0 < r.kind.quantum
  pub rounds : All (IsOfKind r.kind) (cache_rounds r.cpu)

-- a depot for a quantum cache
pub record KindDepotState : Type 0 where
  pub kind : CacheKind
  pub depot : DepotState

-- and all its rounds
pub record IsKindDepot (d : KindDepotState) : Type 0 where
  pub some : 0 < d.kind.quantum
  pub rounds : All (IsOfKind d.kind) (depot_rounds d.depot)

-- magazines are still for the same quantum caches, in the same order
abbrev pub AreForSame : (old new : List OwnCacheState) → Type 0
AreForSame old new = map (λ r. r.kind) new ≡ map (λ r. r.kind) old

-- how many rounds a CPU's magazines have
abbrev pub count_of_rounds : List OwnCacheState → ℕ
count_of_rounds caches = sum_by (λ r. length (cache_rounds r.cpu)) caches

-- how many quantum caches an arena has
abbrev pub caches_if : Option TreeArena → ℕ
caches_if None = 0
caches_if (Some x) = caches_up_to x.quantum x.qcache_max

abbrev pub count_of_caches : List TreeArena → ℕ → ℕ
count_of_caches arenas id = caches_if (slice_get arenas id)

-- the quantum caches of an arena with this quantum: that of one quantum, of two, and so on
abbrev pub kinds_up_to : (arena quantum count : ℕ) → List CacheKind
kinds_up_to arena quantum zero = []
kinds_up_to arena quantum (suc n) = kinds_up_to arena quantum n
    ++ record { arena = arena; number = suc n; quantum = quantum } ∷ []

-- those of the first arenas, so many
abbrev pub kinds_of_first : List TreeArena → ℕ → List CacheKind
kinds_of_first arenas zero = []
kinds_of_first arenas (suc n) = kinds_of_first arenas n
    ++ kinds_up_to n (quantum_in (nodes_of arenas) n) (count_of_caches arenas n)

-- those of all arenas, in their order
abbrev pub kinds_of : List TreeArena → List CacheKind
kinds_of arenas = kinds_of_first arenas (length arenas)

-- how many the arenas before one have: a CPU's magazines for its caches begin there
abbrev pub caches_before : List TreeArena → ℕ → ℕ
caches_before arenas id = length (kinds_of_first arenas id)

-- and so for each arena, by its number
abbrev pub AreCachesBefore : List TreeArena → List ℕ → Type 0
AreCachesBefore arenas counts = (id : ℕ) → id < length arenas
    → slice_index counts id ≡ caches_before arenas id

-- the quantum cache is one of an arena's
pub record IsCacheOf (arenas : List TreeArena) (k : CacheKind) : Type 0 where
  pub within : k.arena < length arenas
  pub some : 0 < k.number
  pub most : k.number ≤ count_of_caches arenas k.arena
  pub quantum : quantum_in (nodes_of arenas) k.arena ≡ k.quantum
