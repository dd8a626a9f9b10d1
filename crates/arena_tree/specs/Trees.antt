-- What a contract sees of a tree, and what is always so of one.
use Rattle.std.specs.Int.{IsPowerOfTwo, IsNextPowerOfTwo}
use Rattle.std.specs.Str.{bytes_eq}
use Rattle.std.specs.Prelude.{◌≡◌, ◌≢◌, ℕ, ◌+◌, ◌*◌, ◌/◌, ◌%◌, ◌^◌, ◌<◌, ◌≤◌, List, [], ◌∷◌}
use Rattle.std.specs.Prelude.{AllPairs, map, min, length, position, slice_get, Option, Some, None}
use Rattle.std.specs.Prelude.{IfSome}
use Rattle.deed_core.specs.Extent.{Extent, IsRange}
use Rattle.tag_arena.specs.ArenaState.{OnQuantum}
use Rattle.arena_tree.specs.declared.limits.TheConstants.{MOST_ARENAS, MOST_CACHES, LONGEST_CHAIN}
use Rattle.arena_tree.specs.declared.levels.Level.{Level}
use Rattle.arena_tree.specs.declared.trees.TreeArena.{TreeArena}
use Rattle.arena_tree.specs.Chains.{Node}

-- the number of the arena of this name
abbrev pub index_in : List ℕ → List TreeArena → Option ℕ
index_in name arenas = position (λ x. bytes_eq x.name name) arenas

abbrev pub name_or_none : Option TreeArena → List ℕ
name_or_none None = []
name_or_none (Some x) = x.name

-- the name of the arena of this number
abbrev pub arena_named : List TreeArena → ℕ → List ℕ
arena_named arenas id = name_or_none (slice_get arenas id)

-- what lists of steps need of an arena
abbrev pub level_of : ℕ → TreeArena → Level
level_of id x = record {
  id = id;
  quantum = x.quantum;
  import_min = x.import_min;
  qcache_max = x.qcache_max;
  slab_size = x.slab_size;
}

-- and as a node
abbrev pub node_of : TreeArena → Node
node_of x = record {
  source = x.source;
  quantum = x.quantum;
  import_min = x.import_min;
  qcache_max = x.qcache_max;
  slab_size = x.slab_size;
}

abbrev pub nodes_of : List TreeArena → List Node
nodes_of arenas = map node_of arenas

-- the arena of this number, its source, that one's source, and so on; from no arena, none
abbrev pub ChainFrom : List TreeArena → Option ℕ → List Level → Type 0
ChainFrom arenas None [] = Unit {0}
ChainFrom arenas None (l ∷ up) = ⊥
ChainFrom arenas (Some id) [] = ⊥
ChainFrom arenas (Some id) (l ∷ up) = (x : TreeArena) × (slice_get arenas id ≡ Some x)
    × (l ≡ level_of id x) × ChainFrom arenas x.source up

-- the range has a unit, ends at 2^62 or below, and is in whole quanta
abbrev pub IsWholeRange : ℕ → Extent → Type 0
IsWholeRange quantum e = IsRange e × OnQuantum quantum e

-- the slabs of an arena that caches sizes up to this one: the next power of two above three times
-- that, or 0 where nothing is cached
abbrev pub IsSlabSize : ℕ → ℕ → Type 0
IsSlabSize most size = (most ≡ 0 → size ≡ 0) × (most ≢ 0 → IsNextPowerOfTwo (3 * most + 1) size)

-- the sizes that are cached are the first so many multiples of the quantum, MOST_CACHES at most,
-- and a slab has at most 2^62 units
abbrev pub HasCaches : ℕ → ℕ → ℕ → Type 0
HasCaches quantum most size = (most % quantum ≡ 0) × (most ≤ MOST_CACHES * quantum)
    × IsSlabSize most size × (size ≤ 2 ^ 62)

-- how many quantum caches an arena has that caches sizes up to this one: one for each multiple of
-- its quantum
abbrev pub caches_up_to : (quantum most : ℕ) → ℕ
caches_up_to quantum most = min (most / quantum) 255

abbrev pub CanCache : ℕ → ℕ → Type 0
CanCache quantum most = (size : ℕ) × HasCaches quantum most size

-- the source is an earlier arena, whose quantum is no smaller
abbrev pub ImportsFrom : List TreeArena → ℕ → TreeArena → ℕ → Type 0
ImportsFrom arenas id x source = (source < id) × ((y : TreeArena)
    × (slice_get arenas source ≡ Some y) × (x.quantum ≤ y.quantum))

-- an arena of the tree, with this number; one without a source imports nothing
pub record IsArena (arenas : List TreeArena) (id : ℕ) (x : TreeArena) : Type 0 where
  pub power : IsPowerOfTwo x.quantum
  pub caches : HasCaches x.quantum x.qcache_max x.slab_size
  pub source : IfSome x.source (ImportsFrom arenas id x)
  pub minimum : x.source ≡ None → x.import_min ≡ 0

-- what is so of every tree: at most MOST_ARENAS arenas, each with a name of its own, an earlier
-- source and a chain of at most LONGEST_CHAIN
pub record IsTree (arenas : List TreeArena) : Type 0 where
  pub few : length arenas ≤ MOST_ARENAS
  pub names : AllPairs (λ x y. x.name ≢ y.name) arenas
  pub each : (id : ℕ) (x : TreeArena) → slice_get arenas id ≡ Some x → IsArena arenas id x
  pub short : (id : ℕ) (chain : List Level) → ChainFrom arenas (Some id) chain
      → length chain ≤ LONGEST_CHAIN
