-- Arenas by number, chains of them, and what an arena gives.
use Rattle.std.specs.Prelude.{◌≡◌, ℕ, ◌*◌, ◌-◌, ◌^◌, ◌<◌, zero, suc, max, min, List, [], ◌∷◌}
use Rattle.std.specs.Prelude.{Option, Some, None, slice_get}
use Rattle.deed_core.specs.Tag.{Tag}
use Rattle.deed_core.specs.Request.{Fits, rounding_of, plain_of}
use Rattle.deed_core.specs.declared.requests.Request.{Request}
use Rattle.deed_core.specs.declared.segments.Route.TheVariants.{Direct, Cached}
use Rattle.arena_tree.specs.declared.levels.Level.{Level}

-- what lists of steps need to know of an arena: the number of its source, its quantum, the least
-- that it imports, and the sizes of its caches
pub record Node : Type 0 where
  pub source : Option ℕ
  pub quantum : ℕ
  pub import_min : ℕ
  pub qcache_max : ℕ
  pub slab_size : ℕ

-- the source of the arena with this number
abbrev pub source_of : List Node → ℕ → Option ℕ
source_of [] id = None
source_of (n ∷ nodes) zero = n.source
source_of (n ∷ nodes) (suc id) = source_of nodes id

-- its quantum
abbrev pub quantum_in : List Node → ℕ → ℕ
quantum_in [] id = 0
quantum_in (n ∷ nodes) zero = n.quantum
quantum_in (n ∷ nodes) (suc id) = quantum_in nodes id

-- the number of a chain's first arena
abbrev pub first_id : List Level → Option ℕ
first_id [] = None
first_id (l ∷ up) = Some l.id

-- a chain's first arena, whose source is the next; the last has none
abbrev pub first_node : Level → List Level → Node
first_node l up = record {
  source = first_id up;
  quantum = l.quantum;
  import_min = l.import_min;
  qcache_max = l.qcache_max;
  slab_size = l.slab_size;
}

-- each arena is the tree's of that number
abbrev pub IsChain : List Node → List Level → Type 0
IsChain nodes [] = Unit {0}
IsChain nodes (l ∷ up) = (slice_get nodes l.id ≡ Some (first_node l up)) × (0 < l.quantum)
    × IsChain nodes up

-- what an arena asks of its source for n units: the greater of n in whole quanta and its import
-- minimum, in whole quanta of the source; but no more than the greatest number of 64 bits, for
-- which no arena has room. The source is the first of those above it; without one it asks for none
abbrev pub amount_of : Level → List Level → ℕ → ℕ
amount_of l [] n = 0
amount_of l (source ∷ up) n =
    min (rounding_of source.quantum (max (rounding_of l.quantum n) l.import_min)) (2 ^ 64 - 1)

-- a Direct segment of the arena that fits the request
pub record IsGrant (nodes : List Node) (arena : ℕ) (request : Request) (t : Tag) : Type 0 where
  pub of_arena : t.arena ≡ arena
  pub direct : t.route ≡ Direct
  pub fits : Fits (quantum_in nodes arena) request t.holding.range.base t.holding.range.len

-- a chunk of the arena's cache, of as many quanta as the cache's number
pub record IsCachedChunk (nodes : List Node) (arena cache : ℕ) (t : Tag) : Type 0 where
  pub of_arena : t.arena ≡ arena
  pub cached : t.route ≡ Cached cache
  pub fits : Fits (quantum_in nodes arena) (plain_of (cache * quantum_in nodes arena))
      t.holding.range.base t.holding.range.len
