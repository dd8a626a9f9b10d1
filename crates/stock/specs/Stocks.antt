-- What is so of a stock's parts, wherever the segments are that are out of them.
use Rattle.std.specs.Prelude.{◌≡◌, ℕ, ◌+◌, ◌*◌, ◌%◌, ◌<◌, List, [], All, slice_get, Option, Some}
use Rattle.std.specs.Prelude.{None}
use Rattle.deed_core.specs.Tag.{Tag}
use Rattle.deed_core.specs.Covering.{covering_held, covering_tags}
use Rattle.deed_core.specs.declared.segments.Route.TheVariants.{Cached}
use Rattle.arena_tree.specs.declared.limits.TheConstants.{MOST_ARENAS}
use Rattle.tag_arena.specs.ArenaState as arenas
use Rattle.slab_layer.specs.Cache as slabs
use Rattle.slab_layer.specs.Cache.{deeds_of, chunks_out, span_tags}
use Rattle.magazine_layer.specs.Depots.{IsDepot, depot_rounds}
use Rattle.stock.specs.Spaces.{SpaceState, QuantumCacheState, quanta_of}

-- a chunk of this arena's cache with this number: so many quanta, on the quantum's grid
abbrev pub IsRoundOf : ℕ → ℕ → ℕ → Tag → Type 0
IsRoundOf arena number quantum t =
    slabs.IsSegmentOf arena (Cached number) (number * quantum) quantum t

-- the cache of chunks of `number` quanta, of the arena at the index: each unit of a slab is at home
-- or in a chunk that is out
pub record IsQuantumCache (index number quantum : ℕ) (c : QuantumCacheState) : Type 0 where
  pub arena : c.slab.arena ≡ index
  pub k : c.slab.k ≡ number
  pub quantum_is : c.slab.quantum ≡ quantum
  pub sound : slabs.IsSoundCache c.slab
  pub tiled : (u : ℕ) → covering_held u (deeds_of c.slab) + covering_tags u (chunks_out c.slab)
      ≡ covering_tags u (span_tags c.slab)
  pub depot : IsDepot c.depot
  pub rounds : All (IsRoundOf index number quantum) (depot_rounds c.depot)

-- the segment is of the source
abbrev pub IsFrom : Option ℕ → Tag → Type 0
IsFrom None t = ⊥
IsFrom (Some p) t = t.arena ≡ p

-- the space at the index k, one of at most MOST_ARENAS, the arenas having these quanta: it imports
-- from an arena that was set up before, whose segments are in whole quanta of its own, and then it
-- owns no span
pub record IsSpaceAt (quanta : List ℕ) (k : ℕ) (s : SpaceState) : Type 0 where
  pub few : k < MOST_ARENAS
  pub id : s.arena.id ≡ k
  pub sound : arenas.IsSoundArena s.arena
  pub imported : All (IsFrom s.source) s.arena.imported
  pub owned : (p : ℕ) → s.source ≡ Some p → s.arena.owned ≡ []
  pub before : (p : ℕ) → s.source ≡ Some p → p < k
  pub nests : (p q : ℕ) → s.source ≡ Some p → slice_get quanta p ≡ Some q
      → q % s.arena.quantum ≡ 0
  pub caches : (j : ℕ) (c : QuantumCacheState) → slice_get s.caches j ≡ Some c
      → IsQuantumCache k (j + 1) s.arena.quantum c

-- each space is at the index of its arena's number
abbrev pub IsStock : List SpaceState → Type 0
IsStock spaces = (k : ℕ) (s : SpaceState) → slice_get spaces k ≡ Some s
    → IsSpaceAt (quanta_of spaces) k s
