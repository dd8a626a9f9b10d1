-- The accounts of a stock: what each part has handed out is in another part, or is out of all
-- parts.
use Rattle.std.specs.Prelude.{◌≡◌, ℕ, ◌+◌, List, ◌++◌, sum_by}
use Rattle.deed_core.specs.Tag.{Tag}
use Rattle.deed_core.specs.Weights.{of_direct, of_cached}
use Rattle.tag_arena.specs.ArenaState.{tags_of}
use Rattle.slab_layer.specs.Cache as slab_layer
use Rattle.magazine_layer.specs.Depots.{depot_rounds}
use Rattle.stock.specs.Spaces.{SpaceState, QuantumCacheState}
use Rattle.stock.specs.Stocks.{IsStock}

-- what an arena has allocated weighs
abbrev pub weight_allocated : (Tag → ℕ) → SpaceState → ℕ
weight_allocated f s = sum_by f (tags_of s.arena)

-- the segments of its source that it imported
abbrev pub weight_imported : (Tag → ℕ) → SpaceState → ℕ
weight_imported f s = sum_by f s.arena.imported

-- the spans that a cache's slabs are cut from
abbrev pub slabs_in : (Tag → ℕ) → QuantumCacheState → ℕ
slabs_in f c = sum_by f (slab_layer.span_tags c.slab)

-- the chunks that are out of its slabs
abbrev pub chunks_in : (Tag → ℕ) → QuantumCacheState → ℕ
chunks_in f c = sum_by f (slab_layer.chunks_out c.slab)

-- the rounds of its depot
abbrev pub rounds_in : (Tag → ℕ) → QuantumCacheState → ℕ
rounds_in f c = sum_by f (depot_rounds c.depot)

-- the same of all caches of an arena
abbrev pub slabs : (Tag → ℕ) → SpaceState → ℕ
slabs f s = sum_by (slabs_in f) s.caches

abbrev pub chunks : (Tag → ℕ) → SpaceState → ℕ
chunks f s = sum_by (chunks_in f) s.caches

abbrev pub rounds : (Tag → ℕ) → SpaceState → ℕ
rounds f s = sum_by (rounds_in f) s.caches

-- `out` has the segments that are out of all parts: in hands, leased, or rounds of CPUs. However
-- segments are weighed: what arenas have allocated is what is out and came direct, the spans of
-- slabs, and what children imported; the chunks that are out of slabs are those that are out of all
-- parts, and the depots' rounds.
pub record Accounts (spaces : List SpaceState) (out : List Tag) : Type 0 where
  pub exports : (f : Tag → ℕ) → sum_by (weight_allocated f) spaces
      ≡ sum_by (of_direct f) out + sum_by (slabs f) spaces + sum_by (weight_imported f) spaces
  pub chunks_out : (f : Tag → ℕ) → sum_by (chunks f) spaces
      ≡ sum_by (of_cached f) out + sum_by (rounds f) spaces

-- a stock, and the segments that are out of it
pub record IsAccounted (spaces : List SpaceState) (out : List Tag) : Type 0 where
  pub stock : IsStock spaces
  pub accounts : Accounts spaces out

-- a step that is given some segments and answers others: wherever all other segments are, the
-- accounts balance after it where they did before
abbrev pub Frames : List SpaceState → List Tag → List SpaceState → List Tag → Type 0
Frames old given new answered = (rest : List Tag) → Accounts old (given ++ rest)
    → Accounts new (answered ++ rest)
