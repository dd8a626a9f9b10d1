-- Laws of slab caches that the layers above reckon with.
use Rattle.std.specs.Prelude.{◌≡◌, ◌↔◌, ℕ, [], Option, All, Contains, IsNone, sum_by}
use Rattle.deed_core.specs.Request.{Fits, plain_of, rounding_of}
use Rattle.deed_core.specs.Tag.{Tag}
use Rattle.deed_core.specs.Weights.{of_cache}
use Rattle.slab_layer.specs.Slab.{IsAllOut, IsComplete}
use Rattle.slab_layer.specs.Cache.{
  SlabCacheState,
  IsSoundCache,
  IsChunkOf,
  chunk_of,
  chunks_out,
  idle_chunks,
}
use Rattle.slab_layer.specs.Calls.{TakeOf, ReapOf}

-- each chunk, out or at home, carries its cache's arena and number, is of its length and on the
-- quantum's grid
abbrev pub ChunksAreOfCache : Type 0
ChunksAreOfCache =
    (c : SlabCacheState) → IsSoundCache c
    → All (IsChunkOf c) (chunks_out c) × All (IsChunkOf c) (idle_chunks c)

-- no chunk is both out and at home
abbrev pub NeverBoth : Type 0
NeverBoth =
    (c : SlabCacheState) (t : Tag) → IsSoundCache c
    → Contains (chunks_out c) t → ¬ Contains (idle_chunks c) t

-- whatever is counted: all that is out is counted for the cache's arena and number
abbrev pub OutIsOfCache : Type 0
OutIsOfCache =
    (c : SlabCacheState) → IsSoundCache c → (f : Tag → ℕ)
    → sum_by (of_cache c.arena c.k f) (chunks_out c) ≡ sum_by f (chunks_out c)

-- a chunk fits each unconstrained request whose size, rounded to whole quanta, is the chunk's
abbrev pub ChunkFits : Type 0
ChunkFits =
    (c : SlabCacheState) (t : Tag) (size : ℕ) → IsChunkOf c t
    → rounding_of c.quantum size ≡ chunk_of c
    → Fits c.quantum (plain_of size) t.holding.range.base t.holding.range.len

-- of these is the one for just k quanta
abbrev pub ChunkIsWholeQuanta : Type 0
ChunkIsWholeQuanta = (c : SlabCacheState) → IsSoundCache c
    → rounding_of c.quantum (chunk_of c) ≡ chunk_of c

-- `take` gives none exactly where every chunk is out, and `reap` exactly where each slab has one
-- out
abbrev pub TakesNoneExactly : Type 0
TakesNoneExactly =
    (old new : SlabCacheState) (answer : Option Tag) → TakeOf old answer new
    → IsNone answer ↔ All IsAllOut old.slabs

abbrev pub ReapsNoneExactly : Type 0
ReapsNoneExactly =
    (old new : SlabCacheState) (answer : Option Tag) → ReapOf old answer new
    → IsNone answer ↔ All (λ s. ¬ IsComplete s) old.slabs

-- where no slab is whole and no chunk is out, there is no slab
abbrev pub ReapedOutIsEmpty : Type 0
ReapedOutIsEmpty =
    (c : SlabCacheState) → All (λ s. ¬ IsComplete s) c.slabs → chunks_out c ≡ [] → c.slabs ≡ []
