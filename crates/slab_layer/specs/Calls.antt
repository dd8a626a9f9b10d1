-- What the calls of a slab cache answer, and do.
use Rattle.std.specs.Prelude.{
  ◌≡◌,
  ◌≢◌,
  ℕ,
  ◌<◌,
  ◌≤◌,
  ◌⊎◌,
  Bool,
  true,
  false,
  List,
  Option,
  Some,
  None,
  Result,
  Ok,
  Err,
  All,
  Any,
  Contains,
  length,
  take,
  drop,
  slice_index_or,
  slice_set,
}
use Rattle.std.specs.List.{insert, remove}
use Rattle.deed_core.specs.Extent.{Overlap, end_of}
use Rattle.deed_core.specs.Tag.{Tag}
use Rattle.slab_layer.specs.declared.faults.AddFault.{AddFault}
use Rattle.slab_layer.specs.declared.faults.AddFault.TheVariants as Adding
use Rattle.slab_layer.specs.declared.faults.PutFault.{PutFault}
use Rattle.slab_layer.specs.declared.faults.PutFault.TheVariants as Putting
use Rattle.slab_layer.specs.Slab.{
  SlabState,
  new_slab,
  with_chunk,
  IsAllOut,
  IsComplete,
  IsPartial,
  IsLowestIdle,
}
use Rattle.slab_layer.specs.Cache.{
  SlabCacheState,
  chunk_of,
  next_colour,
  chunk_tag,
  span_tag,
  idle_chunks,
  chunks_out,
}

-- the two are of one arena, and their chunks and slabs have the same lengths
pub record IsAlike (old new : SlabCacheState) : Type 0 where
  pub arena : new.arena ≡ old.arena
  pub k : new.k ≡ old.k
  pub quantum : new.quantum ≡ old.quantum
  pub slab_size : new.slab_size ≡ old.slab_size

-- the cache with these slabs
abbrev pub with_slabs : SlabCacheState → List SlabState → SlabCacheState
with_slabs c slabs = record {
  arena = c.arena;
  k = c.k;
  quantum = c.quantum;
  slab_size = c.slab_size;
  slabs = slabs;
  colour = c.colour;
}

-- s stands at the index i
pub record StandsAt (i : ℕ) (s : SlabState) (slabs : List SlabState) : Type 0 where
  pub within : i < length slabs
  pub is : slice_index_or slabs i s ≡ s

-- of the slabs that are so, s has the least base
pub record IsLowest (P : SlabState → Type 0) (i : ℕ) (s : SlabState) (slabs : List SlabState)
    : Type 0 where
  pub stands : StandsAt i s slabs
  pub so : P s
  pub least : All (λ t. P t → s.span.range.base ≤ t.span.range.base) slabs

-- s gives the next chunk: it is the lowest partial slab, else the lowest complete one
abbrev pub IsNext : ℕ → SlabState → List SlabState → Type 0
IsNext i s slabs =
    IsLowest IsPartial i s slabs ⊎ (All (λ t. ¬ IsPartial t) slabs × IsLowest IsComplete i s slabs)

-- the lowest idle chunk of the next slab left
pub record Takes (i j : ℕ) (s : SlabState) (old new : SlabCacheState) (t : Tag) : Type 0 where
  pub next : IsNext i s old.slabs
  pub lowest : IsLowestIdle j s.home
  pub tag : t ≡ chunk_tag old.arena old.k s j
  pub after : new ≡ with_slabs old (slice_set old.slabs i (with_chunk s j false))

-- a chunk is taken: none exactly where all are out
abbrev pub TakeOf : SlabCacheState → Option Tag → SlabCacheState → Type 0
TakeOf old None new = All IsAllOut old.slabs × (new ≡ old)
TakeOf old (Some t) new = (i j : ℕ) × (s : SlabState) × Takes i j s old new t

-- t is the j-th chunk of the i-th slab, and that is out, or at home
pub record IsChunk (i j : ℕ) (s : SlabState) (b : Bool) (t : Tag) (c : SlabCacheState)
    : Type 0 where
  pub stands : StandsAt i s c.slabs
  pub within : j < length s.home
  pub home : slice_index_or s.home j b ≡ b
  pub tag : t ≡ chunk_tag c.arena c.k s j

-- a chunk that was out came back
pub record Puts (i j : ℕ) (s : SlabState) (old new : SlabCacheState) (t : Tag) : Type 0 where
  pub chunk : IsChunk i j s false t old
  pub after : new ≡ with_slabs old (slice_set old.slabs i (with_chunk s j true))

-- what was given comes back, and the cache is as before
pub record Refuses (given back : Tag) (old new : SlabCacheState) : Type 0 where
  pub handed_back : back ≡ given
  pub unchanged : new ≡ old

-- a segment is put back: one that is out comes home, one that is at home or none of them is refused
abbrev pub PutOf : SlabCacheState → Tag → Result (Unit {0}) (PutFault Tag) → SlabCacheState → Type 0
PutOf old t (Ok _) new = (i j : ℕ) × (s : SlabState) × Puts i j s old new t
PutOf old t (Err (Putting.AtHome back)) new = Contains (idle_chunks old) t × Refuses t back old new
PutOf old t (Err (Putting.NotMine back)) new =
    (¬ Contains (chunks_out old) t) × (¬ Contains (idle_chunks old) t) × Refuses t back old new

-- a slab has a unit in common with the span
abbrev pub OverlapsSlab : Tag → SlabCacheState → Type 0
OverlapsSlab span c = Any (λ s. Overlap s.span.range span.holding.range) c.slabs

-- a span became a slab in its place by base, and its first chunk left
pub record Adds (i : ℕ) (old new : SlabCacheState) (span first : Tag) : Type 0 where
  pub size : span.holding.range.len ≡ old.slab_size
  pub clear : ¬ OverlapsSlab span old
  pub within : i ≤ length old.slabs
  pub below : All (λ s. end_of s.span.range ≤ span.holding.range.base) (take i old.slabs)
  pub above : All (λ s. end_of span.holding.range ≤ s.span.range.base) (drop i old.slabs)
  pub tag : first ≡ chunk_tag old.arena old.k (new_slab span.holding old.colour (chunk_of old)) 0
  pub after : new ≡ record {
    arena = old.arena;
    k = old.k;
    quantum = old.quantum;
    slab_size = old.slab_size;
    slabs =
        insert old.slabs i (with_chunk (new_slab span.holding old.colour (chunk_of old)) 0 false);
    colour = next_colour old;
  }

-- a span is added: one of another length is refused, then one that overlaps a slab; then only when
-- out of memory
abbrev pub AddOf : SlabCacheState → Tag → Result Tag (AddFault Tag) → SlabCacheState → Type 0
AddOf old span (Ok t) new = (i : ℕ) × Adds i old new span t
AddOf old span (Err (Adding.WrongSize back)) new =
    (span.holding.range.len ≢ old.slab_size) × Refuses span back old new
AddOf old span (Err (Adding.Overlaps back)) new =
    (span.holding.range.len ≡ old.slab_size) × OverlapsSlab span old × Refuses span back old new
AddOf old span (Err (Adding.NoMemory back)) new =
    (span.holding.range.len ≡ old.slab_size) × (¬ OverlapsSlab span old) × Refuses span back old new

-- the lowest slab with all chunks at home left
pub record Reaps (i : ℕ) (s : SlabState) (old new : SlabCacheState) (t : Tag) : Type 0 where
  pub lowest : IsLowest IsComplete i s old.slabs
  pub tag : t ≡ span_tag old.arena s
  pub after : new ≡ with_slabs old (remove old.slabs i)

-- a slab is reaped: none exactly where each has a chunk out
abbrev pub ReapOf : SlabCacheState → Option Tag → SlabCacheState → Type 0
ReapOf old None new = All (λ s. ¬ IsComplete s) old.slabs × (new ≡ old)
ReapOf old (Some t) new = (i : ℕ) × (s : SlabState) × Reaps i s old new t
