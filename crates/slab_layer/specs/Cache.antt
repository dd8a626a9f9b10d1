-- What a contract sees of a slab cache, what lies in it, and what it keeps.
use Rattle.std.specs.Prelude.{
  ◌≡◌,
  ℕ,
  ◌+◌,
  ◌-◌,
  ◌*◌,
  ◌/◌,
  ◌%◌,
  ◌^◌,
  ◌<◌,
  ◌≤◌,
  List,
  All,
  AllPairs,
  map,
  length,
  nat_le,
  if◌then◌else◌,
}
use Rattle.std.specs.List.{flat_map}
use Rattle.std.specs.Option.{option_to_list}
use Rattle.deed_core.specs.Extent.{end_of}
use Rattle.deed_core.specs.Holding.{Holding}
use Rattle.deed_core.specs.Tag.{Tag}
use Rattle.deed_core.specs.declared.segments.Route.{Route}
use Rattle.deed_core.specs.declared.segments.Route.TheVariants.{Direct, Cached}
use Rattle.slab_layer.specs.Slab.{
  SlabState,
  chunk_at,
  idle_chunks_by,
  chunks_out_by,
  deeds_in,
  gap_of,
  tail_of,
}

-- a cache of chunks of k quanta, cut from slabs of one size
pub record SlabCacheState : Type 0 where
  pub arena : ℕ
  pub k : ℕ
  pub quantum : ℕ
  pub slab_size : ℕ
  -- by ascending base
  pub slabs : List SlabState
  -- of the next slab
  pub colour : ℕ

-- the units of a chunk
abbrev pub chunk_of : SlabCacheState → ℕ
chunk_of c = c.k * c.quantum

-- the units of a slab that are in no chunk
abbrev pub spare_of : ℕ → ℕ → ℕ
spare_of slab_size chunk = slab_size - slab_size / chunk * chunk

-- the colour after this one
abbrev pub next_colour : SlabCacheState → ℕ
next_colour c =
    if nat_le (c.colour + c.quantum) (spare_of c.slab_size (chunk_of c))
    then c.colour + c.quantum else 0

-- the i-th chunk of a slab, as the segment that is handed out
abbrev pub chunk_tag : ℕ → ℕ → SlabState → ℕ → Tag
chunk_tag arena k s i = record { arena = arena; route = Cached k; holding = chunk_at s i }

-- the span of a slab, as the segment that came in
abbrev pub span_tag : ℕ → SlabState → Tag
span_tag arena s = record { arena = arena; route = Direct; holding = s.span }

-- all that lies in the cache: colour gaps, idle chunks and tails
abbrev pub deeds_of : SlabCacheState → List Holding
deeds_of c = flat_map deeds_in c.slabs

-- the idle chunks, the colour gaps and the tails
abbrev pub idle_deeds : SlabCacheState → List Holding
idle_deeds c = flat_map (λ s. idle_chunks_by (chunk_at s) s) c.slabs

abbrev pub gaps : SlabCacheState → List Holding
gaps c = flat_map (λ s. option_to_list (gap_of s)) c.slabs

abbrev pub tails : SlabCacheState → List Holding
tails c = flat_map (λ s. option_to_list (tail_of s)) c.slabs

-- the chunks at home
abbrev pub idle_chunks : SlabCacheState → List Tag
idle_chunks c = flat_map (λ s. idle_chunks_by (chunk_tag c.arena c.k s) s) c.slabs

-- the chunks that are out
abbrev pub chunks_out : SlabCacheState → List Tag
chunks_out c = flat_map (λ s. chunks_out_by (chunk_tag c.arena c.k s) s) c.slabs

-- the spans of the slabs
abbrev pub span_tags : SlabCacheState → List Tag
span_tags c = map (span_tag c.arena) c.slabs

-- a segment of this arena, by this route, of so many units, with its base on the quantum's grid
pub record IsSegmentOf (arena : ℕ) (route : Route) (units quantum : ℕ) (t : Tag) : Type 0 where
  pub from : t.arena ≡ arena
  pub by : t.route ≡ route
  pub len : t.holding.range.len ≡ units
  pub grid : t.holding.range.base % quantum ≡ 0
  pub end : end_of t.holding.range ≤ 2 ^ 62

-- a chunk, as this cache hands them out: k quanta by its own route
abbrev pub IsChunkOf : SlabCacheState → Tag → Type 0
IsChunkOf c t = IsSegmentOf c.arena (Cached c.k) (chunk_of c) c.quantum t

-- a span, as this cache cuts them
abbrev pub IsSpanOf : SlabCacheState → Tag → Type 0
IsSpanOf c t = IsSegmentOf c.arena Direct c.slab_size c.quantum t

-- a span that a slab may be cut from: its arena's, by no cache, and on the quantum's grid
pub record IsSpanFor (c : SlabCacheState) (t : Tag) : Type 0 where
  pub arena : t.arena ≡ c.arena
  pub route : t.route ≡ Direct
  pub grid : t.holding.range.base % c.quantum ≡ 0

-- a ends where b begins, or before
abbrev pub IsBelow : SlabState → SlabState → Type 0
IsBelow a b = end_of a.span.range ≤ b.span.range.base

-- a slab of this size, with as many chunks as there is room for
pub record IsOfSize (slab_size len : ℕ) (s : SlabState) : Type 0 where
  pub size : s.span.range.len ≡ slab_size
  pub chunk : s.chunk ≡ len
  pub count : length s.home ≡ slab_size / len
  pub colour : s.colour ≤ spare_of slab_size len
  pub end : end_of s.span.range ≤ 2 ^ 62

-- a slab whose base and colour are whole quanta
pub record IsOnGrid (quantum : ℕ) (s : SlabState) : Type 0 where
  pub base : s.span.range.base % quantum ≡ 0
  pub colour : s.colour % quantum ≡ 0

-- what a cache keeps
pub record IsSoundCache (c : SlabCacheState) : Type 0 where
  pub some : 0 < chunk_of c
  pub room : chunk_of c ≤ c.slab_size
  pub colour : c.colour ≤ spare_of c.slab_size (chunk_of c)
  pub whole : c.colour % c.quantum ≡ 0
  pub slabs : All (IsOfSize c.slab_size (chunk_of c)) c.slabs
  pub grid : All (IsOnGrid c.quantum) c.slabs
  pub ascending : AllPairs IsBelow c.slabs
