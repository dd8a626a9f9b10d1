-- What follows from the accounts of a stock.
use Rattle.std.specs.Prelude.{◌≡◌, ◌≢◌, ℕ, ◌+◌, ◌%◌, ◌<◌, ◌≤◌, List, ◌∷◌, AllPairs, length}
use Rattle.std.specs.Prelude.{slice_get, sum_by, Some, None}
use Rattle.deed_core.specs.Extent.{Covers}
use Rattle.deed_core.specs.Tag.{Tag}
use Rattle.deed_core.specs.Covering.{covering_held, units_held}
use Rattle.deed_core.specs.Weights.{Gains, Loses, WeighSame, of_arena}
use Rattle.deed_core.specs.declared.segments.Route.TheVariants.{Direct, Cached}
use Rattle.tag_arena.specs.ArenaState.{spans_of, OnQuantum}
use Rattle.tag_arena.specs.Calls.{IsClear}
use Rattle.slab_layer.specs.Calls.{OverlapsSlab}
use Rattle.magazine_layer.specs.Magazines.{CpuCacheState, cache_rounds}
use Rattle.stock.specs.Spaces.{SpaceState, QuantumCacheState, IsCacheAt, HasCache, plans_of}
use Rattle.stock.specs.Stocks.{IsStock}
use Rattle.stock.specs.Accounts.{Accounts, IsAccounted, Frames, weight_allocated}
use Rattle.stock.specs.Steps.{IsTaggedIn, IsOutOf, IsOnGridOf}
use Rattle.stock.specs.Sums.{Out, all_out, homes_of, all_homes, total, lengths_of}

-- each unit of an arena's spans is in one home, and no other unit in any
abbrev pub IsInOneHome : Type 0
IsInOneHome = (spaces : List SpaceState) (out : Out) → IsAccounted spaces (all_out out)
    → (k : ℕ) (s : SpaceState) → slice_get spaces k ≡ Some s → (u : ℕ)
    → (covering_held u (all_homes (homes_of spaces out s)) ≡ covering_held u (spans_of s.arena))
    × (covering_held u (spans_of s.arena) ≤ 1)

-- so the six sums of an arena add up to the units of its spans
abbrev pub AddsUp : Type 0
AddsUp = (spaces : List SpaceState) (out : Out) → IsAccounted spaces (all_out out)
    → (k : ℕ) (s : SpaceState) → slice_get spaces k ≡ Some s
    → total (lengths_of (homes_of spaces out s)) ≡ units_held (spans_of s.arena)

-- a Direct segment that is out stands in its arena, and can be freed
abbrev pub AlwaysTagged : Type 0
AlwaysTagged = (spaces : List SpaceState) (t : Tag) (rest : List Tag)
    → IsAccounted spaces (t ∷ rest) → t.route ≡ Direct → IsTaggedIn spaces t

-- a chunk that is out of all parts is out of the slabs that it names, and can be put back
abbrev pub AlwaysOut : Type 0
AlwaysOut = (spaces : List SpaceState) (t : Tag) (k : ℕ) (rest : List Tag)
    → IsAccounted spaces (t ∷ rest) → t.route ≡ Cached k
    → (j : ℕ) × (k ≡ j + 1) × IsOutOf spaces j t

-- a span of its source that is out overlaps no span of the arena that imports it, and is in whole
-- quanta of that arena
abbrev pub AlwaysImports : Type 0
AlwaysImports = (spaces : List SpaceState) (span : Tag) (rest : List Tag)
    → IsAccounted spaces (span ∷ rest) → span.route ≡ Direct
    → (k : ℕ) (s : SpaceState) → slice_get spaces k ≡ Some s → s.source ≡ Some span.arena
    → IsClear s.arena span.holding.range × OnQuantum s.arena.quantum span.holding.range

-- a span that is out overlaps no slab of its arena's caches
abbrev pub AlwaysSlab : Type 0
AlwaysSlab = (spaces : List SpaceState) (span : Tag) (rest : List Tag)
    → IsAccounted spaces (span ∷ rest) → span.route ≡ Direct
    → (j : ℕ) (c : QuantumCacheState) → IsCacheAt spaces span.arena j c → ¬ OverlapsSlab span c.slab

-- and begins on its arena's grid, as the span of a slab has to
abbrev pub AlwaysOnGrid : Type 0
AlwaysOnGrid = (spaces : List SpaceState) (span : Tag) (rest : List Tag)
    → IsAccounted spaces (span ∷ rest) → span.route ≡ Direct → IsOnGridOf spaces span.arena span

-- the arena at the top of the chain of sources from the arena at the index
pub data HasTop (spaces : List SpaceState) : ℕ → ℕ → Type 0 where
  root : (k : ℕ) (s : SpaceState) → slice_get spaces k ≡ Some s → s.source ≡ None
      → HasTop spaces k k
  child : (k p top : ℕ) (s : SpaceState) → slice_get spaces k ≡ Some s → s.source ≡ Some p
      → HasTop spaces p top → HasTop spaces k top

-- where the segments' arenas have one top, no unit is in both
abbrev pub ApartUpChain : List SpaceState → Tag → Tag → Type 0
ApartUpChain spaces x y = (top : ℕ) → HasTop spaces x.arena top → HasTop spaces y.arena top
    → (u : ℕ) → Covers x.holding.range u → ¬ Covers y.holding.range u

-- no two segments that are out overlap, be one's arena the other's source
abbrev pub OutIsApart : Type 0
OutIsApart = (spaces : List SpaceState) (out : List Tag) → IsAccounted spaces out
    → AllPairs (ApartUpChain spaces) out

-- where the segments are that are out doesn't matter
abbrev pub OutWeighs : Type 0
OutWeighs = (spaces : List SpaceState) (out left : List Tag) → WeighSame out left
    → Accounts spaces out → Accounts spaces left

-- steps one after another are a step
abbrev pub FramesThen : Type 0
FramesThen = (first mid last : List SpaceState) (given between answered : List Tag)
    → Frames first given mid between → Frames mid between last answered
    → Frames first given last answered

-- a CPU takes a round, gives one, or changes its magazines: only what is out is weighed anew
abbrev pub PopFrames : Type 0
PopFrames = (spaces : List SpaceState) (old new : CpuCacheState) (t : Tag)
    → Loses (cache_rounds old) (cache_rounds new) t
    → Frames spaces (cache_rounds old) spaces (t ∷ cache_rounds new)

abbrev pub PushFrames : Type 0
PushFrames = (spaces : List SpaceState) (old new : CpuCacheState) (t : Tag)
    → Gains (cache_rounds old) (cache_rounds new) t
    → Frames spaces (t ∷ cache_rounds old) spaces (cache_rounds new)

abbrev pub ChangeFrames : Type 0
ChangeFrames = (spaces : List SpaceState) (old new : CpuCacheState)
    → WeighSame (cache_rounds old) (cache_rounds new)
    → Frames spaces (cache_rounds old) spaces (cache_rounds new)

-- an arena's source stands before it, and has whole quanta of the arena's
abbrev pub SourceStandsBefore : Type 0
SourceStandsBefore = (spaces : List SpaceState) → IsStock spaces → (k p : ℕ) (s : SpaceState)
    → slice_get spaces k ≡ Some s → s.source ≡ Some p → (p < k) × ((y : SpaceState)
    × (slice_get spaces p ≡ Some y) × (y.arena.quantum % s.arena.quantum ≡ 0))

-- the two are set up alike
pub record IsSetUpAlike (s t : SpaceState) : Type 0 where
  pub source : t.source ≡ s.source
  pub quantum : t.arena.quantum ≡ s.arena.quantum
  pub policy : t.arena.policy ≡ s.arena.policy
  pub caches : length t.caches ≡ length s.caches

-- what keeps the plans adds no arena and takes none away, and each is set up as before
abbrev pub PlansStay : Type 0
PlansStay = (old new : List SpaceState) → plans_of new ≡ plans_of old → (length new ≡ length old)
    × ((k : ℕ) (s t : SpaceState) → slice_get old k ≡ Some s → slice_get new k ≡ Some t
    → IsSetUpAlike s t)

-- so each cache still stands
abbrev pub CachesStay : Type 0
CachesStay = (old new : List SpaceState) → plans_of new ≡ plans_of old → (k j : ℕ)
    → HasCache old k j → HasCache new k j

-- a weight of one arena's segments weighs those as before, and others nothing
abbrev pub ArenaWeighs : Type 0
ArenaWeighs = (p : ℕ) (f : Tag → ℕ) (t : Tag) → (t.arena ≡ p → of_arena p f t ≡ f t)
    × (t.arena ≢ p → of_arena p f t ≡ 0)

-- of what all arenas have allocated, those are what that arena has
abbrev pub AllocatedOfArena : Type 0
AllocatedOfArena = (spaces : List SpaceState) → IsStock spaces → (p : ℕ) (s : SpaceState)
    → slice_get spaces p ≡ Some s → (f : Tag → ℕ)
    → sum_by (weight_allocated (of_arena p f)) spaces ≡ weight_allocated f s
