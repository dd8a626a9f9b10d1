-- How many units lie in slabs, and what is always so of the slabs of a cache.
use Rattle.std.specs.Prelude.{◌≡◌, ℕ, ◌^◌, ◌≤◌, List, All, sum_by}
use Rattle.std.specs.Option.{option_to_list}
use Rattle.deed_core.specs.Covering.{units_held}
use Rattle.deed_core.specs.Extent.{end_of}
use Rattle.slab_layer.specs.declared.reports.SlabReport.{SlabReport}
use Rattle.slab_layer.specs.Slab.{SlabState, IsSlab, chunk_at, gap_of, tail_of, idle_chunks_by}
use Rattle.slab_layer.specs.Bases.{IdleState, AreListed}

-- the units of a slab's chunks at home
abbrev pub idle_in : SlabState → ℕ
idle_in s = units_held (idle_chunks_by (chunk_at s) s)

-- those before its first chunk
abbrev pub gap_in : SlabState → ℕ
gap_in s = units_held (option_to_list (gap_of s))

-- those behind its last chunk
abbrev pub tail_in : SlabState → ℕ
tail_in s = units_held (option_to_list (tail_of s))

-- what is told of slabs are the sums over them
pub record AreSums (slabs : List SlabState) (sums : SlabReport) : Type 0 where
  pub idle : sums.idle ≡ sum_by idle_in slabs
  pub gap : sums.gap ≡ sum_by gap_in slabs
  pub tail : sums.tail ≡ sum_by tail_in slabs

-- listed slabs that lie in the space of addresses, with their sums
pub record IsSlabList (slabs : List SlabState) (idle : IdleState) (sums : SlabReport)
    : Type 0 where
  pub listed : AreListed slabs idle
  pub whole : All IsSlab slabs
  pub ends : All (λ s. end_of s.span.range ≤ 2 ^ 62) slabs
  pub summed : AreSums slabs sums
