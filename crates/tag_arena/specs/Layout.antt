-- How the units of spans are divided: into free ranges and allocated ones.
use Rattle.std.specs.Prelude.{◌≡◌, ℕ, ◌-◌, ◌<◌, ◌≤◌, ◌⊎◌, List, Any, AllPairs, Contains, Some}
use Rattle.std.specs.Ordering.{nat_cmp}
use Rattle.std.specs.FinMap.{FinMap, get}
use Rattle.deed_core.specs.Extent.{Covers, end_of}
use Rattle.deed_core.specs.Holding.{Holding, Apart}

-- the spans, the free ranges in them, and what is allocated, each range at its base
pub record Layout : Type 0 where
  pub spans : List Holding
  pub free : List Holding
  pub allocated : FinMap nat_cmp Holding

-- the units of the part lie in the whole
pub record Holds (whole part : Holding) : Type 0 where
  pub from : whole.range.base ≤ part.range.base
  pub to : end_of part.range ≤ end_of whole.range

-- and its root is the same
pub record IsPartOf (whole part : Holding) : Type 0 where
  pub root : part.root ≡ whole.root
  pub from : whole.range.base ≤ part.range.base
  pub to : end_of part.range ≤ end_of whole.range

-- an allocated range covers u
abbrev pub IsAllocated : FinMap nat_cmp Holding → ℕ → Type 0
IsAllocated allocated u = (base : ℕ) × (t : Holding) × (get allocated base ≡ Some t)
    × Covers t.range u

-- free units, at least one, inside one span
pub record IsRun (spans : List Holding) (allocated : FinMap nat_cmp Holding)
    (r : Holding) : Type 0 where
  pub some : 0 < r.range.len
  pub inside : Any (λ s. IsPartOf s r) spans
  pub free : (u : ℕ) → Covers r.range u → IsAllocated allocated u → ⊥

-- a run that no longer run holds
pub record IsLongestRun (spans : List Holding) (allocated : FinMap nat_cmp Holding)
    (r : Holding) : Type 0 where
  pub run : IsRun spans allocated r
  pub longest : (s : Holding) → IsRun spans allocated s → Holds s r → s ≡ r

-- the free ranges are exactly the longest runs of free units inside one span
abbrev pub FreeIsLongestRuns : Layout → Type 0
FreeIsLongestRuns a = (r : Holding) → (Contains a.free r → IsLongestRun a.spans a.allocated r)
    × (IsLongestRun a.spans a.allocated r → Contains a.free r)

-- a run that ends, on either side, at its span's end or at an allocated unit
pub record IsEdgedRun (spans : List Holding) (allocated : FinMap nat_cmp Holding)
    (r : Holding) : Type 0 where
  pub run : IsRun spans allocated r
  pub low : (s : Holding) → Contains spans s → Holds s r → (r.range.base ≡ s.range.base)
      ⊎ IsAllocated allocated (r.range.base - 1)
  pub high : (s : Holding) → Contains spans s → Holds s r → (end_of r.range ≡ end_of s.range)
      ⊎ IsAllocated allocated (end_of r.range)

-- spans don't overlap, free and allocated ranges lie inside them and don't overlap, each unit
-- of a span is free or allocated, and the free ranges are longest runs
pub record IsWhole (a : Layout) : Type 0 where
  pub spans_apart : AllPairs Apart a.spans
  pub free_apart : AllPairs Apart a.free
  pub runs : (r : Holding) → Contains a.free r → IsEdgedRun a.spans a.allocated r
  pub tags_inside : (b : ℕ) (t : Holding) → get a.allocated b ≡ Some t → (t.range.base ≡ b)
      × (0 < t.range.len) × Any (λ s. IsPartOf s t) a.spans
  pub tags_apart : (b c : ℕ) (t w : Holding) → get a.allocated b ≡ Some t → get a.allocated c
      ≡ Some w → b < c → end_of t.range ≤ c
  pub covered : (s : Holding) (u : ℕ) → Contains a.spans s → Covers s.range u
      → Any (λ r. Covers r.range u) a.free ⊎ IsAllocated a.allocated u
