-- Where free ranges begin and end.
use Rattle.std.specs.Prelude.{◌≡◌, ◌≢◌, ℕ, List, Option, None, Some, All, Contains}
use Rattle.deed_core.specs.Extent.{end_of}
use Rattle.deed_core.specs.Holding.{Holding}
use Rattle.tag_arena.specs.FreeTags.{FreeTag, tag_at, range_of}

-- the first unit of a tag's range, and the first one past it
abbrev pub begin_of : FreeTag → ℕ
begin_of t = t.range.range.base

abbrev pub tag_end : FreeTag → ℕ
tag_end t = end_of t.range.range

-- the range of a tag that has its boundary there, if there is one
abbrev pub StandsAt : (FreeTag → ℕ) → ℕ → List (Option FreeTag) → Option Holding → Type 0
StandsAt boundary u tags None = (k : ℕ) (t : FreeTag) → tag_at tags k ≡ Some t → boundary t ≢ u
StandsAt boundary u tags (Some r) = (k : ℕ) × (t : FreeTag) × (tag_at tags k ≡ Some t)
    × (range_of t ≡ r) × (boundary t ≡ u)

-- the slot of the tag with this range, if there is one
abbrev pub LiesIn : Holding → List (Option FreeTag) → Option ℕ → Type 0
LiesIn r tags None = (k : ℕ) (t : FreeTag) → tag_at tags k ≡ Some t → range_of t ≢ r
LiesIn r tags (Some k) = (t : FreeTag) × (tag_at tags k ≡ Some t) × (range_of t ≡ r)

-- the free range that begins there, if there is one
abbrev pub BeginsAt : ℕ → List Holding → Option Holding → Type 0
BeginsAt base free None = All (λ r. r.range.base ≢ base) free
BeginsAt base free (Some r) = Contains free r × (r.range.base ≡ base)

-- the free range that ends there, if there is one
abbrev pub EndsAt : ℕ → List Holding → Option Holding → Type 0
EndsAt end free None = All (λ r. end_of r.range ≢ end) free
EndsAt end free (Some r) = Contains free r × (end_of r.range ≡ end)
