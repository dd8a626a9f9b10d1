-- The laws of covering numbers and of weights that aren't std's own.
use Rattle.std.specs.Prelude.{◌≡◌, ℕ, ◌+◌, ◌<◌, ◌≤◌, ◌↔◌, Bool, List, filter, sum_by}
use Rattle.deed_core.specs.Extent.{Extent, Covers, Overlap, IsInside, end_of}
use Rattle.deed_core.specs.Covering.{covers, covers_held}
use Rattle.deed_core.specs.Holding.{Holding, low_side, high_side, join_of, GoesOn}
use Rattle.deed_core.specs.Tag.{Tag}
use Rattle.deed_core.specs.Weights.{weight_where}

-- the covering number of one range is 1 exactly where it has the unit, and else 0
abbrev pub CountsTheUnit : Type 0
CountsTheUnit = (unit : ℕ) (e : Extent) →
    (covers unit e ≤ 1) × ((covers unit e ≡ 1) ↔ Covers e unit)

-- two ranges that have units overlap exactly where some unit is covered by both
abbrev pub OverlapCoversTwice : Type 0
OverlapCoversTwice = (a b : Extent) → 0 < a.len → 0 < b.len →
    Overlap a b ↔ ((unit : ℕ) × (covers unit a + covers unit b ≡ 2))

-- a deed covers what its two parts cover
abbrev pub SplitKeepsUnits : Type 0
SplitKeepsUnits = (unit at : ℕ) (h : Holding) → IsInside at h.range →
    covers_held unit h ≡ covers_held unit (low_side at h) + covers_held unit (high_side at h)

-- two deeds of which the second goes on where the first ends cover what they cover joined
abbrev pub JoinKeepsUnits : Type 0
JoinKeepsUnits = (unit : ℕ) (a b : Holding) → GoesOn a b →
    covers_held unit (join_of a b) ≡ covers_held unit a + covers_held unit b

-- where two ranges of units meet, they cover what they cover as one
abbrev pub CutKeepsUnits : Type 0
CutKeepsUnits = (unit : ℕ) (a b e : Extent) →
    a.base ≡ e.base → end_of a ≡ b.base → end_of b ≡ end_of e →
    covers unit e ≡ covers unit a + covers unit b

-- the segments that pass a test weigh what all weigh by the weight restricted to these
abbrev pub PartWeighs : Type 0
PartWeighs = (test : Tag → Bool) (f : Tag → ℕ) (segments : List Tag) →
    sum_by f (filter test segments) ≡ sum_by (weight_where test f) segments

-- a smaller weight weighs less
abbrev pub SmallerWeighsLess : Type 0
SmallerWeighsLess = (f g : Tag → ℕ) (segments : List Tag) → ((t : Tag) → f t ≤ g t) →
    sum_by f segments ≤ sum_by g segments
