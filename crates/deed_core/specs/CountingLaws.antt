-- Laws of counting segments and deeds, one or all of a kind.
use Rattle.std.specs.Prelude.{◌≡◌, ◌<◌, ◌≤◌, ◌↔◌, Bool, false, List, All, Contains, sum_by}
use Rattle.std.specs.Prelude.{count_by}
use Rattle.deed_core.specs.Holding.{Holding}
use Rattle.deed_core.specs.Tag.{Tag}
use Rattle.deed_core.specs.Weights.{one_at, one_at_held}

-- the weight that counts one segment is 1 at that segment, and else 0
abbrev pub CountsOneSegment : Type 0
CountsOneSegment = (t x : Tag) → (one_at t x ≤ 1) × ((one_at t x ≡ 1) ↔ (x ≡ t))

-- the same of a deed
abbrev pub CountsOneDeed : Type 0
CountsOneDeed = (h x : Holding) → (one_at_held h x ≤ 1) × ((one_at_held h x ≡ 1) ↔ (x ≡ h))

-- a list has a segment exactly where it counts there
abbrev pub CountsWhereItIs : Type 0
CountsWhereItIs = (t : Tag) (segments : List Tag) →
    (0 < sum_by (one_at t) segments) ↔ Contains segments t

-- the same of a deed
abbrev pub DeedCountsWhereItIs : Type 0
DeedCountsWhereItIs = (h : Holding) (deeds : List Holding) →
    (0 < sum_by (one_at_held h) deeds) ↔ Contains deeds h

-- none of the segments passes a test exactly where those that pass it count 0
abbrev pub NoneIsSuch : Type 0
NoneIsSuch = (test : Tag → Bool) (segments : List Tag) →
    (count_by test segments ≡ 0) ↔ All (λ t. test t ≡ false) segments
