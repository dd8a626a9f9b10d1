-- Free ranges in slots, and their order of becoming free.
use Rattle.std.specs.Prelude.{◌≡◌, ◌≢◌, ℕ, ◌*◌, ◌^◌, ◌<◌, ◌≤◌, List, [], ◌∷◌, map, insert}
use Rattle.std.specs.Prelude.{Option, Some, None, slice_index_or}
use Rattle.deed_core.specs.Extent.{IsRange}
use Rattle.deed_core.specs.Holding.{Holding}
use Rattle.sorted_rows.specs.Order.{place_below}

-- a free range, the time at which it became free, and the number of its power-of-two list
pub record FreeTag : Type 0 where
  pub range : Holding
  pub since : ℕ
  pub power : ℕ

-- when it became free
abbrev pub since_of : FreeTag → ℕ
since_of t = t.since

-- the range alone
abbrev pub range_of : FreeTag → Holding
range_of t = t.range

-- what lies in a slot
abbrev pub tag_at : List (Option FreeTag) → ℕ → Option FreeTag
tag_at tags k = slice_index_or tags k None

-- one slot has changed
pub record SlotBecomes (old new : List (Option FreeTag)) (k : ℕ)
    (tag : Option FreeTag) : Type 0 where
  pub changed : tag_at new k ≡ tag
  pub others : (j : ℕ) → j ≢ k → tag_at new j ≡ tag_at old j

-- the tags from the oldest to the newest
unfoldable pub tags_by_age : List (Option FreeTag) → List FreeTag
tags_by_age [] = []
tags_by_age (None ∷ rest) = tags_by_age rest
tags_by_age (Some t ∷ rest) =
    insert (tags_by_age rest) (place_below since_of t.since (tags_by_age rest)) t

-- the free ranges from the oldest to the newest
abbrev pub ranges_by_age : List (Option FreeTag) → List Holding
ranges_by_age tags = map range_of (tags_by_age tags)

-- what is so of each tag: its length is from 2 ^ power to 2 ^ (power + 1) - 1, and it became free
-- by now
pub record IsTag (clock : ℕ) (t : FreeTag) : Type 0 where
  pub range : IsRange t.range.range
  pub since : t.since ≤ clock
  pub low : 2 ^ t.power ≤ t.range.range.len
  pub high : t.range.range.len < 2 * 2 ^ t.power
  pub power : t.power < 64

-- no two became free at one time
abbrev pub IsTimed : List (Option FreeTag) → Type 0
IsTimed tags = (j k : ℕ) (t u : FreeTag) → tag_at tags j ≡ Some t → tag_at tags k ≡ Some u
    → t.since ≡ u.since → j ≡ k

-- each is such
abbrev pub AreTags : ℕ → List (Option FreeTag) → Type 0
AreTags clock tags = (k : ℕ) (t : FreeTag) → tag_at tags k ≡ Some t → IsTag clock t

-- each is on one of the lists
abbrev pub ArePowers : List (Option FreeTag) → Type 0
ArePowers tags = (k : ℕ) (t : FreeTag) → tag_at tags k ≡ Some t → t.power < 64
