-- Power-of-two lists of free ranges, linked from the newest to the oldest.
use Rattle.std.specs.Prelude.{◌≡◌, ◌≢◌, ℕ, ◌<◌, ◌≤◌, Bool, List, Option, None, Some, length}
use Rattle.std.specs.Prelude.{slice_index_or}
use Rattle.tag_arena.specs.declared.newest_lists.Link.{Link}
use Rattle.tag_arena.specs.FreeTags.{FreeTag, tag_at}

-- whether they are kept, the slot of the newest of each list, and each slot's link
pub record ListsState : Type 0 where
  pub kept : Bool
  pub newest : List (Option ℕ)
  pub links : List Link

-- how many slots have links
abbrev pub lists_room : ListsState → ℕ
lists_room l = length l.links

-- the newest of list p
abbrev pub newest_of : ListsState → ℕ → Option ℕ
newest_of l p = slice_index_or l.newest p None

-- a slot's link
abbrev pub link_at : List Link → ℕ → Link
link_at links k = slice_index_or links k (record { newer = None; older = None })

-- the slot of the newest tag of list p, where there is one
abbrev pub IsNewestOf : List (Option FreeTag) → ℕ → Option ℕ → Type 0
IsNewestOf tags p None = (j : ℕ) (u : FreeTag) → tag_at tags j ≡ Some u → u.power ≢ p
IsNewestOf tags p (Some k) = (t : FreeTag) × (tag_at tags k ≡ Some t) × (t.power ≡ p)
    × ((j : ℕ) (u : FreeTag) → tag_at tags j ≡ Some u → u.power ≡ p → u.since ≤ t.since)

-- of the tags on t's list that are newer, the oldest
abbrev pub IsNextNewer : List (Option FreeTag) → FreeTag → Option ℕ → Type 0
IsNextNewer tags t None = (j : ℕ) (u : FreeTag) → tag_at tags j ≡ Some u
    → u.power ≡ t.power → u.since ≤ t.since
IsNextNewer tags t (Some k) = (n : FreeTag) × (tag_at tags k ≡ Some n) × (n.power ≡ t.power)
    × (t.since < n.since)
    × ((j : ℕ) (u : FreeTag) → tag_at tags j ≡ Some u
    → u.power ≡ t.power → t.since < u.since → n.since ≤ u.since)

-- of the tags on t's list that are older, the newest
abbrev pub IsNextOlder : List (Option FreeTag) → FreeTag → Option ℕ → Type 0
IsNextOlder tags t None = (j : ℕ) (u : FreeTag) → tag_at tags j ≡ Some u
    → u.power ≡ t.power → t.since ≤ u.since
IsNextOlder tags t (Some k) = (o : FreeTag) × (tag_at tags k ≡ Some o) × (o.power ≡ t.power)
    × (o.since < t.since)
    × ((j : ℕ) (u : FreeTag) → tag_at tags j ≡ Some u
    → u.power ≡ t.power → u.since < t.since → u.since ≤ o.since)

-- the lists have the tags
pub record IsLinked (l : ListsState) (tags : List (Option FreeTag)) : Type 0 where
  pub heads : (p : ℕ) → p < 64 → IsNewestOf tags p (newest_of l p)
  pub within : (k : ℕ) (t : FreeTag) → tag_at tags k ≡ Some t → k < lists_room l
  pub newer : (k : ℕ) (t : FreeTag) → tag_at tags k ≡ Some t
      → IsNextNewer tags t (link_at l.links k).newer
  pub older : (k : ℕ) (t : FreeTag) → tag_at tags k ≡ Some t
      → IsNextOlder tags t (link_at l.links k).older

-- the newest tag of the first list, from a list on, that has one
abbrev pub IsNewestFrom : ℕ → List (Option FreeTag) → Option ℕ → Type 0
IsNewestFrom list tags None = (j : ℕ) (u : FreeTag) → tag_at tags j ≡ Some u → u.power < list
IsNewestFrom list tags (Some k) = (t : FreeTag) × (tag_at tags k ≡ Some t) × (list ≤ t.power)
    × ((j : ℕ) (u : FreeTag) → tag_at tags j ≡ Some u → list ≤ u.power
    → (t.power ≤ u.power) × (u.power ≡ t.power → u.since ≤ t.since))
