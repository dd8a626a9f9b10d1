-- The orders in which free ranges are kept.
use Rattle.std.specs.Prelude.{◌≡◌, ◌≢◌, ℕ, ◌+◌, ◌*◌, ◌^◌, ◌<◌, Bool, true, false}
use Rattle.std.specs.Prelude.{List, [], Contains, Option, Some, length, count_by, is_some, All, Any}
use Rattle.std.specs.Prelude.{min}
use Rattle.sorted_rows.specs.Order.{PutsIn, TakesOut}
use Rattle.tag_arena.specs.declared.entries.IndexEntry.{IndexEntry}
use Rattle.tag_arena.specs.declared.orders.Order.{Order}
use Rattle.tag_arena.specs.declared.reaches.Measure.{Measure}
use Rattle.tag_arena.specs.declared.reaches.Measure.TheVariants.{Minor, Reach}
use Rattle.tag_arena.specs.declared.orders.Order.TheVariants.{Rising, Sizes}
use Rattle.tag_arena.specs.FreeTags.{FreeTag, tag_at}
use Rattle.tag_arena.specs.Reach.{reach_of}

-- the number of an entry's key
abbrev pub rank_of : IndexEntry → ℕ
rank_of e = e.major * 2 ^ 64 + e.minor

-- what an entry weighs: the second number of its key, which is its length in the rising order, or
-- the reach of its range in the order of sizes
abbrev pub weight_of : Measure → IndexEntry → ℕ
weight_of Minor e = e.minor
weight_of (Reach g) e = reach_of g (min e.minor (2 ^ 62)) (min (e.major + e.minor) (2 ^ 62))

-- by base, with the length as what an entry weighs; by length, then base
abbrev pub entry_of : Order → ℕ → FreeTag → IndexEntry
entry_of Rising k t = record { major = t.range.range.base; minor = t.range.range.len; slot = k }
entry_of Sizes k t = record { major = t.range.range.len; minor = t.range.range.base; slot = k }

-- an index that may be kept: its order, its entries, and how many may be in it
pub record OrderedIndexState : Type 0 where
  pub order : Order
  pub kept : Bool
  pub items : List IndexEntry
  pub room : ℕ

-- the entries are those of the tags
pub record Mirrors (order : Order) (items : List IndexEntry)
    (tags : List (Option FreeTag)) : Type 0 where
  pub from : (e : IndexEntry) → Contains items e
      → (t : FreeTag) × (tag_at tags e.slot ≡ Some t) × (e ≡ entry_of order e.slot t)
  pub into : (k : ℕ) (t : FreeTag) → tag_at tags k ≡ Some t → Contains items (entry_of order k t)
  pub count : length items ≡ count_by is_some tags

-- so they are where the index is kept; else it has none
abbrev pub KeepsUp : Bool → Order → List IndexEntry → List (Option FreeTag) → Type 0
KeepsUp true order items tags = Mirrors order items tags
KeepsUp false order items tags = items ≡ []

-- no entry of a kept index has the key
abbrev pub IsAbsent : Bool → List IndexEntry → ℕ → Type 0
IsAbsent true items key = All (λ e. rank_of e ≢ key) items
IsAbsent false items key = Unit {0}

-- an entry of a kept index has it
abbrev pub IsPresent : Bool → List IndexEntry → ℕ → Type 0
IsPresent true items key = Any (λ e. rank_of e ≡ key) items
IsPresent false items key = Unit {0}

-- a kept index has room for one more
abbrev pub HasRoomForOne : Bool → List IndexEntry → ℕ → Type 0
HasRoomForOne true items room = length items < room
HasRoomForOne false items room = Unit {0}

-- the entry is put in where the index is kept
abbrev pub PutsEntry : Bool → IndexEntry → (old new : List IndexEntry) → Type 0
PutsEntry true e old new = PutsIn rank_of e old new
PutsEntry false e old new = new ≡ old

-- the entry with the key is taken out where the index is kept
abbrev pub TakesEntry : Bool → ℕ → (old new : List IndexEntry) → Type 0
TakesEntry true key old new = TakesOut rank_of key old new
TakesEntry false key old new = new ≡ old
