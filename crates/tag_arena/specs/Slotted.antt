-- What is always so of the slots.
use Rattle.std.specs.Prelude.{◌≡◌, ◌≢◌, ℕ, ◌+◌, ◌^◌, ◌<◌, ◌≤◌, List, Option, None, Some}
use Rattle.std.specs.Prelude.{All, AllPairs, length, count_by, sum_by, is_some, vec_len}
use Rattle.std.specs.Prelude.{vec_capacity}
use Rattle.std.specs.Global.{Vec}
use Rattle.tag_arena.specs.FreeTags.{FreeTag, tag_at}

-- what a contract sees of slots: what lies in each, and how many deeds may lie in them
pub record SlotsState : Type 0 where
  pub tags : List (Option FreeTag)
  pub room : ℕ

-- how many slots are taken
abbrev pub taken_count : List (Option FreeTag) → ℕ
taken_count tags = count_by is_some tags

-- how many units the range in a slot has
abbrev pub slot_units : Option FreeTag → ℕ
slot_units None = 0
slot_units (Some t) = t.range.range.len

-- the vacant slots are known, each once, and there is room
pub record IsSlotted (slots : Vec (Option FreeTag)) (vacant : Vec ℕ) (room : ℕ) : Type 0 where
  pub empty : All (λ k. (k < length slots.items) × (tag_at slots.items k ≡ None)) vacant.items
  pub apart : AllPairs (λ j k. j ≢ k) vacant.items
  pub counted : vec_len vacant + taken_count slots.items ≡ vec_len slots
  pub within : vec_len slots ≤ room
  pub slots_hold : room ≤ vec_capacity slots
  pub vacant_holds : room ≤ vec_capacity vacant

-- the units of what lies in slots are counted, and none of it is longer than the space
pub record AreCounted (slots : List (Option FreeTag)) (units : ℕ) : Type 0 where
  pub small : All (λ o. slot_units o ≤ 2 ^ 62) slots
  pub sum : units ≡ sum_by slot_units slots

-- both
pub record AreSlots (slots : Vec (Option FreeTag)) (vacant : Vec ℕ) (room units : ℕ)
    : Type 0 where
  pub slotted : IsSlotted slots vacant room
  pub counted : AreCounted slots.items units
