-- What a contract sees of the free ranges of an arena, and what is always so of their index.
use Rattle.std.specs.Prelude.{◌≡◌, ℕ, ◌+◌, ◌≤◌, Bool, true, false, List, length}
use Rattle.deed_core.specs.Holding.{Holding}
use Rattle.tag_arena.specs.declared.policies.Policy.{Policy}
use Rattle.tag_arena.specs.declared.policies.Policy.TheVariants.{Best, Next, Instant}
use Rattle.tag_arena.specs.declared.orders.Order.{Order}
use Rattle.tag_arena.specs.declared.orders.Order.TheVariants.{Rising, Sizes}
use Rattle.tag_arena.specs.FreeTags.{IsTimed, AreTags}
use Rattle.tag_arena.specs.Linked.{ListsState, IsLinked, lists_room}
use Rattle.tag_arena.specs.Orders.{OrderedIndexState, KeepsUp}
use Rattle.tag_arena.specs.Slotted.{SlotsState, taken_count}

-- the free ranges from the oldest to the newest, how many there may be, and how many more may
-- become free
pub record FreeIndexState : Type 0 where
  pub policy : Policy
  pub ranges : List Holding
  pub room : ℕ
  pub ticks : ℕ

-- the policies that may ask for the order of sizes
abbrev pub keeps_sizes : Policy → Bool
keeps_sizes Best = true
keeps_sizes Instant = true
keeps_sizes Next = false

-- `next` alone asks for that of bases
abbrev pub keeps_bases : Policy → Bool
keeps_bases Best = false
keeps_bases Instant = false
keeps_bases Next = true

-- `instant` alone asks for the power-of-two lists
abbrev pub keeps_lists : Policy → Bool
keeps_lists Instant = true
keeps_lists Best = false
keeps_lists Next = false

-- an index in this order, where it is kept, has the tags of the slots; it is kept only where the
-- policy may ask for it, and there it has room for them before it is kept
pub record MeetsOrder (asked : Bool) (order : Order) (s : SlotsState) (room : ℕ)
    (i : OrderedIndexState) : Type 0 where
  pub order_is : i.order ≡ order
  pub asked_is : i.kept ≡ true → asked ≡ true
  pub holds : asked ≡ true → room ≤ i.room
  pub keeps_up : KeepsUp i.kept i.order i.items s.tags

-- where the policy asks for them, the power-of-two lists have the tags of the slots
pub record MeetsLists (policy : Policy) (s : SlotsState) (l : ListsState) : Type 0 where
  pub kept_is : l.kept ≡ keeps_lists policy
  pub linked : l.kept ≡ true → IsLinked l s.tags
  pub room : l.kept ≡ true → s.room ≤ lists_room l

-- each index that is kept has the tags of the slots, and so have the lists; that of bases is kept
-- wherever the policy asks for it; there are no more ranges than there is room for
pub record IsIndexed (policy : Policy) (s : SlotsState) (up size : OrderedIndexState)
    (lists : ListsState) (clock room : ℕ) : Type 0 where
  pub timed : IsTimed s.tags
  pub tags : AreTags clock s.tags
  pub few : taken_count s.tags ≤ room
  pub slots_room : room ≤ s.room
  pub rising : MeetsOrder (keeps_bases policy) Rising s room up
  pub bases_kept : up.kept ≡ keeps_bases policy
  pub sizes : MeetsOrder (keeps_sizes policy) Sizes s room size
  pub lists_meet : MeetsLists policy s lists

-- what is out, so many ranges, can come back without memory, and before time runs out
pub record IsBacked (policy : Policy) (free : FreeIndexState) (out : ℕ) : Type 0 where
  pub policy_is : free.policy ≡ policy
  pub room : length free.ranges + out ≤ free.room
  pub ticks : out ≤ free.ticks
