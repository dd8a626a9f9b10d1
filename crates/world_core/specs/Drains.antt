-- What a CPU has, and how others take it over once the CPU has failed.
use Rattle.std.specs.Prelude.{◌≡◌, ◌≢◌, ◌⊎◌, ℕ, zero, suc, ◌+◌, ◌≤◌, nat_eq, true, List, [], ◌∷◌}
use Rattle.std.specs.Prelude.{◌++◌, length, replicate, get_or, slice_get, if◌then◌else◌, Some, None}
use Rattle.std.specs.Option.{option_to_list}
use Rattle.deed_core.specs.Tag.{Tag}
use Rattle.deed_core.specs.Weights.{Loses}
use Rattle.stock.specs.OwnCaches.{OwnCacheState, own_rounds}
use Rattle.world_core.specs.declared.events.WorldEvent.{WorldEvent}
use Rattle.world_core.specs.declared.events.WorldEvent.TheVariants as events
use Rattle.world_core.specs.declared.events.Outcome.{Outcome}
use Rattle.world_core.specs.declared.events.Outcome.TheVariants.{Done, NotEnabled}
use Rattle.world_core.specs.WorldState.{WorldState}
use Rattle.world_core.specs.IsWorld.{IsWorld}
use Rattle.world_core.specs.Events.{HasInHand, HappensAs, HappensTo}

-- the rounds in the CPU's own caches: beside each cache stands the CPU that owns it
abbrev pub rounds_of : ℕ → List ℕ → List OwnCacheState → List Tag
rounds_of cpu (owner ∷ owners) (own ∷ caches) =
    (if nat_eq owner cpu then own_rounds own else []) ++ rounds_of cpu owners caches
rounds_of cpu owners caches = []

-- the segments that a CPU has: in its hand, and as rounds in its own caches
abbrev pub segments_of : ℕ → WorldState → List Tag
segments_of cpu w =
    option_to_list (get_or w.hands cpu None) ++ rounds_of cpu w.owners w.caches

-- it has failed
abbrev pub HasFailed : WorldState → ℕ → Type 0
HasFailed w cpu = slice_get w.failed cpu ≡ Some true

-- a CPU that hasn't failed, with an empty hand, and another
pub record MayAdopt (w : WorldState) (cpu other : ℕ) : Type 0 where
  pub apart : cpu ≢ other
  pub empty : HasInHand w cpu None
  pub lives : ¬ HasFailed w cpu

-- how many segments of the CPU others took over at an event that ended so
abbrev pub taken_at : ℕ → Outcome → WorldEvent → ℕ
taken_at cpu Done (events.Adopts by other) = if nat_eq other cpu then 1 else 0
taken_at cpu outcome event = 0

-- and at all these
abbrev pub taken : ℕ → List WorldEvent → List Outcome → ℕ
taken cpu (event ∷ events) (outcome ∷ outcomes) =
    taken_at cpu outcome event + taken cpu events outcomes
taken cpu events outcomes = 0

-- what a CPU's hand has goes home: a chunk into its slab, or it's freed, and so is each span that
-- becomes whole by that, in one arena after another
abbrev pub placing : ℕ → ℕ → List WorldEvent
placing cpu arenas = events.SlabPuts cpu ∷ replicate arenas (events.Frees cpu)

-- so many times the CPU adopts a segment of the other and places it
abbrev pub draining : ℕ → ℕ → ℕ → ℕ → List WorldEvent
draining cpu other arenas zero = []
draining cpu other arenas (suc times) =
    events.Adopts cpu other ∷ (placing cpu arenas ++ draining cpu other arenas times)

-- the other has failed, and has one segment less: the one that is in the CPU's hand now
pub record TakesOne (cpu other : ℕ) (old new : WorldState) : Type 0 where
  pub segment : Tag
  pub held : HasInHand new cpu (Some segment)
  pub loses : Loses (segments_of other old) (segments_of other new) segment
  pub fails : HasFailed new other

-- Where a CPU that hasn't failed, with an empty hand, adopts from another: that is done where the
-- other has a segment, which the CPU takes over, and isn't enabled where the other has none.
abbrev pub AdoptsWhatIsThere : Type 0
AdoptsWhatIsThere = (cpu other : ℕ) (outcome : Outcome) (old new : WorldState)
    → IsWorld old → MayAdopt old cpu other → HappensAs (events.Adopts cpu other) outcome old new
    → ((outcome ≡ Done) × TakesOne cpu other old new)
    ⊎ ((outcome ≡ NotEnabled) × (segments_of other old ≡ []) × (new ≡ old))

-- Whatever happens, a CPU that has failed stays so, and what it has goes by adopting alone: it had
-- as many segments as it has, and as others took over from it.
abbrev pub LosesByAdopting : Type 0
LosesByAdopting = (list : List WorldEvent) (outcomes : List Outcome) (start end : WorldState)
    (cpu : ℕ) → IsWorld start → HappensTo list outcomes start end → HasFailed start cpu
    → HasFailed end cpu
    × (length (segments_of cpu start) ≡ length (segments_of cpu end) + taken cpu list outcomes)

-- From any world one CPU that hasn't failed, with an empty hand, can take over all that another
-- has and bring it home: where it adopts and places as often as the other has segments, or more
-- often, the other has none in the end, and its own hand is empty.
abbrev pub DrainsAll : Type 0
DrainsAll = (cpu other arenas times : ℕ) (outcomes : List Outcome) (start end : WorldState)
    → IsWorld start → MayAdopt start cpu other → length start.names ≤ arenas
    → length (segments_of other start) ≤ times
    → HappensTo (draining cpu other arenas times) outcomes start end
    → (segments_of other end ≡ []) × HasInHand end cpu None
