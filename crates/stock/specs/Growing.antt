-- Arenas that get a further span of their own.
use Rattle.std.specs.Prelude.{◌≡◌, ℕ, ◌<◌, ◌≤◌, List, Some, None, IsSome, Result, Ok, Err}
use Rattle.std.specs.Prelude.{length, slice_get}
use Rattle.deed_core.specs.Extent.{Extent}
use Rattle.deed_core.specs.Holding.{Holding}
use Rattle.tag_arena.specs.ArenaState.{ArenaState, OnQuantum}
use Rattle.tag_arena.specs.Calls.{AdmitsRange, IsClear, OverlapsSpan, after_add}
use Rattle.arena_tree.specs.declared.limits.TheConstants.{MOST_SPANS}
use Rattle.arena_tree.specs.declared.part_faults.GrowFault.{GrowFault}
use Rattle.arena_tree.specs.declared.part_faults.GrowFault.TheVariants as faults
use Rattle.arena_tree.specs.Settings.{SetupState}
use Rattle.stock.specs.Setups.{IsSetUpFrom, numbered_deeds, root_number}
use Rattle.stock.specs.Spaces.{SpaceState}
use Rattle.stock.specs.Steps.{OnArena}

-- the root that an arena of this number opens next: no span that it owns is taken out before its
-- end, so its place is how many it owns
abbrev pub next_root : ℕ → ArenaState → Extent → Holding
next_root id a range = record { root = root_number id (length a.owned); range = range }

-- the arena could get this span, and as many as it may have aren't there
pub record CanGrow (a : ArenaState) (range : Extent) : Type 0 where
  pub admitted : AdmitsRange a range
  pub few : length a.owned < MOST_SPANS

-- the arena at the index has no source, and is so
abbrev pub OnRoot : ℕ → (ArenaState → Type 0) → List SpaceState → Type 0
OnRoot arena P spaces = (s : SpaceState) × (slice_get spaces arena ≡ Some s)
    × (s.source ≡ None) × P s.arena

-- why this arena doesn't, the first of these that stands; memory is asked for only where none does
abbrev pub RefusesHere : SpaceState → Extent → GrowFault → Type 0
RefusesHere s range faults.NoArena = ⊥
RefusesHere s range faults.NotRoot = IsSome s.source
RefusesHere s range faults.Overlaps = (s.source ≡ None) × OverlapsSpan s.arena range
RefusesHere s range faults.NotAligned = (s.source ≡ None) × IsClear s.arena range
    × (¬ OnQuantum s.arena.quantum range)
RefusesHere s range faults.TooMany = (s.source ≡ None) × AdmitsRange s.arena range
    × (MOST_SPANS ≤ length s.arena.owned)
RefusesHere s range faults.NoMemory = (s.source ≡ None) × CanGrow s.arena range

-- why none of this number does: there is none, or it refuses
abbrev pub RefusesToGrow : ℕ → Extent → GrowFault → List SpaceState → Type 0
RefusesToGrow arena range faults.NoArena spaces = length spaces ≤ arena
RefusesToGrow arena range why spaces =
    (s : SpaceState) × (slice_get spaces arena ≡ Some s) × RefusesHere s range why

-- an arena without a source grew by the range, or why it didn't
abbrev pub GrowsBy : ℕ → Extent → Result (Unit {0}) GrowFault → List SpaceState → List SpaceState
    → Type 0
GrowsBy arena range (Ok _) old new = OnRoot arena (λ a. CanGrow a range) old
    × OnArena arena (λ a b. b ≡ after_add a (next_root arena a range)) old new
GrowsBy arena range (Err why) old new = RefusesToGrow arena range why old × (new ≡ old)

-- the roots that the arena of each number owns are numbered by their places
abbrev pub AreNumberedByPlace : List SpaceState → Type 0
AreNumberedByPlace spaces = (id place : ℕ) (s : SpaceState) (h : Holding)
    → slice_get spaces id ≡ Some s → slice_get s.arena.owned place ≡ Some h
    → h.root ≡ root_number id place

-- those of a setup are so, over plain deeds
abbrev pub PlainSetupNumbers : Type 0
PlainSetupNumbers = (setup : SetupState) (rounds : ℕ) (spaces : List SpaceState)
    → IsSetUpFrom setup (numbered_deeds setup.spans) rounds spaces → AreNumberedByPlace spaces

-- and a root that an arena grows by keeps it so: it repeats no number of those that stand
abbrev pub GrownNumbers : Type 0
GrownNumbers = (arena : ℕ) (range : Extent) (r : Result (Unit {0}) GrowFault)
    (old new : List SpaceState) → GrowsBy arena range r old new → AreNumberedByPlace old
    → AreNumberedByPlace new
