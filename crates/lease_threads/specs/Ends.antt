-- A system that comes to its end, and what is left of one that doesn't.
use Rattle.std.specs.Prelude.{◌≡◌, ◌≢◌, ◌==◌, ◌⊎◌, ℕ, ◌-◌, ◌^◌, ◌/◌, ◌<◌, ◌++◌, List, [], All}
use Rattle.std.specs.Prelude.{AllPairs, length, map, nat_lt, position, slice_get}
use Rattle.std.specs.Prelude.{Option, Some, None}
use Rattle.std.specs.Global.{Vec}
use Rattle.std.specs.List.Sorted.{IsPermutation, IsNonDecreasingBy}
use Rattle.deed_core.specs.Extent.{Extent}
use Rattle.deed_core.specs.Holding.{Holding}
use Rattle.deed_core.specs.Tag.{Tag}
use Rattle.arena_tree.specs.declared.limits.TheConstants.{MOST_SPANS}
use Rattle.locked_parts.specs.Growing.{AreRootsOf}
use Rattle.locked_parts.specs.Handing.{IsNotHandedOver, IsNotTaken}
use Rattle.locked_parts.specs.States.{LockedPartsState}
use Rattle.lease_threads.specs.Systems.{SystemState}
use Rattle.lease_threads.specs.declared.closing.Open.{Open}
use Rattle.lease_threads.specs.declared.closing.Open.TheVariants as opened
use Rattle.lease_threads.specs.declared.gathering.NotGathered.{NotGathered}
use Rattle.lease_threads.specs.declared.gathering.NotGathered.TheVariants as ungathered
use Rattle.lease_threads.specs.declared.shutting.StoppedAt.{StoppedAt}
use Rattle.lease_threads.specs.declared.shutting.StoppedAt.TheVariants as stop

-- the number of the arena that owns the span of this root
abbrev pub owner_of : Holding → ℕ
owner_of r = r.root / MOST_SPANS

-- more of an arena's roots that are closed before others: the lower ones, since it gives its lowest
-- span first
abbrev pub turn_of : Holding → ℕ
turn_of r = 2 ^ 64 - 1 - r.range.base

-- the roots of an arena stand in turn, the one that is closed next is the last
abbrev pub InTurn : List Holding → Type 0
InTurn roots = IsNonDecreasingBy turn_of roots

-- it is so of the roots of each of the first arenas, so many
abbrev pub IsSoBelow : (List Holding → Type 0) → ℕ → List (Vec Holding) → Type 0
IsSoBelow P count roots = (id : ℕ) (r : Vec Holding) → slice_get roots id ≡ Some r → id < count
    → P r.items

-- those stand in turn
abbrev pub AreInTurn : ℕ → List (Vec Holding) → Type 0
AreInTurn count roots = IsSoBelow InTurn count roots

-- or are closed
abbrev pub AreClosedBelow : ℕ → List (Vec Holding) → Type 0
AreClosedBelow count roots = IsSoBelow (λ r. r ≡ []) count roots

-- the roots of the arena of this number: those that it was set up with, and further ones, which
-- grow opened
pub record AreRootsFor (id : ℕ) (own all : List Holding) : Type 0 where
  pub further : List Holding
  pub of_arena : AreRootsOf id further
  pub each : IsPermutation (own ++ further) all

-- the system has roots for each of its arenas, and here is something for each
pub record HasForEach {A : Type 0} (s : SystemState) (xs : List A) : Type 0 where
  pub roots : length s.roots ≡ length s.arenas
  pub here : length xs ≡ length s.arenas

-- the roots of the system's arenas, a list for each
pub record AreRootsIn (s : SystemState) (all : List (Vec Holding)) : Type 0 where
  pub for_each : HasForEach s all
  pub are : (id : ℕ) (own r : Vec Holding) → slice_get s.roots id ≡ Some own
      → slice_get all id ≡ Some r → AreRootsFor id own.items r.items

-- the numbers of the roots rise: each stands there once, and those of an arena in order of adding
abbrev pub InOrder : List Holding → Type 0
InOrder roots = AllPairs (λ a b. a.root < b.root) roots

-- the ranges of all roots of the arena of this number, each once, in that order; these are the
-- roots that it was set up with
pub record AreRangesFor (id : ℕ) (own : List Holding) (ranges : List Extent) : Type 0 where
  pub all : List Holding
  pub each : AreRootsFor id own all
  pub of_arena : AreRootsOf id all
  pub in_order : InOrder all
  pub told : ranges ≡ map (λ r. r.range) all

-- and these are told of that arena of the system
abbrev pub TellsArena : SystemState → ℕ → List Extent → Type 0
TellsArena s id ranges = (own : Vec Holding) → slice_get s.roots id ≡ Some own
    → AreRangesFor id own.items ranges

-- the ranges of all roots of the system's arenas, a list for each
pub record AreRangesOf (s : SystemState) (ranges : List (Vec Extent)) : Type 0 where
  pub for_each : HasForEach s ranges
  pub told : (id : ℕ) (t : Vec Extent) → slice_get ranges id ≡ Some t → TellsArena s id t.items

-- none of these roots has the deed's number, or one that has it isn't the deed's own
abbrev pub IsOdd : List Holding → Holding → Type 0
IsOdd roots deed = (position (λ root. root.root == deed.root) roots ≡ None)
    ⊎ ((index : ℕ) × (root : Holding) × (slice_get roots index ≡ Some root)
    × (root.root ≡ deed.root) × (root ≢ deed))

-- a root of the arena of this number stays open, and why no span was taken out of that is so
abbrev pub IsOpenAt : LockedPartsState → ℕ → Open → Type 0
IsOpenAt p id (opened.NotTaken why) = IsNotTaken p id why
IsOpenAt p id (opened.Odd found) = Unit {0}

-- the roots of the arena of this number weren't brought together, and why it kept its own is so
abbrev pub IsUngatheredAt : LockedPartsState → ℕ → NotGathered → Type 0
IsUngatheredAt p id (ungathered.NoRoom none) = Unit {0}
IsUngatheredAt p id (ungathered.NotHandedOver why) = IsNotHandedOver p id why
IsUngatheredAt p id (ungathered.Misnumbered found) = Unit {0}

-- no arena has a root
abbrev pub AreClosed : List (Vec Holding) → Type 0
AreClosed roots = All (λ r. r.items ≡ []) roots

-- the first arena that has one
abbrev pub first_open : List (Vec Holding) → Option ℕ
first_open roots = position (λ r. nat_lt 0 (length r.items)) roots

-- on its way to its end: the ranges of all its roots, once they are told, what isn't ended yet, and
-- the segment that couldn't be placed
pub record HaltedState : Type 0 where
  pub told : Option (List (Vec Extent))
  pub system : SystemState
  pub segment : Option Tag

-- a system that begins to end
abbrev pub begun : SystemState → HaltedState
begun s = record { told = None; system = s; segment = None }

-- ranges that were told, and else those of all roots of the system
abbrev pub AreTold : Option (List (Vec Extent)) → SystemState → List (Vec Extent) → Type 0
AreTold (Some told) s ranges = ranges ≡ told
AreTold None s ranges = AreRangesOf s ranges

-- the ranges that the end comes with
abbrev pub AreRangesLeft : HaltedState → List (Vec Extent) → Type 0
AreRangesLeft h ranges = AreTold h.told h.system ranges

-- the ranges are told, or the roots are still there
abbrev pub KeepsRoots : HaltedState → Option (List (Vec Extent)) → List (Vec Holding) → Type 0
KeepsRoots old (Some told) roots = AreRangesLeft old told
KeepsRoots old None roots = (old.told ≡ None) × AreRootsIn old.system roots

-- what is left later has the same arenas, and all that is to be told of the roots
pub record IsRestOf (old new : HaltedState) : Type 0 where
  pub arenas : new.system.arenas ≡ old.system.arenas
  pub roots : KeepsRoots old new.told new.system.roots

-- with no segment in the hand the end stops at the first arena of which a root isn't closed
abbrev pub root_stop : Option ℕ → StoppedAt
root_stop None = stop.Parts
root_stop (Some id) = stop.Root id

-- once the ranges are told, at a segment before any root
abbrev pub stop_at : Option Tag → List (Vec Holding) → StoppedAt
stop_at (Some t) roots = stop.Segment t.arena
stop_at None roots = root_stop (first_open roots)

-- where the end stopped
abbrev pub stop_when : Option (List (Vec Extent)) → Option Tag → List (Vec Holding) → StoppedAt
stop_when None segment roots = stop.Memory
stop_when (Some told) segment roots = stop_at segment roots

abbrev pub stop_of : HaltedState → StoppedAt
stop_of h = stop_when h.told h.segment h.system.roots
