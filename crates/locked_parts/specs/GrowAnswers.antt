-- Which arenas may grow, and what a grow is answered.
use Rattle.std.specs.Prelude.{◌≡◌, ℕ, ◌≤◌, List, Option, Some, None, IsSome, Result, Ok, Err}
use Rattle.std.specs.Prelude.{length, slice_get}
use Rattle.deed_core.specs.Extent.{Extent}
use Rattle.arena_tree.specs.declared.part_faults.GrowFault.{GrowFault}
use Rattle.arena_tree.specs.declared.part_faults.GrowFault.TheVariants.{NoArena, NotRoot}
use Rattle.arena_tree.specs.declared.trees.TreeArena.{TreeArena}
use Rattle.locked_parts.specs.Growing.{GrownState, IsGrowthBy, IsRefusalBy}
use Rattle.locked_parts.specs.Saying.{IsMisplaced}
use Rattle.locked_parts.specs.States.{LockedPartsState}
use Rattle.locked_parts.specs.declared.misplaced.PartName.TheVariants as naming
use Rattle.locked_parts.specs.declared.parts.NotGrown.{NotGrown}
use Rattle.locked_parts.specs.declared.parts.NotGrown.TheVariants as growing

-- the arena of this number has no source
abbrev pub IsRootArena : List TreeArena → ℕ → Type 0
IsRootArena arenas id = (x : TreeArena) × (slice_get arenas id ≡ Some x) × (x.source ≡ None)

-- it has one
abbrev pub HasSource : List TreeArena → ℕ → Type 0
HasSource arenas id = (x : TreeArena) × (slice_get arenas id ≡ Some x) × IsSome x.source

-- why the arena of this number doesn't grow: NoArena and then NotRoot exactly where they stand,
-- else as it says itself, or it isn't where it was set up
abbrev pub MayRefuseGrow : List TreeArena → ℕ → Extent → NotGrown → Type 0
MayRefuseGrow arenas id range growing.NoArena = length arenas ≤ id
MayRefuseGrow arenas id range growing.NotRoot = HasSource arenas id
MayRefuseGrow arenas id range (growing.Refused r) =
    IsRootArena arenas id × IsRefusalBy id range r
MayRefuseGrow arenas id range (growing.Misplaced m) =
    IsRootArena arenas id × (m.part ≡ naming.Arena id)

-- so it isn't: it is ended, or another was found under its lock
abbrev pub IsMissed : LockedPartsState → ℕ → NotGrown → Type 0
IsMissed p id (growing.Misplaced m) = IsMisplaced p None (naming.Arena id) m
IsMissed p id why = Unit {0}

-- what a grow of it by this range is answered
abbrev pub AnswersGrow : List TreeArena → ℕ → Extent → Result GrownState NotGrown → Type 0
AnswersGrow arenas id range (Ok g) = IsRootArena arenas id × IsGrowthBy id range g
AnswersGrow arenas id range (Err f) = MayRefuseGrow arenas id range f

-- the fault that it is; none where the arena isn't where it was set up
abbrev pub grow_fault : NotGrown → Option GrowFault
grow_fault growing.NoArena = Some NoArena
grow_fault growing.NotRoot = Some NotRoot
grow_fault (growing.Refused r) = Some r.fault
grow_fault (growing.Misplaced m) = None
