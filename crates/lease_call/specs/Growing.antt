-- What an operator's line that grows a root asks for, and what it is told.
use Rattle.std.specs.Prelude.{◌≡◌, ◌⊎◌, ℕ, List, Some, None, Result, Ok, Err, slice_get}
use Rattle.deed_core.specs.Extent.{Extent, IsRange}
use Rattle.arena_tree.specs.Trees.{index_in}
use Rattle.arena_tree.specs.declared.trees.TreeArena.{TreeArena}
use Rattle.arena_tree.specs.declared.part_faults.GrowFault.{GrowFault}
use Rattle.arena_tree.specs.declared.part_faults.GrowFault.TheVariants as faults
use Rattle.lease_proto.specs.declared.faults.ErrorWord.{ErrorWord}
use Rattle.lease_proto.specs.declared.faults.ErrorWord.TheVariants.{Line, Memory, NoArena, Size}
use Rattle.lease_proto.specs.declared.faults.ErrorWord.TheVariants.{Range, Many, Misplaced, Busy}
use Rattle.lease_proto.specs.declared.operators.GrowLine.{GrowLine}
use Rattle.lease_call.specs.declared.growing.Growth.{Growth}

-- the arena of the line's name is a root, and has this number
abbrev pub IsRootAsked : List TreeArena → GrowLine → ℕ → Type 0
IsRootAsked arenas line index = (x : TreeArena) × (index_in line.arena arenas ≡ Some index)
    × (slice_get arenas index ≡ Some x) × (x.source ≡ None)

-- the units of a line's base and length, be they a range or not
abbrev pub range_asked : GrowLine → Extent
range_asked line = record { base = line.base; len = line.len }

-- what a line asks for, or why it asks for nothing, of which the first that stands is told: no root
-- has its name; its base and length are no range
abbrev pub AsksGrowth : List TreeArena → GrowLine → Result Growth ErrorWord → Type 0
AsksGrowth arenas line (Ok growth) = IsRootAsked arenas line growth.arena
    × IsRange growth.range × (growth.range ≡ range_asked line)
AsksGrowth arenas line (Err NoArena) = (index : ℕ) → ¬ IsRootAsked arenas line index
AsksGrowth arenas line (Err Range) = (index : ℕ) × IsRootAsked arenas line index
    × (¬ IsRange (range_asked line))
AsksGrowth arenas line (Err (Line fault)) = ⊥
AsksGrowth arenas line (Err Memory) = ⊥
AsksGrowth arenas line (Err Size) = ⊥
AsksGrowth arenas line (Err Many) = ⊥
AsksGrowth arenas line (Err Misplaced) = ⊥
AsksGrowth arenas line (Err Busy) = ⊥

-- the word of a root that didn't grow
abbrev pub grow_word : GrowFault → ErrorWord
grow_word faults.NoArena = NoArena
grow_word faults.NotRoot = NoArena
grow_word faults.Overlaps = Range
grow_word faults.NotAligned = Range
grow_word faults.TooMany = Many
grow_word faults.NoMemory = Memory

-- what an operator is told of a root that was to grow
abbrev pub grow_outcome : Result (Unit {0}) GrowFault → Result (Unit {0}) ErrorWord
grow_outcome (Ok done) = Ok done
grow_outcome (Err fault) = Err (grow_word fault)

module _ {S : Type 0} (grows : S → ℕ → Extent → Result (Unit {0}) ErrorWord → S → Type 0) where
  -- a line is refused and nothing changes, or what may come of the root that it names is told
  abbrev pub TellsGrowth : List TreeArena → GrowLine → S → Result (Unit {0}) ErrorWord → S
      → Type 0
  TellsGrowth arenas line old told new =
      ((word : ErrorWord) × AsksGrowth arenas line (Err word) × (told ≡ Err word) × (new ≡ old))
      ⊎ ((growth : Growth) × AsksGrowth arenas line (Ok growth)
      × grows old growth.arena growth.range told new)
