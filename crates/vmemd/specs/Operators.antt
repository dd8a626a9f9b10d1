-- What a running server tells its operator.
use Rattle.std.specs.Prelude.{◌≡◌, ℕ, List, ◌++◌, Option, Some, None, Result, Ok, Err}
use Rattle.deed_core.specs.Extent.{Extent}
use Rattle.arena_tree.specs.declared.trees.TreeArena.{TreeArena}
use Rattle.arena_tree.specs.declared.part_faults.GrowFault.{GrowFault}
use Rattle.locked_parts.specs.GrowAnswers.{AnswersGrow, grow_fault}
use Rattle.locked_parts.specs.Growing.{GrownState}
use Rattle.locked_parts.specs.declared.parts.NotGrown.{NotGrown}
use Rattle.lease_proto.specs.Faults.{error_line}
use Rattle.lease_proto.specs.Frames.{Frame}
use Rattle.lease_proto.specs.Operators.{grow_of}
use Rattle.lease_proto.specs.Reports.{outcome_text}
use Rattle.lease_proto.specs.Serving.{ServesLines}
use Rattle.lease_proto.specs.declared.faults.ErrorWord.{ErrorWord}
use Rattle.lease_proto.specs.declared.faults.ErrorWord.TheVariants.{Misplaced}
use Rattle.lease_proto.specs.declared.faults.LineFault.{LineFault}
use Rattle.lease_proto.specs.declared.operators.GrowLine.{GrowLine}
use Rattle.lease_call.specs.Growing.{TellsGrowth, grow_word}

module _ {S : Type 0} (arenas : S → List TreeArena)
    (grows : S → ℕ → Extent → Result (Unit {0}) ErrorWord → S → Type 0) where
  -- a line that grows a root is done and told what came of it; of any other it is told why it is
  -- none
  abbrev pub TellsRead : S → Result GrowLine LineFault → List ℕ → S → Type 0
  TellsRead old (Ok line) reply new = (told : Result (Unit {0}) ErrorWord)
      × TellsGrowth grows (arenas old) line old told new × (reply ≡ outcome_text told)
  TellsRead old (Err fault) reply new = (reply ≡ error_line fault) × (new ≡ old)

  abbrev pub TellsLine : S → List ℕ → List ℕ → S → Type 0
  TellsLine old line reply new = TellsRead old (grow_of line) reply new

-- that a root grew, or the word of why it didn't
abbrev pub outcome_of : {A F : Type 0} → (F → ErrorWord) → Result A F → Result (Unit {0}) ErrorWord
outcome_of told (Ok grown) = Ok tt
outcome_of told (Err why) = Err (told why)

-- the word of a fault; where there is none, the root isn't where it was set up
abbrev pub word_of_fault : Option GrowFault → ErrorWord
word_of_fault (Some fault) = grow_word fault
word_of_fault None = Misplaced

-- the word of a root of a running system that didn't grow
abbrev pub not_grown_word : NotGrown → ErrorWord
not_grown_word why = word_of_fault (grow_fault why)

-- A running system is seen by its arenas, which stay. Whether a range suits a root lies behind its
-- lock.
abbrev pub all_arenas : List TreeArena → List TreeArena
all_arenas arenas = arenas

abbrev pub MayGrow : List TreeArena → ℕ → Extent → Result (Unit {0}) ErrorWord → List TreeArena
    → Type 0
MayGrow old arena range told new = (new ≡ old) × ((grown : Result GrownState NotGrown)
    × AnswersGrow old arena range grown × (told ≡ outcome_of not_grown_word grown))

-- what it may tell of a line
abbrev pub may_tell : List TreeArena → List ℕ → List ℕ → List TreeArena → Type 0
may_tell old line reply new = TellsLine all_arenas MayGrow old line reply new

-- what it may tell of the lines of these frames
abbrev pub Tells : List TreeArena → List Frame → List ℕ → Type 0
Tells arenas frames text = (last : List TreeArena) × ServesLines may_tell arenas frames text last

-- and of the first of these
abbrev pub TellsFirst : List TreeArena → List Frame → List ℕ → Type 0
TellsFirst arenas frames text = (served : List Frame) × (later : List Frame)
    × (frames ≡ served ++ later) × Tells arenas served text
