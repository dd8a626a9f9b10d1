-- The segments that an answer leaves in the caller's hand.
use Rattle.std.specs.Prelude.{List, [], ◌∷◌, Option, Result, Ok, Err}
use Rattle.std.specs.Option.{option_to_list}
use Rattle.deed_core.specs.Tag.{Tag}
use Rattle.tag_arena.specs.declared.faults.ArenaFault.{ArenaFault}
use Rattle.tag_arena.specs.declared.faults.SpanFault.{SpanFault}
use Rattle.tag_arena.specs.declared.faults.SpanFault.TheVariants as spans
use Rattle.slab_layer.specs.declared.faults.AddFault.{AddFault}
use Rattle.slab_layer.specs.declared.faults.AddFault.TheVariants as adding
use Rattle.slab_layer.specs.declared.faults.PutFault.{PutFault}
use Rattle.slab_layer.specs.declared.faults.PutFault.TheVariants as putting

-- what was carved
abbrev pub hand_after_carve : Result Tag ArenaFault → List Tag
hand_after_carve (Ok t) = t ∷ []
hand_after_carve (Err fault) = []

-- the span that became whole, or the segment that was refused
abbrev pub hand_after_free : Result (Option Tag) Tag → List Tag
hand_after_free (Ok back) = option_to_list back
hand_after_free (Err same) = same ∷ []

-- what was carved of the span, or the span that was refused
abbrev pub hand_after_import : Result Tag (SpanFault Tag) → List Tag
hand_after_import (Ok t) = t ∷ []
hand_after_import (Err (spans.Overlaps same)) = same ∷ []
hand_after_import (Err (spans.NotAligned same)) = same ∷ []
hand_after_import (Err (spans.NoMemory same)) = same ∷ []

-- the chunk that was refused
abbrev pub hand_after_put : Result (Unit {0}) (PutFault Tag) → List Tag
hand_after_put (Ok _) = []
hand_after_put (Err (putting.NotMine same)) = same ∷ []
hand_after_put (Err (putting.AtHome same)) = same ∷ []

-- the first chunk, or the span that was refused
abbrev pub hand_after_add : Result Tag (AddFault Tag) → List Tag
hand_after_add (Ok t) = t ∷ []
hand_after_add (Err (adding.WrongSize same)) = same ∷ []
hand_after_add (Err (adding.Overlaps same)) = same ∷ []
hand_after_add (Err (adding.NoMemory same)) = same ∷ []

-- it was refused only where it was out of memory, if at all
abbrev pub OnlyForMemory : Result Tag (SpanFault Tag) → Type 0
OnlyForMemory (Ok t) = Unit {0}
OnlyForMemory (Err (spans.Overlaps same)) = ⊥
OnlyForMemory (Err (spans.NotAligned same)) = ⊥
OnlyForMemory (Err (spans.NoMemory same)) = Unit {0}

-- it wasn't refused as overlapping
abbrev pub NeverOverlaps : Result Tag (AddFault Tag) → Type 0
NeverOverlaps (Ok t) = Unit {0}
NeverOverlaps (Err (adding.WrongSize same)) = Unit {0}
NeverOverlaps (Err (adding.Overlaps same)) = ⊥
NeverOverlaps (Err (adding.NoMemory same)) = Unit {0}
