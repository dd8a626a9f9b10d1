-- What parts answer, as plain words, and what they leave of it.
use Rattle.std.specs.Prelude.{ℕ, Option, Some, None, Result, Ok, Err}
use Rattle.deed_core.specs.Tag.{Tag}
use Rattle.tag_arena.specs.declared.faults.ArenaFault.{ArenaFault}
use Rattle.tag_arena.specs.declared.faults.ArenaFault.TheVariants as carving
use Rattle.tag_arena.specs.declared.faults.SpanFault.{SpanFault}
use Rattle.tag_arena.specs.declared.faults.SpanFault.TheVariants as adding
use Rattle.slab_layer.specs.declared.faults.PutFault.{PutFault}
use Rattle.slab_layer.specs.declared.faults.PutFault.TheVariants as putting
use Rattle.slab_layer.specs.declared.faults.AddFault.{AddFault}
use Rattle.slab_layer.specs.declared.faults.AddFault.TheVariants as slabbing
use Rattle.magazine_layer.specs.declared.faults.FullFault.{FullFault}
use Rattle.magazine_layer.specs.declared.faults.FullFault.TheVariants as fulling
use Rattle.magazine_layer.specs.declared.faults.EmptyFault.{EmptyFault}
use Rattle.magazine_layer.specs.declared.faults.EmptyFault.TheVariants as emptying
use Rattle.arena_tree.specs.declared.part_faults.FreshFault.{FreshFault}
use Rattle.arena_tree.specs.declared.part_faults.FreshFault.TheVariants as freshing
use Rattle.locked_parts.specs.declared.gates.NextStep.{NextStep}
use Rattle.locked_parts.specs.declared.kinds.CacheKind.{CacheKind}
use Rattle.locked_parts.specs.declared.misplaced.Cause.{Cause}
use Rattle.locked_parts.specs.declared.misplaced.PartName.{PartName}
use Rattle.locked_parts.specs.declared.words.Word.{Word}
use Rattle.locked_parts.specs.declared.words.Word.TheVariants as word

-- what an arena leaves: its number, the step at which it was asked, and its answer
pub record ArenaSaidState : Type 0 where
  pub arena : ℕ
  pub step : NextStep
  pub word : Word

-- what the slabs or the depot of a quantum cache leave
pub record CacheSaidState : Type 0 where
  pub kind : CacheKind
  pub step : NextStep
  pub word : Word

-- which part isn't where it was set up, why, and for which step it was sought, if for one
pub record MisplacedState : Type 0 where
  pub part : PartName
  pub cause : Cause
  pub step : Option NextStep

-- of a part that may give a segment
abbrev pub given_word : Option Tag → Word
given_word (Some t) = word.Gave t.holding.range
given_word None = word.Done

abbrev pub carve_word : Result Tag ArenaFault → Word
carve_word (Ok t) = word.Gave t.holding.range
carve_word (Err carving.BadRequest) = word.BadRequest
carve_word (Err carving.NoFit) = word.NoFit
carve_word (Err carving.NoMemory) = word.NoMemory

abbrev pub free_word : Result (Option Tag) Tag → Word
free_word (Ok whole) = given_word whole
free_word (Err back) = word.Refused

-- of a span that is added, and its first units carved
abbrev pub span_word : Result Tag (SpanFault Tag) → Word
span_word (Ok t) = word.Gave t.holding.range
span_word (Err (adding.Overlaps back)) = word.Overlaps
span_word (Err (adding.NotAligned back)) = word.NotAligned
span_word (Err (adding.NoMemory back)) = word.NoMemory

abbrev pub put_word : Result (Unit {0}) (PutFault Tag) → Word
put_word (Ok _) = word.Done
put_word (Err (putting.NotMine back)) = word.NotMine
put_word (Err (putting.AtHome back)) = word.AtHome

-- of a slab that is made, and its first chunk taken
abbrev pub add_word : Result Tag (AddFault Tag) → Word
add_word (Ok t) = word.Gave t.holding.range
add_word (Err (slabbing.WrongSize back)) = word.WrongSize
add_word (Err (slabbing.Overlaps back)) = word.Overlaps
add_word (Err (slabbing.NoMemory back)) = word.NoMemory

-- of exchanges
abbrev pub full_word : Result (Unit {0}) FullFault → Word
full_word (Ok _) = word.Done
full_word (Err (fulling.OldSize size)) = word.OldSize size
full_word (Err fulling.NoneFull) = word.NoneFull

abbrev pub empty_word : Result (Unit {0}) EmptyFault → Word
empty_word (Ok _) = word.Done
empty_word (Err (emptying.OldSize size)) = word.OldSize size
empty_word (Err emptying.NoneEmpty) = word.NoneEmpty

abbrev pub fresh_word : Result (Unit {0}) FreshFault → Word
fresh_word (Ok _) = word.Done
fresh_word (Err (freshing.OldSize size)) = word.OldSize size
fresh_word (Err freshing.NotFull) = word.NotFull
fresh_word (Err freshing.NoMemory) = word.NoMemory
