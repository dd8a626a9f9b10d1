-- The events of one CPU, each with what it can be answered, and the hand before and after it. The
-- hand holds the segment that the CPU is moving, one or none.
use Rattle.std.specs.Prelude.{◌≡◌, ℕ, Option, Some, None, Result, Ok, Err}
use Rattle.deed_core.specs.Tag.{Tag}
use Rattle.deed_core.specs.declared.requests.Request.{Request}
use Rattle.arena_tree.specs.declared.part_faults.PartFault.{PartFault}
use Rattle.arena_tree.specs.declared.part_faults.GivenFault.{GivenFault}
use Rattle.arena_tree.specs.declared.part_faults.FreshFault.{FreshFault}
use Rattle.arena_tree.specs.declared.part_faults.ChangeFault.{ChangeFault}
use Rattle.tag_arena.specs.declared.faults.ArenaFault.{ArenaFault}
use Rattle.tag_arena.specs.declared.faults.SpanFault.{SpanFault}
use Rattle.slab_layer.specs.declared.faults.PutFault.{PutFault}
use Rattle.slab_layer.specs.declared.faults.AddFault.{AddFault}
use Rattle.magazine_layer.specs.declared.faults.FullFault.{FullFault}
use Rattle.magazine_layer.specs.declared.faults.EmptyFault.{EmptyFault}
use Rattle.arena_tree.specs.declared.part_faults.GivenFault.TheVariants as giving
use Rattle.tag_arena.specs.declared.faults.SpanFault.TheVariants as adding
use Rattle.slab_layer.specs.declared.faults.PutFault.TheVariants as putting
use Rattle.slab_layer.specs.declared.faults.AddFault.TheVariants as slabbing
use Rattle.arena_tree.specs.declared.part_faults.Stopped.{Stopped}

-- the first eleven are of parts that are shared, the last three are the CPU's own; `given` is the
-- segment in the hand
pub data Event : Type 0 where
  Carve : (arena : ℕ) (request : Request) → Event
  Free : (given : Tag) → Event
  AddCarve : (child : ℕ) (given : Tag) (size : ℕ) → Event
  SlabTake : (arena cache : ℕ) → Event
  SlabPut : (given : Tag) → Event
  SlabAdd : (arena cache : ℕ) (given : Tag) → Event
  SlabReap : (arena cache : ℕ) → Event
  SwapFull : (arena cache : ℕ) → Event
  SwapEmpty : (arena cache : ℕ) → Event
  SwapFresh : (arena cache : ℕ) → Event
  DepotReap : (arena cache : ℕ) → Event
  Pop : (arena cache : ℕ) → Event
  Push : (arena cache : ℕ) (given : Tag) → Event
  Change : (arena cache size : ℕ) → Event

-- what an event can be answered
abbrev pub AnswerTo : Event → Type 0
AnswerTo (Carve arena request) = Result Tag (PartFault ArenaFault)
AnswerTo (Free given) = Result (Option Tag) (GivenFault Tag Tag)
AnswerTo (AddCarve child given size) = Result Tag (GivenFault (SpanFault Tag) Tag)
AnswerTo (SlabTake arena cache) = Result (Option Tag) Stopped
AnswerTo (SlabPut given) = Result (Unit {0}) (GivenFault (PutFault Tag) Tag)
AnswerTo (SlabAdd arena cache given) = Result Tag (GivenFault (AddFault Tag) Tag)
AnswerTo (SlabReap arena cache) = Result (Option Tag) Stopped
AnswerTo (SwapFull arena cache) = Result (Unit {0}) (PartFault FullFault)
AnswerTo (SwapEmpty arena cache) = Result (Unit {0}) (PartFault EmptyFault)
AnswerTo (SwapFresh arena cache) = Result (Unit {0}) (PartFault FreshFault)
AnswerTo (DepotReap arena cache) = Result (Option Tag) Stopped
AnswerTo (Pop arena cache) = Result (Option Tag) Stopped
AnswerTo (Push arena cache given) = Result (Unit {0}) (GivenFault Tag Tag)
AnswerTo (Change arena cache size) = Result (Unit {0}) (PartFault ChangeFault)

-- the parts that are shared of which it takes the lock
abbrev pub locks : Event → ℕ
locks (Pop arena cache) = 0
locks (Push arena cache given) = 0
locks (Change arena cache size) = 0
locks (Carve arena request) = 1
locks _ = 1

-- the hand before it: empty, or with what is given; exchanges of magazines leave the hand alone
abbrev pub BeginsWith : Event → Option Tag → Type 0
BeginsWith (Carve arena request) hand = hand ≡ None
BeginsWith (Free given) hand = hand ≡ Some given
BeginsWith (AddCarve child given size) hand = hand ≡ Some given
BeginsWith (SlabTake arena cache) hand = hand ≡ None
BeginsWith (SlabPut given) hand = hand ≡ Some given
BeginsWith (SlabAdd arena cache given) hand = hand ≡ Some given
BeginsWith (SlabReap arena cache) hand = hand ≡ None
BeginsWith (SwapFull arena cache) hand = Unit {0}
BeginsWith (SwapEmpty arena cache) hand = Unit {0}
BeginsWith (SwapFresh arena cache) hand = Unit {0}
BeginsWith (DepotReap arena cache) hand = hand ≡ None
BeginsWith (Pop arena cache) hand = hand ≡ None
BeginsWith (Push arena cache given) hand = hand ≡ Some given
BeginsWith (Change arena cache size) hand = Unit {0}

-- the segment that a refusal hands back, by what was refused
abbrev pub segment_of_free : GivenFault Tag Tag → Tag
segment_of_free (giving.Refused t) = t
segment_of_free (giving.Stopped t) = t

abbrev pub segment_of_add : GivenFault (SpanFault Tag) Tag → Tag
segment_of_add (giving.Refused (adding.Overlaps t)) = t
segment_of_add (giving.Refused (adding.NotAligned t)) = t
segment_of_add (giving.Refused (adding.NoMemory t)) = t
segment_of_add (giving.Stopped t) = t

abbrev pub segment_of_put : GivenFault (PutFault Tag) Tag → Tag
segment_of_put (giving.Refused (putting.NotMine t)) = t
segment_of_put (giving.Refused (putting.AtHome t)) = t
segment_of_put (giving.Stopped t) = t

abbrev pub segment_of_slab_add : GivenFault (AddFault Tag) Tag → Tag
segment_of_slab_add (giving.Refused (slabbing.WrongSize t)) = t
segment_of_slab_add (giving.Refused (slabbing.Overlaps t)) = t
segment_of_slab_add (giving.Refused (slabbing.NoMemory t)) = t
segment_of_slab_add (giving.Stopped t) = t

abbrev pub segment_of_push : GivenFault Tag Tag → Tag
segment_of_push (giving.Refused t) = t
segment_of_push (giving.Stopped t) = t

-- the hand after a call that gives a segment, or hands one back
abbrev pub hand_left : {E : Type 0} → (E → Option Tag) → Result Tag E → Option Tag
hand_left back (Ok t) = Some t
hand_left back (Err e) = back e

-- after one that may give a segment
abbrev pub hand_of_answer : {E : Type 0} → (E → Option Tag) → Result (Option Tag) E → Option Tag
hand_of_answer back (Ok given) = given
hand_of_answer back (Err e) = back e

-- after one that gives none
abbrev pub hand_of_fault : {E : Type 0} → (E → Option Tag) → Result (Unit {0}) E → Option Tag
hand_of_fault back (Ok _) = None
hand_of_fault back (Err e) = back e

-- the hand after it
abbrev pub hand_after : (e : Event) → AnswerTo e → Option Tag → Option Tag
hand_after (Carve arena request) a hand = hand_left (λ _. None) a
hand_after (Free given) a hand = hand_of_answer (λ f. Some (segment_of_free f)) a
hand_after (AddCarve child given size) a hand = hand_left (λ f. Some (segment_of_add f)) a
hand_after (SlabTake arena cache) a hand = hand_of_answer (λ _. None) a
hand_after (SlabPut given) a hand = hand_of_fault (λ f. Some (segment_of_put f)) a
hand_after (SlabAdd arena cache given) a hand = hand_left (λ f. Some (segment_of_slab_add f)) a
hand_after (SlabReap arena cache) a hand = hand_of_answer (λ _. None) a
hand_after (SwapFull arena cache) a hand = hand
hand_after (SwapEmpty arena cache) a hand = hand
hand_after (SwapFresh arena cache) a hand = hand
hand_after (DepotReap arena cache) a hand = hand_of_answer (λ _. None) a
hand_after (Pop arena cache) a hand = hand_of_answer (λ _. None) a
hand_after (Push arena cache given) a hand = hand_of_fault (λ f. Some (segment_of_push f)) a
hand_after (Change arena cache size) a hand = hand
