-- Answers, with each segment as its tag.
use Rattle.std.specs.Prelude.{Option, Some, None, Result, Ok, Err}
use Rattle.deed_core.specs.Tag.{Tag}
use Rattle.arena_tree.specs.declared.part_faults.GivenFault.{GivenFault}
use Rattle.tag_arena.specs.declared.faults.SpanFault.{SpanFault}
use Rattle.slab_layer.specs.declared.faults.PutFault.{PutFault}
use Rattle.slab_layer.specs.declared.faults.AddFault.{AddFault}
use Rattle.arena_tree.specs.declared.part_faults.GivenFault.TheVariants as giving
use Rattle.tag_arena.specs.declared.faults.SpanFault.TheVariants as adding
use Rattle.slab_layer.specs.declared.faults.PutFault.TheVariants as putting
use Rattle.slab_layer.specs.declared.faults.AddFault.TheVariants as slabbing
use Rattle.arena_tree.specs.declared.part_faults.ClimbFault.{ClimbFault}
use Rattle.arena_tree.specs.declared.part_faults.ClimbFault.TheVariants as climbing
use Rattle.arena_tree.specs.declared.part_faults.ReturnFault.{ReturnFault}
use Rattle.arena_tree.specs.declared.part_faults.ReturnFault.TheVariants as returning

-- an answer with its refusal in other words, as with the part's own in the fault of the event
abbrev pub wording_of : {X E F : Type 0} → (E → F) → Result X E → Result X F
wording_of word (Ok x) = Ok x
wording_of word (Err fault) = Err (word fault)

abbrev pub tag_ok : {X E : Type 0} → (X → Tag) → Result X E → Result Tag E
tag_ok f (Ok x) = Ok (f x)
tag_ok f (Err e) = Err e

abbrev pub tag_option : {X : Type 0} → (X → Tag) → Option X → Option Tag
tag_option f None = None
tag_option f (Some x) = Some (f x)

abbrev pub tag_all : {X E : Type 0} → (X → Tag) → Result (Option X) E → Result (Option Tag) E
tag_all f (Ok o) = Ok (tag_option f o)
tag_all f (Err e) = Err e

-- of a fault that hands a segment back, with the tag of the part's own word
abbrev pub tag_given : {X F G : Type 0} → (F → G) → (X → Tag) → GivenFault F X → GivenFault G Tag
tag_given word f (giving.Refused w) = giving.Refused (word w)
tag_given word f (giving.Stopped x) = giving.Stopped (f x)

abbrev pub tag_free : {X : Type 0} → (X → Tag) → Result (Option X) (GivenFault X X)
    → Result (Option Tag) (GivenFault Tag Tag)
tag_free f (Ok o) = Ok (tag_option f o)
tag_free f (Err e) = Err (tag_given f f e)

abbrev pub tag_span : {X : Type 0} → (X → Tag) → SpanFault X → SpanFault Tag
tag_span f (adding.Overlaps x) = adding.Overlaps (f x)
tag_span f (adding.NotAligned x) = adding.NotAligned (f x)
tag_span f (adding.NoMemory x) = adding.NoMemory (f x)

abbrev pub tag_add : {X : Type 0} → (X → Tag) → Result X (GivenFault (SpanFault X) X)
    → Result Tag (GivenFault (SpanFault Tag) Tag)
tag_add f (Ok x) = Ok (f x)
tag_add f (Err e) = Err (tag_given (tag_span f) f e)

abbrev pub tag_chunk : {X : Type 0} → (X → Tag) → PutFault X → PutFault Tag
tag_chunk f (putting.NotMine x) = putting.NotMine (f x)
tag_chunk f (putting.AtHome x) = putting.AtHome (f x)

abbrev pub tag_put : {X : Type 0} → (X → Tag) → Result (Unit {0}) (GivenFault (PutFault X) X)
    → Result (Unit {0}) (GivenFault (PutFault Tag) Tag)
tag_put f (Ok u) = Ok u
tag_put f (Err e) = Err (tag_given (tag_chunk f) f e)

abbrev pub tag_slab_span : {X : Type 0} → (X → Tag) → AddFault X → AddFault Tag
tag_slab_span f (slabbing.WrongSize x) = slabbing.WrongSize (f x)
tag_slab_span f (slabbing.Overlaps x) = slabbing.Overlaps (f x)
tag_slab_span f (slabbing.NoMemory x) = slabbing.NoMemory (f x)

abbrev pub tag_slab : {X : Type 0} → (X → Tag) → Result X (GivenFault (AddFault X) X)
    → Result Tag (GivenFault (AddFault Tag) Tag)
tag_slab f (Ok x) = Ok (f x)
tag_slab f (Err e) = Err (tag_given (tag_slab_span f) f e)

abbrev pub tag_push : {X : Type 0} → (X → Tag) → Result (Unit {0}) (GivenFault X X)
    → Result (Unit {0}) (GivenFault Tag Tag)
tag_push f (Ok u) = Ok u
tag_push f (Err e) = Err (tag_given f f e)

abbrev pub tag_climb_fault : {X : Type 0} → (X → Tag) → ClimbFault X → ClimbFault Tag
tag_climb_fault f (climbing.Refused w) = climbing.Refused w
tag_climb_fault f (climbing.Stuck x) = climbing.Stuck (f x)
tag_climb_fault f (climbing.Stopped o) = climbing.Stopped (tag_option f o)

abbrev pub tag_climb : {X : Type 0} → (X → Tag) → Result X (ClimbFault X)
    → Result Tag (ClimbFault Tag)
tag_climb f (Ok x) = Ok (f x)
tag_climb f (Err e) = Err (tag_climb_fault f e)

abbrev pub tag_return_fault : {X : Type 0} → (X → Tag) → ReturnFault X → ReturnFault Tag
tag_return_fault f (returning.Stuck x) = returning.Stuck (f x)
tag_return_fault f (returning.Stopped x) = returning.Stopped (f x)

abbrev pub tag_return : {X : Type 0} → (X → Tag) → Result (Unit {0}) (ReturnFault X)
    → Result (Unit {0}) (ReturnFault Tag)
tag_return f (Ok u) = Ok u
tag_return f (Err e) = Err (tag_return_fault f e)
