-- What the lists of steps through caches end with, by what was answered on their way.
use Rattle.std.specs.Prelude.{◌≡◌, ℕ, List, [], ◌∷◌, Some, Result, Ok, Err}
use Rattle.deed_core.specs.Tag.{Tag}
use Rattle.deed_core.specs.Request.{plain_of}
use Rattle.arena_tree.specs.declared.levels.Level.{Level}
use Rattle.arena_tree.specs.declared.part_faults.GivenFault.{GivenFault}
use Rattle.slab_layer.specs.declared.faults.PutFault.{PutFault}
use Rattle.slab_layer.specs.declared.faults.AddFault.{AddFault}
use Rattle.arena_tree.specs.declared.part_faults.PartFault.TheVariants as asking
use Rattle.arena_tree.specs.declared.part_faults.GivenFault.TheVariants as giving
use Rattle.tag_arena.specs.declared.faults.ArenaFault.TheVariants as carving
use Rattle.slab_layer.specs.declared.faults.PutFault.TheVariants as putting
use Rattle.slab_layer.specs.declared.faults.AddFault.TheVariants as slabbing
use Rattle.arena_tree.specs.declared.part_faults.ClimbFault.TheVariants as climbing
use Rattle.arena_tree.specs.declared.part_faults.ReturnFault.TheVariants as returning
use Rattle.arena_tree.specs.Chains.{Node, IsChain, amount_of, first_id}
use Rattle.arena_tree.specs.Climbs.{ClimbEnd, ReturnEnd}
use Rattle.arena_tree.specs.Events.{Event, AnswerTo, Carve, Free, AddCarve, SlabPut, SlabAdd}
use Rattle.arena_tree.specs.Told.{AnsweredEvent, Tells, IsRefusalOf, RanOut, WasTakenIn, WasStopped}
use Rattle.quantum_cache.specs.Allocs.{alloc_plan}
use Rattle.quantum_cache.specs.Frees.{free_plan}
use Rattle.quantum_cache.specs.Served.{IsServed, AsksForNone}

-- a slab cache refused the segment, for another reason than memory or a stop
abbrev pub RefusesInPut : Tag → Result (Unit {0}) (GivenFault (PutFault Tag) Tag) → Type 0
RefusesInPut t (Ok u) = ⊥
RefusesInPut t (Err (giving.Refused (putting.NotMine back))) = back ≡ t
RefusesInPut t (Err (giving.Refused (putting.AtHome back))) = back ≡ t
RefusesInPut t (Err (giving.Stopped back)) = ⊥

abbrev pub RefusesInSlab : Tag → Result Tag (GivenFault (AddFault Tag) Tag) → Type 0
RefusesInSlab t (Ok first) = ⊥
RefusesInSlab t (Err (giving.Refused (slabbing.WrongSize back))) = back ≡ t
RefusesInSlab t (Err (giving.Refused (slabbing.Overlaps back))) = back ≡ t
RefusesInSlab t (Err (giving.Refused (slabbing.NoMemory back))) = ⊥
RefusesInSlab t (Err (giving.Stopped back)) = ⊥

-- a part did
abbrev pub PartRefuses : Tag → (e : Event) → AnswerTo e → Type 0
PartRefuses t (Carve arena request) a = ⊥
PartRefuses t (Free given) a = IsRefusalOf t (Free given) a
PartRefuses t (AddCarve child given size) a = IsRefusalOf t (AddCarve child given size) a
PartRefuses t (SlabPut given) a = RefusesInPut t a
PartRefuses t (SlabAdd arena cache given) a = RefusesInSlab t a
PartRefuses t _ a = ⊥

-- that was the last answer
abbrev pub JustRefused : Tag → List AnsweredEvent → Type 0
JustRefused t [] = ⊥
JustRefused t (last ∷ told) = PartRefuses t last.event last.answer

-- what was answered once each arena of the chain, from the first on, was asked to carve, each what
-- the one before would import, and nothing fitted: the last first, before what was answered by then
abbrev pub none_fitted : List Level → ℕ → List AnsweredEvent → List AnsweredEvent
none_fitted [] n before = before
none_fitted (l ∷ up) n before = none_fitted up (amount_of l up n)
    (record { event = Carve l.id (plain_of n); answer = Err (asking.Refused carving.NoFit) }
    ∷ before)

-- these were the last answers
abbrev pub NoneFitted : List Level → ℕ → List AnsweredEvent → Type 0
NoneFitted chain n told = (before : List AnsweredEvent) × (told ≡ none_fitted chain n before)

-- what an allocation ends with: a segment that serves; for no units alone a bad request; NoFit
-- where the last that was asked of each arena of the chain, the first among them, was a carve of
-- the size or of its import amount, which found no choice; out of memory where a carve, an import
-- or a new slab was, and what was carved for it was freed; a segment where a part has just refused
-- it; stopped where a part has just said so
abbrev pub AllocTold : List Node → List Level → ℕ → List AnsweredEvent → ClimbEnd → Type 0
AllocTold nodes chain size told (Ok t) = IsServed nodes chain size t
AllocTold nodes chain size told (Err (climbing.Refused carving.BadRequest)) = AsksForNone chain size
AllocTold nodes chain size told (Err (climbing.Refused carving.NoFit)) = NoneFitted chain size told
AllocTold nodes chain size told (Err (climbing.Refused carving.NoMemory)) = RanOut told
AllocTold nodes chain size told (Err (climbing.Stuck t)) = JustRefused t told
AllocTold nodes chain size told (Err (climbing.Stopped o)) = WasStopped told

-- a free: it ends well where a part has just taken the segment in
abbrev pub FreeTold : List AnsweredEvent → ReturnEnd → Type 0
FreeTold told (Ok u) = WasTakenIn told
FreeTold told (Err (returning.Stuck t)) = JustRefused t told
FreeTold told (Err (returning.Stopped t)) = WasStopped told

-- An allocation by a chain of the tree ends so.
abbrev pub AllocTells : Type 0
AllocTells = (nodes : List Node) (chain : List Level) (size : ℕ) → IsChain nodes chain
    → Tells nodes (AllocTold nodes chain size) (alloc_plan chain size) []

-- A free by the chain of the segment's arena ends well only where a part has just taken the
-- segment, or the span that it made whole; it is stuck only where a part has just refused it.
abbrev pub FreeTells : Type 0
FreeTells = (nodes : List Node) (chain : List Level) (t : Tag) → IsChain nodes chain
    → first_id chain ≡ Some t.arena → Tells nodes FreeTold (free_plan chain t) []
