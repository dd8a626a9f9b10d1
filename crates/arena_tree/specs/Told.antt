-- What a list of steps ends with, by what was answered on its way.
use Rattle.std.specs.Prelude.{◌≡◌, ◌⊎◌, ℕ, List, [], ◌∷◌, ◌++◌, All, Contains, Option, None}
use Rattle.std.specs.Prelude.{Result, Ok, Err, true}
use Rattle.deed_core.specs.Request.{plain_of}
use Rattle.deed_core.specs.Tag.{Tag}
use Rattle.arena_tree.specs.declared.levels.Level.{Level}
use Rattle.arena_tree.specs.declared.part_faults.GivenFault.{GivenFault}
use Rattle.tag_arena.specs.declared.faults.SpanFault.{SpanFault}
use Rattle.arena_tree.specs.declared.part_faults.PartFault.TheVariants as asking
use Rattle.arena_tree.specs.declared.part_faults.GivenFault.TheVariants as giving
use Rattle.tag_arena.specs.declared.faults.ArenaFault.TheVariants as carving
use Rattle.tag_arena.specs.declared.faults.SpanFault.TheVariants as adding
use Rattle.slab_layer.specs.declared.faults.AddFault.TheVariants as slabbing
use Rattle.arena_tree.specs.declared.part_faults.ClimbFault.TheVariants as climbing
use Rattle.arena_tree.specs.declared.part_faults.ReturnFault.TheVariants as returning
use Rattle.arena_tree.specs.Chains.{Node, amount_of}
use Rattle.arena_tree.specs.Events.{Event, AnswerTo, Carve, Free, AddCarve, SlabPut}
use Rattle.arena_tree.specs.Events.{SlabAdd, Push}
use Rattle.arena_tree.specs.Stops.{is_stopped}
use Rattle.arena_tree.specs.Sound.{Sound}
use Rattle.arena_tree.specs.Plans.{Plan, Done, Ask, Path}
use Rattle.arena_tree.specs.Climbs.{ClimbEnd, ReturnEnd, IsGrantOf}

-- an event with its answer
pub record AnsweredEvent : Type 0 where
  pub event : Event
  pub answer : AnswerTo event

-- what it ends with is as said of all that was answered, the last first, where each answer is sound
abbrev pub Tells : {A : Type 0} → List Node → (List AnsweredEvent → A → Type 0) → Plan A
    → List AnsweredEvent → Type 0
Tells nodes post (Done a) told = post told a
Tells nodes post (Ask e f) told = (x : AnswerTo e) → Sound nodes e x
    → Tells nodes post (f x) (record { event = e; answer = x } ∷ told)

-- all that was answered along a path, the last first, before what was answered by then
abbrev pub answers_along : {S A : Type 0} (step : S → (e : Event) → AnswerTo e → S → Type 0)
    (p : Plan A) (s t : S) (a : A) → Path step p s t a → List AnsweredEvent → List AnsweredEvent
answers_along step (Done b) s t a d told = told
answers_along step (Ask e f) s t a d told =
    answers_along step (f d.1) d.0 t a d.3 (record { event = e; answer = d.1 } ∷ told)

-- an arena was asked to carve so many units, and nothing fitted
abbrev pub no_fit : ℕ → ℕ → AnsweredEvent
no_fit arena n =
    record { event = Carve arena (plain_of n); answer = Err (asking.Refused carving.NoFit) }

-- each arena of a chain was asked once, the first for n units, each other for the amount that the
-- one below it would import, and nothing fitted; the last asked first
abbrev pub no_fits : List Level → ℕ → List AnsweredEvent
no_fits [] n = []
no_fits (l ∷ up) n = no_fits up (amount_of l up n) ++ no_fit l.id n ∷ []

-- each arena of the chain was asked so, whatever else was asked
abbrev pub NoneFits : List Level → ℕ → List AnsweredEvent → Type 0
NoneFits [] n told = Unit {0}
NoneFits (l ∷ up) n told = Contains told (no_fit l.id n) × NoneFits up (amount_of l up n) told

-- an arena was asked to carve, and nothing fitted
abbrev pub IsNoFit : (e : Event) → AnswerTo e → Type 0
IsNoFit (Carve arena request) a = a ≡ Err (asking.Refused carving.NoFit)
IsNoFit (Free given) a = ⊥
IsNoFit _ a = ⊥

-- nothing else was asked
abbrev pub OnlyNoFit : List AnsweredEvent → Type 0
OnlyNoFit told = All (λ a. IsNoFit a.event a.answer) told

-- a part refused the segment, for another reason than memory or a stop
abbrev pub RefusesInAdd : Tag → Result Tag (GivenFault (SpanFault Tag) Tag) → Type 0
RefusesInAdd t (Ok first) = ⊥
RefusesInAdd t (Err (giving.Refused (adding.Overlaps back))) = back ≡ t
RefusesInAdd t (Err (giving.Refused (adding.NotAligned back))) = back ≡ t
RefusesInAdd t (Err (giving.Refused (adding.NoMemory back))) = ⊥
RefusesInAdd t (Err (giving.Stopped back)) = ⊥

abbrev pub IsRefusalOf : Tag → (e : Event) → AnswerTo e → Type 0
IsRefusalOf t (Carve arena request) a = ⊥
IsRefusalOf t (Free given) a = a ≡ Err (giving.Refused t)
IsRefusalOf t (AddCarve child given size) a = RefusesInAdd t a
IsRefusalOf t _ a = ⊥

-- that was the last answer
abbrev pub WasRefused : Tag → List AnsweredEvent → Type 0
WasRefused t [] = ⊥
WasRefused t (last ∷ told) = IsRefusalOf t last.event last.answer

-- a carve, an import or a new slab was out of memory
abbrev pub IsOutOfMemory : (e : Event) → AnswerTo e → Type 0
IsOutOfMemory (Carve arena request) a = a ≡ Err (asking.Refused carving.NoMemory)
IsOutOfMemory (Free given) a = ⊥
IsOutOfMemory (AddCarve child given size) a = a ≡ Err (giving.Refused (adding.NoMemory given))
IsOutOfMemory (SlabAdd arena cache given) a = a ≡ Err (giving.Refused (slabbing.NoMemory given))
IsOutOfMemory _ a = ⊥

-- a segment was freed
abbrev pub IsTakenBack : (e : Event) → AnswerTo e → Type 0
IsTakenBack (Carve arena request) a = ⊥
IsTakenBack (Free given) a = (out : Option Tag) × (a ≡ Ok out)
IsTakenBack _ a = ⊥

-- nothing else was done
abbrev pub OnlyTakenBack : List AnsweredEvent → Type 0
OnlyTakenBack told = All (λ a. IsTakenBack a.event a.answer) told

-- one was out of memory, and after that segments were freed and nothing else was done
abbrev pub RanOut : List AnsweredEvent → Type 0
RanOut [] = ⊥
RanOut (last ∷ told) =
    IsOutOfMemory last.event last.answer ⊎ (IsTakenBack last.event last.answer × RanOut told)

-- a segment was taken in, and nothing came out
abbrev pub IsTakenIn : (e : Event) → AnswerTo e → Type 0
IsTakenIn (Carve arena request) a = ⊥
IsTakenIn (Free given) a = a ≡ Ok None
IsTakenIn (SlabPut given) a = a ≡ Ok tt
IsTakenIn (Push arena cache given) a = a ≡ Ok tt
IsTakenIn _ a = ⊥

-- that was the last answer
abbrev pub WasTakenIn : List AnsweredEvent → Type 0
WasTakenIn [] = ⊥
WasTakenIn (last ∷ told) = IsTakenIn last.event last.answer

-- the last was stopped
abbrev pub WasStopped : List AnsweredEvent → Type 0
WasStopped [] = ⊥
WasStopped (last ∷ told) = is_stopped last.event last.answer ≡ true

-- what a climb ends with: a grant of the chain's first arena; for 0 units alone a bad request;
-- NoFit where each arena of the chain was asked to carve, and nothing else; out of memory where a
-- carve or an import was, and what was carved for it was freed; a segment where a part has just
-- refused it; stopped where a part has just said so
abbrev pub ClimbTold : List Node → List Level → ℕ → List AnsweredEvent → ClimbEnd → Type 0
ClimbTold nodes chain n told (Ok t) = IsGrantOf nodes chain n t
ClimbTold nodes chain n told (Err (climbing.Refused carving.BadRequest)) = n ≡ 0
ClimbTold nodes chain n told (Err (climbing.Refused carving.NoFit)) = told ≡ no_fits chain n
ClimbTold nodes chain n told (Err (climbing.Refused carving.NoMemory)) = RanOut told
ClimbTold nodes chain n told (Err (climbing.Stuck t)) = WasRefused t told
ClimbTold nodes chain n told (Err (climbing.Stopped o)) = WasStopped told

-- and a hand back: it ends well where segments were freed and nothing else was done, and the last
-- that was freed made no span whole
abbrev pub ReturnTold : List AnsweredEvent → ReturnEnd → Type 0
ReturnTold told (Ok u) = OnlyTakenBack told × WasTakenIn told
ReturnTold told (Err (returning.Stuck t)) = WasRefused t told
ReturnTold told (Err (returning.Stopped t)) = WasStopped told
