-- What a gate is asked, and what it may say.
use Rattle.std.specs.Prelude.{◌≡◌, ◌⊎◌, ◌+◌, ◌-◌, ◌^◌, min, Bool, true, false}
use Rattle.arena_tree.specs.Events.{Event, Carve, Free, AddCarve, SlabTake, SlabPut, SlabAdd}
use Rattle.arena_tree.specs.Events.{SlabReap, SwapFull, SwapEmpty, SwapFresh, DepotReap}
use Rattle.arena_tree.specs.Events.{Pop, Push, Change}
use Rattle.locked_parts.specs.declared.gates.EventName.{EventName}
use Rattle.locked_parts.specs.declared.gates.EventName.TheVariants as step
use Rattle.locked_parts.specs.declared.gates.NextStep.{NextStep}
use Rattle.locked_parts.specs.declared.gates.StepCount.{StepCount}

-- the name that an event of a part has as a step; a magazine that is made is put in place of one
-- that the depot has
abbrev pub step_named : Event → EventName
step_named (Carve arena request) = step.Carve
step_named (Free given) = step.Free
step_named (AddCarve child given size) = step.AddCarve
step_named (SlabTake arena cache) = step.SlabTake
step_named (SlabPut given) = step.SlabPut
step_named (SlabAdd arena cache given) = step.SlabAdd
step_named (SlabReap arena cache) = step.SlabReap
step_named (SwapFull arena cache) = step.SwapFull
step_named (SwapEmpty arena cache) = step.SwapEmpty
step_named (SwapFresh arena cache) = step.SwapEmpty
step_named (DepotReap arena cache) = step.DepotReap
step_named (Pop arena cache) = step.Pop
step_named (Push arena cache given) = step.Push
step_named (Change arena cache size) = step.Change

-- the step of this name, after those that are counted
abbrev pub step_after : StepCount → EventName → NextStep
step_after s event = record { cpu = s.cpu; turn = s.turn; event = event }

-- a step more of the same CPU
abbrev pub CountsStep : (old new : StepCount) → Type 0
CountsStep old new = (new.cpu ≡ old.cpu) × (new.turn ≡ min (old.turn + 1) (2 ^ 64 - 1))

-- the gate let the next step come, of this name, or said Stop to it, and the step is counted
abbrev pub AsksGate : {X : Type 0} → (may passed : X → NextStep → Type 0) → X → EventName
    → (stopped : Bool) → (old new : StepCount) → Type 0
AsksGate may passed gate event stopped old new = CountsStep old new
    × (stopped ≡ false → passed gate (step_after old event))
    × (stopped ≡ true → may gate (step_after old event))

-- the gate may say Stop before some step
abbrev pub MayStop : {X : Type 0} → (X → NextStep → Type 0) → X → Type 0
MayStop may gate = (step : NextStep) × may gate step

-- the gate stays what it is; where a Stop is noted it was noted before, or the gate may have said
-- it; and one that was noted stays so
abbrev pub NotesStops : {X : Type 0} → (X → NextStep → Type 0) → (old new : X)
    → (noted now : Bool) → Type 0
NotesStops may old new noted now =
    (new ≡ old) × (now ≡ true → (noted ≡ true) ⊎ MayStop may old) × (noted ≡ true → now ≡ true)
