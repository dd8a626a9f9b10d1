-- Which answers say that nothing was done, and what is counted.
use Rattle.std.specs.Prelude.{◌≡◌, ℕ, ◌+◌, ◌-◌, ◌^◌, min, Bool, true, false, Result, Ok, Err}
use Rattle.arena_tree.specs.declared.part_faults.PartFault.{PartFault}
use Rattle.arena_tree.specs.declared.part_faults.GivenFault.{GivenFault}
use Rattle.arena_tree.specs.declared.part_faults.PartFault.TheVariants as asking
use Rattle.arena_tree.specs.declared.part_faults.GivenFault.TheVariants as giving
use Rattle.arena_tree.specs.Events.{Event, AnswerTo, Carve, Free, AddCarve, SlabTake, SlabPut}
use Rattle.arena_tree.specs.Events.{SlabAdd, SlabReap, SwapFull, SwapEmpty, SwapFresh, DepotReap}
use Rattle.arena_tree.specs.Events.{Pop, Push, Change}

-- of an answer, by its refusal
abbrev pub refuses_by : {A E : Type 0} → (E → Bool) → Result A E → Bool
refuses_by stops (Ok a) = false
refuses_by stops (Err e) = stops e

abbrev pub part_stops : {F : Type 0} → PartFault F → Bool
part_stops asking.Stopped = true
part_stops _ = false

abbrev pub given_stops : {F S : Type 0} → GivenFault F S → Bool
given_stops (giving.Stopped given) = true
given_stops _ = false

-- the answer says that nothing was done
abbrev pub is_stopped : (e : Event) → AnswerTo e → Bool
is_stopped (Carve arena request) a = refuses_by part_stops a
is_stopped (Free given) a = refuses_by given_stops a
is_stopped (AddCarve child given size) a = refuses_by given_stops a
is_stopped (SlabTake arena cache) a = refuses_by (λ _. true) a
is_stopped (SlabPut given) a = refuses_by given_stops a
is_stopped (SlabAdd arena cache given) a = refuses_by given_stops a
is_stopped (SlabReap arena cache) a = refuses_by (λ _. true) a
is_stopped (SwapFull arena cache) a = refuses_by part_stops a
is_stopped (SwapEmpty arena cache) a = refuses_by part_stops a
is_stopped (SwapFresh arena cache) a = refuses_by part_stops a
is_stopped (DepotReap arena cache) a = refuses_by (λ _. true) a
is_stopped (Pop arena cache) a = refuses_by (λ _. true) a
is_stopped (Push arena cache given) a = refuses_by given_stops a
is_stopped (Change arena cache size) a = refuses_by part_stops a

-- what is stopped isn't counted; else each lock is, up to the greatest number of 64 bits
abbrev pub Counts : Bool → (locks old new : ℕ) → Type 0
Counts true locks old new = new ≡ old
Counts false locks old new = new ≡ min (old + locks) (2 ^ 64 - 1)
