-- What emptying the CPU of a running system comes to, as far as can be told where nothing is known
-- of what lies behind the locks.
use Rattle.std.specs.Prelude.{◌≡◌, ◌≢◌, ◌⊎◌, ℕ, ◌≤◌, List, length, map, Option, Some, None, Ok, Err}
use Rattle.deed_core.specs.Tag.{Tag}
use Rattle.arena_tree.specs.Chains.{Node}
use Rattle.arena_tree.specs.Events.{AnswerTo}
use Rattle.arena_tree.specs.Plans.{Plan, Done, Ask}
use Rattle.arena_tree.specs.Trees.{nodes_of}
use Rattle.arena_tree.specs.declared.part_faults.ReturnFault.TheVariants as returning
use Rattle.arena_tree.specs.declared.trees.TreeArena.{TreeArena}
use Rattle.lease_call.specs.Placing.{place_plan}
use Rattle.locked_parts.specs.Answers.{AnswersSoundly}
use Rattle.locked_parts.specs.Kinds.{kinds_of}
use Rattle.quantum_cache.specs.Drains.{drain_plan}
use Rattle.quantum_cache.specs.Told.{PartRefuses}
use Rattle.quantum_cache.specs.declared.emptying_faults.EmptyingFault.TheVariants as emptying
use Rattle.lease_threads.specs.Reaping.{EndsSoundly}
use Rattle.lease_threads.specs.Systems.{CpuState, HoldsNothing}

-- some sound answers of the parts, none of them a Stop, lead the list of steps to this end, and by
-- the last one a part refuses the segment; `refused` says whether the one before did
abbrev pub EndsAtRefusal : {A : Type 0} → List Node → Tag → (refused : Type 0) → Plan A → A
    → Type 0
EndsAtRefusal nodes t refused (Done b) a = (b ≡ a) × refused
EndsAtRefusal nodes t refused (Ask e f) a = (x : AnswerTo e) × AnswersSoundly nodes e x
    × EndsAtRefusal nodes t (PartRefuses t e x) (f x) a

-- a hand that isn't placed: it is of no arena of the tree and stays; or a part refuses it, or the
-- span of the arena's source that it made whole, and that is left
abbrev pub IsUnplaced : List TreeArena → (hand : Option Tag) → (left : Tag) → Type 0
IsUnplaced arenas None left = ⊥
IsUnplaced arenas (Some given) left = (length arenas ≤ given.arena) × (left ≡ given)
    ⊎ EndsAtRefusal (nodes_of arenas) left ⊥ (place_plan arenas given) (Err (returning.Stuck left))

-- the rounds of a CPU are placed until none is found in the magazines for any cache of the tree, or
-- a part refuses one, which is left
abbrev pub DrainsSoundly : List TreeArena → (left : Option Tag) → Type 0
DrainsSoundly arenas None =
    (turns : ℕ) × EndsSoundly (nodes_of arenas) (drain_plan turns arenas) (Ok tt)
DrainsSoundly arenas (Some left) = (turns : ℕ)
    × EndsAtRefusal (nodes_of arenas) left ⊥ (drain_plan turns arenas)
    (Err (Some (emptying.Stuck left)))

-- and its hand before them; a hand is left where it or a round isn't placed
abbrev pub RetiresSoundly : List TreeArena → (hand left : Option Tag) → Type 0
RetiresSoundly arenas hand None = DrainsSoundly arenas None
RetiresSoundly arenas hand (Some left) =
    IsUnplaced arenas hand left ⊎ DrainsSoundly arenas (Some left)

-- its magazines are those for the quantum caches of these arenas
abbrev pub IsCpuOf : List TreeArena → CpuState → Type 0
IsCpuOf arenas cpu = map (λ r. r.kind) cpu.caches ≡ kinds_of arenas

-- where the hand of a drained CPU is empty, nothing is left in it
abbrev pub IsDrained : List TreeArena → CpuState → Type 0
IsDrained arenas cpu = cpu.hand ≡ None → IsCpuOf arenas cpu → HoldsNothing cpu

-- and one that doesn't end has a segment in its hand
abbrev pub IsStuck : List TreeArena → CpuState → Type 0
IsStuck arenas cpu = IsCpuOf arenas cpu → cpu.hand ≢ None
