-- What a reaping of a running system comes to, as far as can be told where nothing is known of what
-- lies behind the locks.
use Rattle.std.specs.Prelude.{◌≡◌, ◌≢◌, ℕ, List, Option, Some, None, Ok, Err}
use Rattle.deed_core.specs.Tag.{Tag}
use Rattle.arena_tree.specs.Chains.{Node}
use Rattle.arena_tree.specs.Events.{AnswerTo}
use Rattle.arena_tree.specs.Plans.{Plan, Done, Ask}
use Rattle.arena_tree.specs.Trees.{nodes_of, ChainFrom}
use Rattle.arena_tree.specs.declared.levels.Level.{Level}
use Rattle.arena_tree.specs.declared.trees.TreeArena.{TreeArena}
use Rattle.locked_parts.specs.Answers.{AnswersSoundly}
use Rattle.quantum_cache.specs.declared.emptying_faults.EmptyingFault.{EmptyingFault}
use Rattle.quantum_cache.specs.declared.emptying_faults.EmptyingFault.TheVariants.{Stuck, Stopped}
use Rattle.quantum_cache.specs.declared.reaps.Reaping.{Reaping}
use Rattle.quantum_cache.specs.Reaps.{ReapEnd, reap_arena_plan}

-- some sound answers of the parts, none of them a Stop, lead the list of steps to this end
abbrev pub EndsSoundly : {A : Type 0} → List Node → Plan A → A → Type 0
EndsSoundly nodes (Done b) a = b ≡ a
EndsSoundly nodes (Ask e f) a = (x : AnswerTo e) × AnswersSoundly nodes e x
    × EndsSoundly nodes (f x) a

-- the segment that wasn't placed
abbrev pub unplaced_hand : EmptyingFault Tag → Option Tag
unplaced_hand (Stuck t) = Some t
unplaced_hand (Stopped hand) = hand

-- so many looks may be taken, and none was
abbrev pub unbegun : ℕ → Reaping
unbegun limit = record { left = limit; units = 0 }

-- the reaping came so far, and ended with this hand
abbrev pub HasReaped : ReapEnd → Reaping → Option Tag → Type 0
HasReaped (Ok r) reaping hand = (reaping ≡ r) × (hand ≡ None)
HasReaped (Err f) reaping hand = (reaping ≡ f.reaping) × (hand ≡ unplaced_hand f.cause)

-- the looks at the depots and slab caches of the chain's first arena, so many at most, ended so
abbrev pub ReapsSoundly : List TreeArena → (arena limit : ℕ) → Reaping → Option Tag → Type 0
ReapsSoundly arenas arena limit reaping hand = (chain : List Level)
    × ChainFrom arenas (Some arena) chain
    × (end : ReapEnd) × HasReaped end reaping hand
    × EndsSoundly (nodes_of arenas) (reap_arena_plan chain (unbegun limit)) end

-- a hand that can't be placed stays full, and no look was taken
abbrev pub KeepsHand : (old new : Option Tag) → ℕ → Reaping → Type 0
KeepsHand old new limit reaping = (old ≢ None) × (new ≢ None) × (reaping ≡ unbegun limit)
