-- What a contract sees of parts under their locks.
use Rattle.std.specs.Prelude.{◌≡◌, ◌<◌, ◌++◌, ℕ, List, Some, length, slice_get}
use Rattle.arena_tree.specs.Chains.{quantum_in}
use Rattle.arena_tree.specs.Trees.{nodes_of}
use Rattle.arena_tree.specs.declared.trees.TreeArena.{TreeArena}
use Rattle.locked_parts.specs.Answers.{set_of}
use Rattle.locked_parts.specs.Kinds.{kinds_up_to}
use Rattle.locked_parts.specs.declared.arena_parts.ArenaSet.{ArenaSet}
use Rattle.locked_parts.specs.declared.kinds.CacheKind.{CacheKind}

-- what stands beside an arena's lock: what it was set up as, and its quantum caches, by number,
-- from 1 on
pub record LockedArenaState : Type 0 where
  pub set : ArenaSet
  pub kinds : List CacheKind

-- the arena of this number stands there, with the first of the quantum caches that it was set up
-- with
pub record StandsInPlace (arenas : List TreeArena) (id : ℕ) (a : LockedArenaState) : Type 0 where
  pub set : a.set ≡ set_of arenas id
  pub kinds : a.kinds ≡ kinds_up_to id (quantum_in (nodes_of arenas) id) (length a.kinds)

-- each does at its place
abbrev pub AreInPlace : List TreeArena → List LockedArenaState → Type 0
AreInPlace arenas stand =
    (k : ℕ) (a : LockedArenaState) → slice_get stand k ≡ Some a → StandsInPlace arenas k a

-- of these, the first are left
abbrev pub IsFrontOf : {X : Type 0} → (all left : List X) → Type 0
IsFrontOf {X} all left = (rest : List X) × (all ≡ left ++ rest)

-- this is the quantum cache of that number
abbrev pub IsCacheAt : List TreeArena → (arena number : ℕ) → CacheKind → Type 0
IsCacheAt arenas arena number k = (k.arena ≡ arena) × (k.number ≡ number) × (0 < k.quantum)
    × (quantum_in (nodes_of arenas) arena ≡ k.quantum)

-- the arenas by number, as they were set up; how many of them aren't ended, and these, which are
-- the first ones
pub record LockedPartsState : Type 0 where
  pub arenas : List TreeArena
  pub standing : ℕ
  pub stand : List LockedArenaState
