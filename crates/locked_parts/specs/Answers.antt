-- What the parts of a running system answer.
use Rattle.std.specs.Prelude.{◌≡◌, ℕ, ◌+◌, ◌*◌, ◌%◌, ◌≤◌, List, All, Option, Some, false, length}
use Rattle.deed_core.specs.Tag.{Tag}
use Rattle.deed_core.specs.declared.segments.Route.TheVariants.{Direct}
use Rattle.deed_table.specs.Opened.{OpenedState}
use Rattle.tag_arena.specs.ArenaState.{ArenaState}
use Rattle.arena_tree.specs.Chains.{Node, quantum_in, source_of}
use Rattle.arena_tree.specs.Events.{Event, AnswerTo}
use Rattle.arena_tree.specs.Sound.{Sound}
use Rattle.arena_tree.specs.Stops.{is_stopped}
use Rattle.arena_tree.specs.Trees.{nodes_of}
use Rattle.arena_tree.specs.declared.limits.TheConstants.{MOST_SPANS}
use Rattle.arena_tree.specs.declared.trees.TreeArena.{TreeArena}
use Rattle.locked_parts.specs.declared.arena_parts.ArenaSet.{ArenaSet}
use Rattle.locked_parts.specs.declared.kinds.CacheKind.{CacheKind}

-- the answer is sound, and no stop
abbrev pub AnswersSoundly : List Node → (e : Event) → AnswerTo e → Type 0
AnswersSoundly nodes e a = Sound nodes e a × (is_stopped e a ≡ false)

-- an arena under its lock, with the number of the arena that it imports from, the further roots
-- that were opened for it, and how many of its roots stand beside the lock
pub record ArenaPartState : Type 0 where
  pub source : Option ℕ
  pub arena : ArenaState
  pub roots : OpenedState
  pub beside : ℕ

-- it is the arena that was set up so
pub record IsArenaFor (set : ArenaSet) (p : ArenaPartState) : Type 0 where
  pub number : p.arena.id ≡ set.number
  pub quantum : set.quantum ≡ p.arena.quantum
  pub source : set.source ≡ p.source

-- what the arena of this number was set up as
abbrev pub set_of : List TreeArena → ℕ → ArenaSet
set_of arenas id = record {
  number = id;
  quantum = quantum_in (nodes_of arenas) id;
  source = source_of (nodes_of arenas) id;
}

-- all but the arena is as it was
pub record StaysButArena (old new : ArenaPartState) : Type 0 where
  pub source : new.source ≡ old.source
  pub roots : new.roots ≡ old.roots
  pub beside : new.beside ≡ old.beside

-- all that it imported is of its source
abbrev pub ImportsItsOwn : ArenaPartState → Type 0
ImportsItsOwn p = All (λ t. p.source ≡ Some t.arena) p.arena.imported

-- its root numbers are those of its arena, the first ones of the roots beside the lock; as many are
-- used as spans were opened, so where it owns as many as an arena may, none is left
pub record NumbersItsRoots (p : ArenaPartState) : Type 0 where
  pub from : MOST_SPANS * p.arena.id + p.beside ≤ p.roots.base
  pub all : p.roots.base + length p.roots.roots + p.roots.left
      ≡ MOST_SPANS * p.arena.id + MOST_SPANS
  pub owned : MOST_SPANS * p.arena.id + length p.arena.owned
      ≤ p.roots.base + length p.roots.roots

-- what is so of an arena under its lock, which has room for the end of so many roots: it is enough
-- for all
pub record IsArenaPart (p : ArenaPartState) (room : ℕ) : Type 0 where
  pub imports : ImportsItsOwn p
  pub numbers : NumbersItsRoots p
  pub enough : p.beside + length p.roots.roots ≤ room

-- the span of a slab of the quantum cache
pub record IsSpanOfKind (k : CacheKind) (t : Tag) : Type 0 where
  pub of_arena : t.arena ≡ k.arena
  pub direct : t.route ≡ Direct
  pub grid : t.holding.range.base % k.quantum ≡ 0
