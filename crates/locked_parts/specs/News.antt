-- Parts of a system as they are made.
use Rattle.std.specs.Prelude.{◌≡◌, ℕ, ◌+◌, ◌==◌, List, [], ◌∷◌, All, Option, Some, map, filter}
use Rattle.std.specs.Prelude.{slice_get, length}
use Rattle.deed_core.specs.Extent.{Extent}
use Rattle.deed_core.specs.Holding.{Holding}
use Rattle.tag_arena.specs.ArenaState.{ArenaState}
use Rattle.tag_arena.specs.declared.policies.Policy.{Policy}
use Rattle.arena_tree.specs.Chains.{quantum_in}
use Rattle.arena_tree.specs.Trees.{nodes_of}
use Rattle.arena_tree.specs.declared.setups.OwnedSpan.{OwnedSpan}
use Rattle.arena_tree.specs.declared.trees.TreeArena.{TreeArena}
use Rattle.magazine_layer.specs.Depots.{DepotState, new_depot}
use Rattle.locked_parts.specs.Answers.{set_of}
use Rattle.locked_parts.specs.Kinds.{count_of_caches, kinds_up_to, first_size}
use Rattle.locked_parts.specs.States.{LockedArenaState}
use Rattle.locked_parts.specs.declared.kinds.CacheKind.{CacheKind}

-- the ranges of those spans that the arena of this number owns, in order of coming
abbrev pub ranges_owned : ℕ → List OwnedSpan → List Extent
ranges_owned id spans = map (λ o. o.range) (filter (λ o. o.arena == id) spans)

-- a root of each of these ranges, with numbers that go on from the first one
abbrev pub numbered_from : ℕ → List Extent → List Holding
numbered_from first [] = []
numbered_from first (e ∷ ranges) =
    record { root = first; range = e } ∷ numbered_from (first + 1) ranges

-- the arena owns the whole of each of these roots and nothing else, and all of it is free
abbrev pub AreWhole : ArenaState → List Holding → Type 0
AreWhole a roots = (a.owned ≡ roots) × (a.free ≡ roots) × (a.imported ≡ [])

-- a quantum cache, how many units each slab of it has, and its depot
pub record NewCacheState : Type 0 where
  pub kind : CacheKind
  pub slab_size : ℕ
  pub depot : DepotState

-- its slabs are of the size that the arena with this number was set up with, and its depot has
-- nothing, for magazines of the first size
abbrev pub BeginsAsSet : List TreeArena → ℕ → NewCacheState → Type 0
BeginsAsSet arenas id c = (x : TreeArena) × (slice_get arenas id ≡ Some x)
    × (c.slab_size ≡ x.slab_size) × (c.depot ≡ new_depot first_size)

-- an arena as it is made, with its source, its quantum caches and its roots, in order of opening
pub record NewArenaState : Type 0 where
  pub id : ℕ
  pub quantum : ℕ
  pub policy : Policy
  pub source : Option ℕ
  pub caches : List NewCacheState
  pub roots : List Holding

-- it is the arena of this number as it was set up
pub record IsMadeAsSet (arenas : List TreeArena) (id : ℕ) (a : NewArenaState) : Type 0 where
  pub arena : (x : TreeArena) × (slice_get arenas id ≡ Some x) × (a.id ≡ id)
      × (a.quantum ≡ x.quantum) × (a.policy ≡ x.policy) × (a.source ≡ x.source)
  pub kinds : map (λ c. c.kind) a.caches
      ≡ kinds_up_to id (quantum_in (nodes_of arenas) id) (count_of_caches arenas id)
  pub begin : All (BeginsAsSet arenas id) a.caches

-- and each of these is the one of its index
pub record AreMadeAsSet (arenas : List TreeArena) (made : List NewArenaState) : Type 0 where
  pub each : (k : ℕ) (a : NewArenaState) → slice_get made k ≡ Some a → IsMadeAsSet arenas k a

-- what stands beside the lock of an arena, as it was made
abbrev pub locked_of : NewArenaState → LockedArenaState
locked_of a = record {
  set = record { number = a.id; quantum = a.quantum; source = a.source };
  kinds = map (λ c. c.kind) a.caches;
}

-- the arena of this number stands, with the quantum caches that it was set up with
pub record StandsAsSet (arenas : List TreeArena) (id : ℕ) (a : LockedArenaState) : Type 0 where
  pub set : a.set ≡ set_of arenas id
  pub kinds : a.kinds ≡ kinds_up_to id (quantum_in (nodes_of arenas) id) (count_of_caches arenas id)

-- each arena does, in its place
pub record StandAsSet (arenas : List TreeArena) (stand : List LockedArenaState) : Type 0 where
  pub count : length stand ≡ length arenas
  pub each : (k : ℕ) (a : LockedArenaState) → slice_get stand k ≡ Some a → StandsAsSet arenas k a
