-- What is added to a tree, and why it is refused: the first reason that is so, in the order of the
-- faults. Memory is asked for only where there is none.
use Rattle.std.specs.Prelude.{◌≡◌, ℕ, ◌<◌, ◌≤◌, List, [], ◌∷◌, ◌++◌, length, slice_get, Some, None}
use Rattle.std.specs.Int.{IsPowerOfTwo}
use Rattle.deed_core.specs.Extent.{Extent}
use Rattle.arena_tree.specs.declared.limits.TheConstants.{MOST_ARENAS, LONGEST_CHAIN}
use Rattle.arena_tree.specs.declared.levels.Level.{Level}
use Rattle.arena_tree.specs.declared.trees.TreeArena.{TreeArena}
use Rattle.arena_tree.specs.declared.settings.NewRoot.{NewRoot}
use Rattle.arena_tree.specs.declared.settings.NewChild.{NewChild}
use Rattle.arena_tree.specs.declared.setup_faults.SetupFault.{SetupFault}
use Rattle.arena_tree.specs.declared.setup_faults.SetupFault.TheVariants.{NameTaken, TooMany}
use Rattle.arena_tree.specs.declared.setup_faults.SetupFault.TheVariants.{NoArena, ChainTooLong}
use Rattle.arena_tree.specs.declared.setup_faults.SetupFault.TheVariants.{BadQuantum, BadCache}
use Rattle.arena_tree.specs.declared.setup_faults.SetupFault.TheVariants.{BadRange, NoMemory}
use Rattle.arena_tree.specs.Trees.{index_in, ChainFrom, IsWholeRange, CanCache, HasCaches}

-- an arena has the name
abbrev pub IsTaken : List TreeArena → List ℕ → Type 0
IsTaken arenas name = (id : ℕ) × (index_in name arenas ≡ Some id)

-- the name is free, and there is room for one more
abbrev pub HasRoom : List TreeArena → List ℕ → Type 0
HasRoom arenas name = (index_in name arenas ≡ None) × (length arenas < MOST_ARENAS)

abbrev pub IsFull : List TreeArena → List ℕ → Type 0
IsFull arenas name = (index_in name arenas ≡ None) × (MOST_ARENAS ≤ length arenas)

-- the range that a root asks for
abbrev pub root_range : NewRoot → Extent
root_range r = record { base = r.base; len = r.len }

-- nothing speaks against the root
pub record CanRoot (arenas : List TreeArena) (r : NewRoot) : Type 0 where
  pub room : HasRoom arenas r.name
  pub power : IsPowerOfTwo r.quantum
  pub caches : CanCache r.quantum r.qcache_max
  pub range : IsWholeRange r.quantum (root_range r)

abbrev pub RefusesRoot : List TreeArena → NewRoot → SetupFault → Type 0
RefusesRoot arenas r NameTaken = IsTaken arenas r.name
RefusesRoot arenas r TooMany = IsFull arenas r.name
RefusesRoot arenas r NoArena = ⊥
RefusesRoot arenas r ChainTooLong = ⊥
RefusesRoot arenas r BadQuantum = HasRoom arenas r.name × (¬ IsPowerOfTwo r.quantum)
RefusesRoot arenas r BadCache = HasRoom arenas r.name × IsPowerOfTwo r.quantum
    × (¬ CanCache r.quantum r.qcache_max)
RefusesRoot arenas r BadRange = HasRoom arenas r.name × IsPowerOfTwo r.quantum
    × CanCache r.quantum r.qcache_max × (¬ IsWholeRange r.quantum (root_range r))
RefusesRoot arenas r NoMemory = CanRoot arenas r

-- the source is this arena, and its chain takes one more
pub record IsSource (arenas : List TreeArena) (c : NewChild) (id : ℕ) (y : TreeArena) : Type 0 where
  pub finds : index_in c.source arenas ≡ Some id
  pub here : slice_get arenas id ≡ Some y
  pub short : (up : List Level) × ChainFrom arenas (Some id) up × (length up < LONGEST_CHAIN)

abbrev pub HasSource : List TreeArena → NewChild → Type 0
HasSource arenas c = (id : ℕ) × (y : TreeArena) × IsSource arenas c id y

-- the quantum is a power of two, and no greater than the source's
abbrev pub IsChildQuantum : List TreeArena → NewChild → Type 0
IsChildQuantum arenas c = IsPowerOfTwo c.quantum
    × ((id : ℕ) × (y : TreeArena) × IsSource arenas c id y × (c.quantum ≤ y.quantum))

-- nothing speaks against the child
pub record CanChild (arenas : List TreeArena) (c : NewChild) : Type 0 where
  pub room : HasRoom arenas c.name
  pub quantum : IsChildQuantum arenas c
  pub caches : CanCache c.quantum c.qcache_max

abbrev pub RefusesChild : List TreeArena → NewChild → SetupFault → Type 0
RefusesChild arenas c NameTaken = IsTaken arenas c.name
RefusesChild arenas c TooMany = IsFull arenas c.name
RefusesChild arenas c NoArena = HasRoom arenas c.name × (index_in c.source arenas ≡ None)
RefusesChild arenas c ChainTooLong = HasRoom arenas c.name × ((id : ℕ) × (up : List Level)
    × (index_in c.source arenas ≡ Some id) × ChainFrom arenas (Some id) up
    × (LONGEST_CHAIN ≤ length up))
RefusesChild arenas c BadQuantum = HasRoom arenas c.name × HasSource arenas c
    × (¬ IsChildQuantum arenas c)
RefusesChild arenas c BadCache = HasRoom arenas c.name × IsChildQuantum arenas c
    × (¬ CanCache c.quantum c.qcache_max)
RefusesChild arenas c BadRange = ⊥
RefusesChild arenas c NoMemory = CanChild arenas c

-- the arena that a root becomes, with slabs of this size
abbrev pub root_arena : NewRoot → ℕ → TreeArena
root_arena r size = record {
  name = r.name;
  source = None;
  quantum = r.quantum;
  policy = r.policy;
  qcache_max = r.qcache_max;
  slab_size = size;
  import_min = 0;
}

-- the arena that a child becomes, with this source and slabs of this size
abbrev pub child_arena : NewChild → ℕ → ℕ → TreeArena
child_arena c source size = record {
  name = c.name;
  source = Some source;
  quantum = c.quantum;
  policy = c.policy;
  qcache_max = c.qcache_max;
  slab_size = size;
  import_min = c.import_min;
}

-- nothing speaks against the root, and this is the arena that it becomes
pub record BecomesRoot (arenas : List TreeArena) (r : NewRoot) (x : TreeArena) : Type 0 where
  pub can : CanRoot arenas r
  pub caches : HasCaches r.quantum r.qcache_max x.slab_size
  pub is : x ≡ root_arena r x.slab_size

-- nothing speaks against the child, and these are its source and the arena that it becomes
pub record BecomesChild (arenas : List TreeArena) (c : NewChild) (id : ℕ) (x : TreeArena)
    : Type 0 where
  pub can : CanChild arenas c
  pub source : (y : TreeArena) × IsSource arenas c id y
  pub caches : HasCaches c.quantum c.qcache_max x.slab_size
  pub is : x ≡ child_arena c id x.slab_size

-- the root is the last arena
pub record AddsRoot (r : NewRoot) (old new : List TreeArena) : Type 0 where
  pub arena : TreeArena
  pub becomes : BecomesRoot old r arena
  pub added : new ≡ old ++ arena ∷ []

-- the child is the last arena
pub record AddsChild (c : NewChild) (old new : List TreeArena) : Type 0 where
  pub source : ℕ
  pub arena : TreeArena
  pub becomes : BecomesChild old c source arena
  pub added : new ≡ old ++ arena ∷ []
