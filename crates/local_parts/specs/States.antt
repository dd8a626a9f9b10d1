-- What a contract sees of one thread's parts: the stock's arenas, and one CPU's caches.
use Rattle.std.specs.Prelude.{◌≡◌, ℕ, List, [], ◌∷◌, ◌++◌, Option}
use Rattle.std.specs.Option.{option_to_list}
use Rattle.deed_core.specs.Tag.{Tag}
use Rattle.arena_tree.specs.declared.trees.TreeArena.{TreeArena}
use Rattle.arena_tree.specs.Chains.{Node}
use Rattle.stock.specs.Spaces.{SpaceState, SpacePlan, HasCache}
use Rattle.stock.specs.Accounts.{Accounts}
use Rattle.stock.specs.OwnCaches.{OwnCacheState}
use Rattle.stock.specs.Steps.{HasQuantum}
use Rattle.local_parts.specs.Cpus.{IsOwnAt, cpu_rounds}

pub record LocalState : Type 0 where
  pub spaces : List SpaceState
  pub cpu : List (List OwnCacheState)

-- an arena of the stock, with the sizes that the tree says; 0 where the tree has no such arena
abbrev pub bare_node : SpacePlan → Node
bare_node p = record {
  source = p.source;
  quantum = p.quantum;
  import_min = 0;
  qcache_max = 0;
  slab_size = 0;
}

abbrev pub sized_node : SpacePlan → TreeArena → Node
sized_node p x = record {
  source = p.source;
  quantum = p.quantum;
  import_min = x.import_min;
  qcache_max = x.qcache_max;
  slab_size = x.slab_size;
}

-- the arenas by number: sources and quanta are the stock's, the sizes are the tree's
abbrev pub tree_of : List SpacePlan → List TreeArena → List Node
tree_of [] sizes = []
tree_of (p ∷ plans) [] = bare_node p ∷ tree_of plans []
tree_of (p ∷ plans) (x ∷ sizes) = sized_node p x ∷ tree_of plans sizes

-- the tree has the stock's arenas, with the same sources and quanta
abbrev pub IsTreeOf : List SpacePlan → List TreeArena → Type 0
IsTreeOf [] [] = Unit {0}
IsTreeOf [] (x ∷ sizes) = ⊥
IsTreeOf (p ∷ plans) [] = ⊥
IsTreeOf (p ∷ plans) (x ∷ sizes) =
    (x.source ≡ p.source) × (x.quantum ≡ p.quantum) × IsTreeOf plans sizes

-- the CPU's cache at these indexes is one for the stock's quantum cache there
pub record IsReached (s : LocalState) (k j : ℕ) (o : OwnCacheState) : Type 0 where
  pub has : HasCache s.spaces k j
  pub own : IsOwnAt s.cpu k j o
  pub quantum : HasQuantum s.spaces k o.quantum

abbrev pub HasReached : LocalState → ℕ → ℕ → Type 0
HasReached s k j = (o : OwnCacheState) × IsReached s k j o

-- the segments that are out of the stock where the hand holds this: the hand's and the CPU's rounds
abbrev pub out_of_stock : LocalState → Option Tag → List Tag
out_of_stock s hand = option_to_list hand ++ cpu_rounds s.cpu

-- whoever else holds segments, the accounts balance after it where they did before
abbrev pub Conserves : LocalState → Option Tag → LocalState → Option Tag → Type 0
Conserves old hand new left = (rest : List Tag)
    → Accounts old.spaces (out_of_stock old hand ++ rest)
    → Accounts new.spaces (out_of_stock new left ++ rest)

-- nothing changed
pub record IsUnchanged (old new : LocalState) : Type 0 where
  pub spaces : new.spaces ≡ old.spaces
  pub cpu : new.cpu ≡ old.cpu
