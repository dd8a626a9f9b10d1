-- A list of steps that was gone through over one thread's parts.
use Rattle.std.specs.Prelude.{◌≡◌, List, ◌++◌, Option}
use Rattle.deed_core.specs.Tag.{Tag}
use Rattle.arena_tree.specs.declared.trees.TreeArena.{TreeArena}
use Rattle.arena_tree.specs.Chains.{Node}
use Rattle.arena_tree.specs.Events.{Event, AnswerTo}
use Rattle.arena_tree.specs.Plans.{Plan, Path}
use Rattle.arena_tree.specs.Sound.{Sound}
use Rattle.arena_tree.specs.Trees.{IsTree, nodes_of}
use Rattle.stock.specs.Accounts.{IsAccounted}
use Rattle.stock.specs.Setups.{plans_for}
use Rattle.stock.specs.Spaces.{plans_of}
use Rattle.local_parts.specs.Cpus.{IsCpuOf}
use Rattle.local_parts.specs.States.{LocalState, out_of_stock}
use Rattle.local_parts.specs.Steps.{LocalStep}

-- one event, whose answer is sound in these arenas
pub record SoundStep (nodes : List Node) (old : LocalState) (event : Event)
    (answer : AnswerTo event) (new : LocalState) : Type 0 where
  pub step : LocalStep old event answer new
  pub sound : Sound nodes event answer

-- the stock and the CPU's caches are those of the tree
pub record IsLocalOf (arenas : List TreeArena) (s : LocalState) : Type 0 where
  pub tree : IsTree arenas
  pub plans : plans_of s.spaces ≡ plans_for arenas
  pub cpu : IsCpuOf s.spaces s.cpu

-- the segments that are out are the hand's, the CPU's rounds, and those that others hold
abbrev pub IsAccountedWith : LocalState → Option Tag → List Tag → Type 0
IsAccountedWith s hand others = IsAccounted s.spaces (out_of_stock s hand ++ others)

-- the list of steps was gone through over the parts of the tree, and ended with a
abbrev pub RunsTo : {A : Type 0} → List TreeArena → Plan A → LocalState → LocalState → A → Type 0
RunsTo arenas p old new a = Path (SoundStep (nodes_of arenas)) p old new a
