-- The chains that a tree keeps.
use Rattle.std.specs.Prelude.{◌≡◌, ℕ, ◌<◌, ◌≤◌, List, ◌∷◌, length, slice_get, Some}
use Rattle.std.specs.Global.{Vec}
use Rattle.arena_tree.specs.declared.limits.TheConstants.{LONGEST_CHAIN}
use Rattle.arena_tree.specs.declared.levels.Level.{Level}
use Rattle.arena_tree.specs.declared.trees.TreeArena.{TreeArena}
use Rattle.arena_tree.specs.Trees.{ChainFrom, level_of}

-- each arena's, in order
pub record AreChains (arenas : List TreeArena) (chains : List (Vec Level)) : Type 0 where
  pub count : length chains ≡ length arenas
  pub each : (id : ℕ) (c : Vec Level) → slice_get chains id ≡ Some c
      → ChainFrom arenas (Some id) c.items × (length c.items ≤ LONGEST_CHAIN)

-- the chain of an arena that is to come last
pub record IsNewChain (arenas : List TreeArena) (x : TreeArena) (chain : List Level) : Type 0 where
  pub up : List Level
  pub above : ChainFrom arenas x.source up
  pub short : length up < LONGEST_CHAIN
  pub is : chain ≡ level_of (length arenas) x ∷ up
