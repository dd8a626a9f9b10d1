-- What a contract sees of a system and of a CPU.
use Rattle.std.specs.Prelude.{◌≡◌, ℕ, ◌+◌, List, All, Option, None, sum_by}
use Rattle.std.specs.Global.{Vec}
use Rattle.std.specs.Option.{option_to_list}
use Rattle.deed_core.specs.Covering.{units_tagged}
use Rattle.deed_core.specs.Holding.{Holding}
use Rattle.deed_core.specs.Tag.{Tag}
use Rattle.magazine_layer.specs.Magazines.{BothEmpty, cache_rounds}
use Rattle.arena_tree.specs.declared.trees.TreeArena.{TreeArena}
use Rattle.locked_parts.specs.Kinds.{OwnCacheState}

-- its arenas by number, and of each the roots that it was set up with, in order of adding: what
-- stands beside the locks
pub record SystemState : Type 0 where
  pub arenas : List TreeArena
  pub roots : List (Vec Holding)

-- a CPU: its number, its hand, and its magazines
pub record CpuState : Type 0 where
  pub number : ℕ
  pub hand : Option Tag
  pub caches : List OwnCacheState

-- the units of its hand and of all its rounds
abbrev pub cpu_units : CpuState → ℕ
cpu_units c = units_tagged (option_to_list c.hand)
    + sum_by (λ r. units_tagged (cache_rounds r.cpu)) c.caches

-- it holds no segment, in its hand or as a round
abbrev pub HoldsNothing : CpuState → Type 0
HoldsNothing c = (c.hand ≡ None) × All (λ r. BothEmpty r.cpu) c.caches
