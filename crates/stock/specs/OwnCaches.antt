-- What a contract sees of a CPU's cache with its index.
use Rattle.std.specs.Prelude.{◌≡◌, List, ℕ, ◌<◌, flat_map}
use Rattle.deed_core.specs.Tag.{Tag}
use Rattle.magazine_layer.specs.Magazines.{CpuCacheState, BothEmpty, cache_rounds}
use Rattle.stock.specs.Steps.{AreRoundsOf}

-- the indexes of the arena and the quantum cache that its rounds are chunks of, the arena's
-- quantum, and its magazines
pub record OwnCacheState : Type 0 where
  pub arena : ℕ
  pub cache : ℕ
  pub quantum : ℕ
  pub cpu : CpuCacheState

-- its rounds
abbrev pub own_rounds : OwnCacheState → List Tag
own_rounds o = cache_rounds o.cpu

-- those of all these
abbrev pub all_own_rounds : List OwnCacheState → List Tag
all_own_rounds caches = flat_map own_rounds caches

-- both its magazines are empty
abbrev pub HasNoRound : OwnCacheState → Type 0
HasNoRound o = BothEmpty o.cpu

-- what every such cache is
pub record IsOwnCache (o : OwnCacheState) : Type 0 where
  pub some : 0 < o.quantum
  pub rounds : AreRoundsOf o.arena o.cache o.quantum o.cpu

-- the two are of one quantum cache
pub record IsAtIndexesOf (old new : OwnCacheState) : Type 0 where
  pub arena : new.arena ≡ old.arena
  pub cache : new.cache ≡ old.cache
  pub quantum : new.quantum ≡ old.quantum
