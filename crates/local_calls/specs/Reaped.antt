-- When nothing is left to reap.
use Rattle.std.specs.Prelude.{◌≡◌, ℕ, List, All}
use Rattle.slab_layer.specs.Slab.{IsComplete}
use Rattle.magazine_layer.specs.Depots.{CanReap}
use Rattle.stock.specs.Spaces.{SpaceState, QuantumCacheState, IsCacheAt}

-- the depot has no round and no empty magazine that may go, and each slab has a chunk out
pub record HasNoneToReap (c : QuantumCacheState) : Type 0 where
  pub rounds : ¬ CanReap c.depot
  pub empty : c.depot.empty_reapable ≡ 0
  pub slabs : All (λ s. ¬ IsComplete s) c.slab.slabs

-- it is so of the cache at the index
abbrev pub NoneToReapAt : List SpaceState → ℕ → ℕ → Type 0
NoneToReapAt spaces k j = (c : QuantumCacheState) → IsCacheAt spaces k j c → HasNoneToReap c

-- of all caches of an arena
abbrev pub NoneToReapIn : List SpaceState → ℕ → Type 0
NoneToReapIn spaces k = (j : ℕ) → NoneToReapAt spaces k j

-- of all
abbrev pub NoneToReap : List SpaceState → Type 0
NoneToReap spaces = (k j : ℕ) → NoneToReapAt spaces k j
