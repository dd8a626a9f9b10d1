-- What is told of the parts of an arena, each as it is at some moment under its own lock.
use Rattle.std.specs.Prelude.{◌≡◌, ℕ, zero, suc, ◌+◌, ◌-◌, ◌^◌, min, List}
use Rattle.deed_core.specs.Covering.{units_held, units_tagged}
use Rattle.tag_arena.specs.ArenaState.{ArenaState, IsSoundArena, ranges_of}
use Rattle.slab_layer.specs.Cache.{SlabCacheState, IsSoundCache, deeds_of}
use Rattle.magazine_layer.specs.Depots.{depot_rounds}
use Rattle.arena_tree.specs.declared.trees.TreeArena.{TreeArena}
use Rattle.locked_parts.specs.Kinds.{AreSlabsOf, KindDepotState, IsKindDepot, count_of_caches}
use Rattle.locked_parts.specs.Owns.{cache_of}
use Rattle.locked_parts.specs.declared.kinds.CacheKind.{CacheKind}
use Rattle.locked_parts.specs.declared.part_sums.PartSums.{PartSums}

-- some arena of this number has so many free units and, at that moment, so many allocated ones
pub record ArenaTells (id free_units allocated_units : ℕ) : Type 0 where
  pub arena : ArenaState
  pub sound : IsSoundArena arena
  pub number : arena.id ≡ id
  pub free : free_units ≡ units_held arena.free
  pub allocated : allocated_units ≡ units_held (ranges_of arena.allocated)

-- so many units lie in some slabs of the quantum cache
pub record SlabsTell (k : CacheKind) (units : ℕ) : Type 0 where
  pub slabs : SlabCacheState
  pub sound : IsSoundCache slabs
  pub of_kind : AreSlabsOf k slabs
  pub told : units ≡ units_held (deeds_of slabs)

-- or in the magazines of some depot of it, where they are below 2^128
pub record DepotTells (k : CacheKind) (units : ℕ) : Type 0 where
  pub depot : KindDepotState
  pub sound : IsKindDepot depot
  pub of_kind : depot.kind ≡ k
  pub told : units ≡ min (units_tagged (depot_rounds depot.depot)) (2 ^ 128 - 1)

-- what each of the first quantum caches, so many, told is added up; the sum stays at the greatest
-- number
abbrev pub AddsUp : (ℕ → ℕ → Type 0) → (count units : ℕ) → Type 0
AddsUp tells zero units = units ≡ 0
AddsUp tells (suc n) units = (before one : ℕ) × AddsUp tells n before × tells (suc n) one
    × (units ≡ min (before + one) (2 ^ 128 - 1))

-- the sums of the arena of this number: what it told itself, and what the slabs and the depot of
-- each of its quantum caches did
pub record SumsOf (arenas : List TreeArena) (id : ℕ) (s : PartSums) : Type 0 where
  pub arena : ArenaTells id s.free s.allocated
  pub slab : AddsUp (λ number. SlabsTell (cache_of arenas id number)) (count_of_caches arenas id)
      s.slab
  pub magazine : AddsUp (λ number. DepotTells (cache_of arenas id number))
      (count_of_caches arenas id) s.magazine
