-- What serves an allocation, and when nothing fits.
use Rattle.std.specs.Prelude.{◌≡◌, ◌≢◌, ◌⊎◌, ℕ, ◌+◌, List, [], ◌∷◌, slice_get, Option, Some, None}
use Rattle.deed_core.specs.Request.{plain_of}
use Rattle.deed_core.specs.declared.requests.Request.{Request}
use Rattle.tag_arena.specs.Place.{Serves}
use Rattle.slab_layer.specs.Cache.{idle_chunks}
use Rattle.arena_tree.specs.declared.levels.Level.{Level}
use Rattle.arena_tree.specs.Chains.{amount_of}
use Rattle.stock.specs.OwnCaches.{OwnCacheState, own_rounds}
use Rattle.stock.specs.Spaces.{SpaceState, QuantumCacheState, IsCacheAt}
use Rattle.quantum_cache.specs.Sizes.{cache_for}
use Rattle.local_parts.specs.States.{LocalState, IsReached}

-- an address of the arena at the index serves the request
abbrev pub HasBase : List SpaceState → ℕ → Request → Type 0
HasBase spaces index q = (s : SpaceState) × (slice_get spaces index ≡ Some s)
    × ((base : ℕ) × Serves s.arena.quantum q s.arena.free base)

-- so does one of an arena of the chain: of the first so many units, of each other what the one
-- below it would import for them
abbrev pub HasBaseUp : List SpaceState → List Level → ℕ → Type 0
HasBaseUp spaces [] n = ⊥
HasBaseUp spaces (l ∷ up) n =
    HasBase spaces l.id (plain_of n) ⊎ HasBaseUp spaces up (amount_of l up n)

-- with this cache of its own the CPU can take a chunk: one of its rounds, one of a full magazine of
-- the depot's, which is of the size of its own, or an idle one of a slab
abbrev pub CanTake : QuantumCacheState → OwnCacheState → Type 0
CanTake c o = (own_rounds o ≢ [])
    ⊎ ((o.cpu.size ≡ c.depot.size) × (c.depot.full ≢ []))
    ⊎ (idle_chunks c.slab ≢ [])

-- of the arena's cache of so many quanta the CPU can take none
abbrev pub CanTakeNone : LocalState → ℕ → ℕ → Type 0
CanTakeNone s arena cache = (j : ℕ) (o : OwnCacheState) (c : QuantumCacheState) → cache ≡ j + 1
    → IsReached s arena j o → IsCacheAt s.spaces arena j c → ¬ CanTake c o

-- the cache has no chunk to give, and no address serves for a new slab
pub record NoneInCache (s : LocalState) (l : Level) (up : List Level) (cache : ℕ) : Type 0 where
  pub chunks : CanTakeNone s l.id cache
  pub slab : ¬ HasBaseUp s.spaces (l ∷ up) l.slab_size

abbrev pub NoneInCacheBy : Option ℕ → LocalState → Level → List Level → Type 0
NoneInCacheBy None s l up = Unit {0}
NoneInCacheBy (Some cache) s l up = NoneInCache s l up cache

-- nothing serves an allocation of so many units: neither the cache for that size nor any address
abbrev pub NothingFits : LocalState → List Level → ℕ → Type 0
NothingFits s [] size = Unit {0}
NothingFits s (l ∷ up) size =
    NoneInCacheBy (cache_for l size) s l up × (¬ HasBaseUp s.spaces (l ∷ up) size)
