-- What a request for a lease can be served with.
use Rattle.std.specs.Prelude.{◌≡◌, ◌⊎◌, ℕ, ◌+◌, ◌*◌, ◌≤◌, [], ◌∷◌}
use Rattle.deed_core.specs.Tag.{Tag}
use Rattle.deed_core.specs.Request.{Fits, IsPlain, rounding_of}
use Rattle.deed_core.specs.declared.requests.Request.{Request}
use Rattle.magazine_layer.specs.declared.rounds.RoundOp.TheVariants.{Take}
use Rattle.magazine_layer.specs.declared.rounds.RoundAnswer.TheVariants.{Nothing}
use Rattle.arena_tree.specs.declared.trees.TreeArena.{TreeArena}
use Rattle.quantum_cache.specs.Caches.{chain_in}
use Rattle.stock.specs.Spaces.{QuantumCacheState, IsCacheAt}
use Rattle.stock.specs.OwnCaches.{OwnCacheState}
use Rattle.local_parts.specs.Cpus.{IsOwnAt}
use Rattle.lease_machine.specs.Picture.{Picture, IsHeld}
use Rattle.local_calls.specs.NoFits.{HasBase, HasBaseUp, CanTake}
use Rattle.lease_machine.specs.Moves.{CarvesAt, Climbs, CarvesInVain}
use Rattle.lease_machine.specs.Moves.{ClimbsInVain, SameNames}
use Rattle.lease_machine.specs.Chunks.{selected_caches, MovesNone, WasRound, WasIdle, LacksChunks}
use Rattle.lease_machine.specs.Chunks.{IsOfNewSlab, GoesBack}

-- the arena serves the request by its caches: it isn't constrained, and no greater than they are
abbrev pub IsCachedIn : TreeArena → Request → Type 0
IsCachedIn x q = IsPlain q × (rounding_of x.quantum q.size ≤ x.qcache_max)

-- the quantum cache whose chunks are so long, with the selected CPU's cache for it
pub record CacheFor (d : Picture) (index : ℕ) (x : TreeArena) (q : Request)
    (c : QuantumCacheState) (o : OwnCacheState) : Type 0 where
  pub cache : ℕ
  pub size : rounding_of x.quantum q.size ≡ (cache + 1) * x.quantum
  pub shared : IsCacheAt d.spaces index cache c
  pub own : IsOwnAt (selected_caches d) index cache o

-- the selected CPU can take a chunk of that cache
abbrev pub HasChunk : Picture → ℕ → TreeArena → Request → Type 0
HasChunk d index x q =
    (c : QuantumCacheState) × (o : OwnCacheState) × CacheFor d index x q c o × CanTake c o

-- Something serves the request: of the arena's caches, where it has some for it; for one that isn't
-- constrained an address of the arena, or one of its sources, from which it would import; for one
-- that is, an address of the arena alone.
abbrev pub CanServe : Picture → ℕ → TreeArena → Request → Type 0
CanServe d index x q = (IsCachedIn x q × HasChunk d index x q)
    ⊎ (IsPlain q × HasBaseUp d.spaces (chain_in d.tree index) q.size)
    ⊎ ((¬ IsPlain q) × HasBase d.spaces index q)

-- how the arena's caches served it: by a round, by an idle chunk, by one of a new slab or, where no
-- slab fits, by a climb for the request itself; and nothing else changed
abbrev pub CachesServe : ℕ → TreeArena → Request → Tag → Picture → Picture → Type 0
CachesServe index x q t old new = (c : QuantumCacheState) × (o : OwnCacheState)
    × (f : CacheFor old index x q c o)
    × (WasRound index f.cache c t old new ⊎ WasIdle index f.cache c t old new
    ⊎ (LacksChunks index f.cache c old new
    × (IsOfNewSlab (chain_in old.tree index) x.slab_size index f.cache t old.spaces new.spaces
    ⊎ ((¬ HasBaseUp old.spaces (chain_in old.tree index) x.slab_size)
    × Climbs (chain_in old.tree index) q.size t old.spaces new.spaces))))

-- where the segment is from: of a constrained request one carve and nothing else; where no cache
-- serves, a climb and nothing else; else of the caches
abbrev pub ComesFrom : ℕ → TreeArena → Request → Tag → Picture → Picture → Type 0
ComesFrom index x q t old new =
    ((¬ IsPlain q) × CarvesAt index q t old.spaces new.spaces × (new.cpus ≡ old.cpus))
    ⊎ (IsPlain q × (¬ IsCachedIn x q)
    × Climbs (chain_in old.tree index) q.size t old.spaces new.spaces × (new.cpus ≡ old.cpus))
    ⊎ (IsCachedIn x q × CachesServe index x q t old new)

-- the request was served with the segment
pub record ServesWith (index : ℕ) (x : TreeArena) (q : Request) (t : Tag) (old new : Picture)
    : Type 0 where
  pub arena : t.arena ≡ index
  pub fits : Fits x.quantum q t.holding.range.base t.holding.range.len
  pub from : ComesFrom index x q t old new
  pub names : SameNames old new

-- the CPU's cache for it has no round, and at most changed over; no other cache of a CPU changed
abbrev pub LooksInVain : ℕ → TreeArena → Request → Picture → Picture → Type 0
LooksInVain index x q old new = (c : QuantumCacheState) × (o : OwnCacheState)
    × (f : CacheFor old index x q c o) × MovesNone index f.cache c Take Nothing old new

-- nothing serves it: only that where caches serve the selected CPU's magazines may have got greater
pub record ServesNone (index : ℕ) (x : TreeArena) (q : Request) (old new : Picture) : Type 0 where
  pub none : ¬ CanServe old index x q
  pub spaces : new.spaces ≡ old.spaces
  pub cpus : (new.cpus ≡ old.cpus) ⊎ (IsCachedIn x q × LooksInVain index x q old new)
  pub names : SameNames old new

-- what it was served with went back
abbrev pub ServesInVain : ℕ → TreeArena → Request → Picture → Picture → Type 0
ServesInVain index x q old new = (t : Tag) × (mid : Picture) × (mid.book ≡ old.book)
    × IsHeld (t ∷ []) mid × ServesWith index x q t old mid × GoesBack t mid new

-- its caches have no chunk, and what was climbed for went back: for a slab, or where none fits for
-- the request itself
abbrev pub SlabsInVain : ℕ → TreeArena → Request → Picture → Picture → Type 0
SlabsInVain index x q old new = (c : QuantumCacheState) × (o : OwnCacheState)
    × (f : CacheFor old index x q c o) × LacksChunks index f.cache c old new
    × (ClimbsInVain (chain_in old.tree index) x.slab_size old.spaces new.spaces
    ⊎ ((¬ HasBaseUp old.spaces (chain_in old.tree index) x.slab_size)
    × ClimbsInVain (chain_in old.tree index) q.size old.spaces new.spaces))

-- out of memory: nothing changed, or what was taken on the way went back
abbrev pub FallsBack : ℕ → TreeArena → Request → Picture → Picture → Type 0
FallsBack index x q old new =
    ((¬ IsPlain q) × CarvesInVain index q old.spaces new.spaces × (new.cpus ≡ old.cpus))
    ⊎ (IsPlain q × (¬ IsCachedIn x q)
    × ClimbsInVain (chain_in old.tree index) q.size old.spaces new.spaces
    × (new.cpus ≡ old.cpus))
    ⊎ (IsCachedIn x q × (((new.spaces ≡ old.spaces) × (new.cpus ≡ old.cpus))
    ⊎ SlabsInVain index x q old new ⊎ ServesInVain index x q old new))
