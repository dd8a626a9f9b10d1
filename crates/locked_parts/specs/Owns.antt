-- What an event did to a CPU's magazines, by its answer.
use Rattle.std.specs.Prelude.{◌≡◌, ℕ, ◌+◌, ◌<◌, ◌⊎◌, List, Option, Some, None, Result, Ok, Err}
use Rattle.std.specs.Prelude.{map, slice_get, slice_set}
use Rattle.deed_core.specs.Tag.{Tag}
use Rattle.magazine_layer.specs.Magazines.{IsSize, BothFull, Pushes, after_change, empty_magazine}
use Rattle.magazine_layer.specs.Calls.{PopOf}
use Rattle.magazine_layer.specs.declared.faults.FullFault.{FullFault}
use Rattle.magazine_layer.specs.declared.faults.EmptyFault.{EmptyFault}
use Rattle.magazine_layer.specs.declared.faults.FullFault.TheVariants as fulling
use Rattle.magazine_layer.specs.declared.faults.EmptyFault.TheVariants as emptying
use Rattle.arena_tree.specs.declared.part_faults.PartFault.{PartFault}
use Rattle.arena_tree.specs.declared.part_faults.GivenFault.{GivenFault}
use Rattle.arena_tree.specs.declared.part_faults.FreshFault.{FreshFault}
use Rattle.arena_tree.specs.declared.part_faults.ChangeFault.{ChangeFault}
use Rattle.arena_tree.specs.declared.part_faults.Stopped.{Stopped}
use Rattle.arena_tree.specs.declared.part_faults.PartFault.TheVariants as asking
use Rattle.arena_tree.specs.declared.part_faults.GivenFault.TheVariants as giving
use Rattle.arena_tree.specs.declared.part_faults.FreshFault.TheVariants as freshing
use Rattle.arena_tree.specs.declared.part_faults.ChangeFault.TheVariants.{NoMemory, NotGreater}
use Rattle.arena_tree.specs.declared.trees.TreeArena.{TreeArena}
use Rattle.arena_tree.specs.Chains.{quantum_in}
use Rattle.arena_tree.specs.Trees.{nodes_of}
use Rattle.arena_tree.specs.Events.{Event, AnswerTo, Carve, Free, AddCarve, SlabTake, SlabPut}
use Rattle.arena_tree.specs.Events.{SlabAdd, SlabReap, SwapFull, SwapEmpty, SwapFresh, DepotReap}
use Rattle.arena_tree.specs.Events.{Pop, Push, Change}
use Rattle.locked_parts.specs.Kinds.{OwnCacheState, KindDepotState, IsOfKind, IsCacheOf}
use Rattle.locked_parts.specs.Kinds.{kinds_of, caches_before}
use Rattle.locked_parts.specs.Swaps.{GivesFull, GivesEmpty, TakesFull}
use Rattle.locked_parts.specs.declared.kinds.CacheKind.{CacheKind}

-- the quantum cache of this number, of an arena
abbrev pub cache_of : List TreeArena → (arena number : ℕ) → CacheKind
cache_of arenas arena number =
    record { arena = arena; number = number; quantum = quantum_in (nodes_of arenas) arena }

-- the CPU's magazines for it, at their place
pub record IsOwnAt (arenas : List TreeArena) (arena cache : ℕ) (caches : List OwnCacheState)
    (index : ℕ) (own : OwnCacheState) : Type 0 where
  pub place : index + 1 ≡ caches_before arenas arena + cache
  pub stands : slice_get caches index ≡ Some own
  pub kind : own.kind ≡ cache_of arenas arena cache

-- the CPU has none for it: it has some for each quantum cache only where this is none of them
abbrev pub HasNoOwn : List TreeArena → (arena cache : ℕ) → List OwnCacheState → Type 0
HasNoOwn arenas arena cache caches =
    map (λ o. o.kind) caches ≡ kinds_of arenas → ¬ IsCacheOf arenas (cache_of arenas arena cache)

-- the CPU's magazines for it did so, and no others changed
pub record OnOwn (arenas : List TreeArena) (arena cache : ℕ)
    (P : OwnCacheState → OwnCacheState → Type 0) (old new : List OwnCacheState) : Type 0 where
  pub index : ℕ
  pub own : OwnCacheState
  pub after : OwnCacheState
  pub at : IsOwnAt arenas arena cache old index own
  pub does : P own after
  pub kind : after.kind ≡ own.kind
  pub rest : new ≡ slice_set old index after

-- they did, or there are none, nothing changed, and that is how it was answered
abbrev pub OnOwnOr : List TreeArena → (arena cache : ℕ)
    → (OwnCacheState → OwnCacheState → Type 0) → Type 0 → (old new : List OwnCacheState) → Type 0
OnOwnOr arenas arena cache P answered old new = OnOwn arenas arena cache P old new
    ⊎ (answered × (new ≡ old) × HasNoOwn arenas arena cache old)

-- a chunk of the cache for which there is room
pub record CanPush (t : Tag) (c : OwnCacheState) : Type 0 where
  pub chunk : IsOfKind c.kind t
  pub room : ¬ BothFull c.cpu

-- it is kept just where it can be, else it comes back
abbrev pub DoesPush : Tag → Result (Unit {0}) Tag → OwnCacheState → OwnCacheState → Type 0
DoesPush t (Ok _) c c' = IsOfKind c.kind t × Pushes t c.cpu c'.cpu
DoesPush t (Err back) c c' = (back ≡ t) × (c' ≡ c) × (¬ CanPush t c)

-- the size is one of a magazine, and greater than theirs
pub record CanChange (size : ℕ) (c : OwnCacheState) : Type 0 where
  pub sized : IsSize size
  pub greater : c.cpu.size < size

-- they are of this size then, with all rounds, just where they can be and there is memory
abbrev pub DoesChange : ℕ → Result (Unit {0}) ChangeFault → OwnCacheState → OwnCacheState → Type 0
DoesChange size (Ok _) c c' = CanChange size c × (c'.cpu ≡ after_change size c.cpu)
DoesChange size (Err NoMemory) c c' = CanChange size c × (c' ≡ c)
DoesChange size (Err NotGreater) c c' = (¬ CanChange size c) × (c' ≡ c)

-- with some depot
abbrev pub WithDepot : (OwnCacheState → KindDepotState → OwnCacheState → KindDepotState → Type 0)
    → OwnCacheState → OwnCacheState → Type 0
WithDepot R c c' = (d d' : KindDepotState) × R c d c' d'

-- the three that take no lock
abbrev pub OwnPops : List TreeArena → (arena cache : ℕ) → Result (Option Tag) Stopped
    → (old new : List OwnCacheState) → Type 0
OwnPops arenas arena cache (Ok o) old new =
    OnOwnOr arenas arena cache (λ c c'. PopOf c.cpu o c'.cpu) (o ≡ None) old new
OwnPops arenas arena cache (Err stop) old new = new ≡ old

abbrev pub OwnPushes : List TreeArena → (arena cache : ℕ) → Tag
    → Result (Unit {0}) (GivenFault Tag Tag) → (old new : List OwnCacheState) → Type 0
OwnPushes arenas arena cache t (Ok u) old new = OnOwn arenas arena cache (DoesPush t (Ok u)) old new
OwnPushes arenas arena cache t (Err (giving.Refused back)) old new =
    OnOwnOr arenas arena cache (DoesPush t (Err back)) (back ≡ t) old new
OwnPushes arenas arena cache t (Err (giving.Stopped back)) old new = new ≡ old

abbrev pub OwnChanges : List TreeArena → (arena cache size : ℕ)
    → Result (Unit {0}) (PartFault ChangeFault) → (old new : List OwnCacheState) → Type 0
OwnChanges arenas arena cache size (Ok u) old new =
    OnOwn arenas arena cache (DoesChange size (Ok u)) old new
OwnChanges arenas arena cache size (Err (asking.Refused f)) old new =
    OnOwnOr arenas arena cache (DoesChange size (Err f)) (f ≡ NotGreater) old new
OwnChanges arenas arena cache size (Err asking.Stopped) old new = new ≡ old

-- the three with a depot: that it has none, or isn't there, lies behind its lock
abbrev pub OwnSwapsFull : List TreeArena → (arena cache : ℕ)
    → Result (Unit {0}) (PartFault FullFault) → (old new : List OwnCacheState) → Type 0
OwnSwapsFull arenas arena cache (Ok u) old new =
    OnOwn arenas arena cache (WithDepot (λ c d. GivesFull c d (Ok u))) old new
OwnSwapsFull arenas arena cache (Err (asking.Refused (fulling.OldSize size))) old new =
    OnOwn arenas arena cache (WithDepot (λ c d. GivesFull c d (Err (fulling.OldSize size)))) old new
OwnSwapsFull arenas arena cache (Err (asking.Refused fulling.NoneFull)) old new = new ≡ old
OwnSwapsFull arenas arena cache (Err asking.Stopped) old new = new ≡ old

abbrev pub OwnSwapsEmpty : List TreeArena → (arena cache : ℕ)
    → Result (Unit {0}) (PartFault EmptyFault) → (old new : List OwnCacheState) → Type 0
OwnSwapsEmpty arenas arena cache (Ok u) old new =
    OnOwn arenas arena cache (WithDepot (λ c d. GivesEmpty c d (Ok u))) old new
OwnSwapsEmpty arenas arena cache (Err (asking.Refused (emptying.OldSize size))) old new = OnOwn
    arenas arena cache (WithDepot (λ c d. GivesEmpty c d (Err (emptying.OldSize size)))) old new
OwnSwapsEmpty arenas arena cache (Err (asking.Refused emptying.NoneEmpty)) old new = new ≡ old
OwnSwapsEmpty arenas arena cache (Err asking.Stopped) old new = new ≡ old

-- by an empty magazine of their size
abbrev pub TakesOwn : Result (Unit {0}) FreshFault → OwnCacheState → OwnCacheState → Type 0
TakesOwn r = WithDepot (λ c d. TakesFull (empty_magazine c.cpu.size) c d r)

abbrev pub OwnSwapsFresh : List TreeArena → (arena cache : ℕ)
    → Result (Unit {0}) (PartFault FreshFault) → (old new : List OwnCacheState) → Type 0
OwnSwapsFresh arenas arena cache (Ok u) old new = OnOwn arenas arena cache (TakesOwn (Ok u)) old new
OwnSwapsFresh arenas arena cache (Err (asking.Refused (freshing.OldSize size))) old new =
    OnOwn arenas arena cache (TakesOwn (Err (freshing.OldSize size))) old new
OwnSwapsFresh arenas arena cache (Err (asking.Refused freshing.NoMemory)) old new =
    OnOwn arenas arena cache (λ c c'. BothFull c.cpu × (c' ≡ c)) old new
OwnSwapsFresh arenas arena cache (Err (asking.Refused freshing.NotFull)) old new = new ≡ old
OwnSwapsFresh arenas arena cache (Err asking.Stopped) old new = new ≡ old

-- any event; those of shared parts alone leave the CPU's magazines as they were
abbrev pub OwnStep : List TreeArena → (e : Event) → AnswerTo e → (old new : List OwnCacheState)
    → Type 0
OwnStep arenas (Carve arena request) a old new = new ≡ old
OwnStep arenas (Free given) a old new = new ≡ old
OwnStep arenas (AddCarve child given size) a old new = new ≡ old
OwnStep arenas (SlabTake arena cache) a old new = new ≡ old
OwnStep arenas (SlabPut given) a old new = new ≡ old
OwnStep arenas (SlabAdd arena cache given) a old new = new ≡ old
OwnStep arenas (SlabReap arena cache) a old new = new ≡ old
OwnStep arenas (SwapFull arena cache) a old new = OwnSwapsFull arenas arena cache a old new
OwnStep arenas (SwapEmpty arena cache) a old new = OwnSwapsEmpty arenas arena cache a old new
OwnStep arenas (SwapFresh arena cache) a old new = OwnSwapsFresh arenas arena cache a old new
OwnStep arenas (DepotReap arena cache) a old new = new ≡ old
OwnStep arenas (Pop arena cache) a old new = OwnPops arenas arena cache a old new
OwnStep arenas (Push arena cache given) a old new = OwnPushes arenas arena cache given a old new
OwnStep arenas (Change arena cache size) a old new = OwnChanges arenas arena cache size a old new
