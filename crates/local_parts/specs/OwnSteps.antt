-- The events of the CPU's magazines: exchanges with a depot, and the three that are its own.
use Rattle.std.specs.Prelude.{◌≡◌, ℕ, ◌+◌, ◌<◌, ◌⊎◌, Option, None, Result, Ok, Err}
use Rattle.deed_core.specs.Tag.{Tag}
use Rattle.magazine_layer.specs.Magazines.{CpuCacheState, MagazineState, IsSize, BothEmpty}
use Rattle.magazine_layer.specs.Magazines.{BothFull, empty_magazine, after_change}
use Rattle.magazine_layer.specs.Depots.{DepotState}
use Rattle.magazine_layer.specs.Calls.{PopOf, PushOf, SwapFullOf, SwapEmptyOf, PutFullOf}
use Rattle.magazine_layer.specs.declared.faults.FullFault.{FullFault}
use Rattle.magazine_layer.specs.declared.faults.EmptyFault.{EmptyFault}
use Rattle.magazine_layer.specs.declared.faults.PutFullFault.{PutFullFault}
use Rattle.arena_tree.specs.declared.part_faults.PartFault.{PartFault}
use Rattle.arena_tree.specs.declared.part_faults.GivenFault.{GivenFault}
use Rattle.arena_tree.specs.declared.part_faults.FreshFault.{FreshFault}
use Rattle.arena_tree.specs.declared.part_faults.ChangeFault.{ChangeFault}
use Rattle.arena_tree.specs.declared.part_faults.PartFault.TheVariants as asking
use Rattle.arena_tree.specs.declared.part_faults.GivenFault.TheVariants as giving
use Rattle.magazine_layer.specs.declared.faults.FullFault.TheVariants.{NoneFull}
use Rattle.magazine_layer.specs.declared.faults.EmptyFault.TheVariants.{NoneEmpty}
use Rattle.magazine_layer.specs.declared.faults.PutFullFault.TheVariants as fresh_fault
use Rattle.arena_tree.specs.declared.part_faults.FreshFault.TheVariants as freshing
use Rattle.arena_tree.specs.declared.part_faults.ChangeFault.TheVariants as changing
use Rattle.arena_tree.specs.declared.part_faults.Stopped.{Stopped}
use Rattle.stock.specs.Stocks.{IsRoundOf}
use Rattle.stock.specs.OwnCaches.{OwnCacheState, IsAtIndexesOf}
use Rattle.stock.specs.Steps.{OnDepot}
use Rattle.local_parts.specs.Cpus.{OnOwn}
use Rattle.arena_tree.specs.Tags.{wording_of}
use Rattle.local_parts.specs.States.{LocalState, IsReached, HasReached, IsUnchanged}

-- the CPU's cache that serves the arena's cache of c quanta changed so, and nothing else did
abbrev pub OnReached : LocalState → ℕ → ℕ → (CpuCacheState → CpuCacheState → Type 0) → LocalState
    → Type 0
OnReached old k c P new = (new.spaces ≡ old.spaces) × ((j : ℕ) × (c ≡ j + 1) × HasReached old k j
    × OnOwn k j (λ o o'. IsAtIndexesOf o o' × P o.cpu o'.cpu) old.cpu new.cpu)

-- it and the depot of that cache did
abbrev pub OnExchange : LocalState → ℕ → ℕ
    → (CpuCacheState → DepotState → CpuCacheState → DepotState → Type 0) → LocalState → Type 0
OnExchange old k c P new = (j : ℕ) × (c ≡ j + 1) × HasReached old k j
    × OnOwn k j (λ o o'. IsAtIndexesOf o o'
    × OnDepot k j (λ d d'. P o.cpu d o'.cpu d') old.spaces new.spaces) old.cpu new.cpu

-- the CPU has no cache that serves it and is so
abbrev pub NoneReached : LocalState → ℕ → ℕ → (OwnCacheState → Type 0) → Type 0
NoneReached s k c P = (j : ℕ) (o : OwnCacheState) → c ≡ j + 1 → IsReached s k j o → ¬ P o

-- the CPU's cache that serves it is so
abbrev pub OneReached : LocalState → ℕ → ℕ → (OwnCacheState → Type 0) → Type 0
OneReached s k c P = (j : ℕ) × (c ≡ j + 1) × ((o : OwnCacheState) × IsReached s k j o × P o)

-- a round was taken; none where both magazines are empty, or no cache serves it
abbrev pub DoesPop : LocalState → ℕ → ℕ → Result (Option Tag) Stopped → LocalState → Type 0
DoesPop old k c a new = (o : Option Tag) × (a ≡ Ok o) × (OnReached old k c (λ x y. PopOf x o y) new
    ⊎ ((o ≡ None) × NoneReached old k c (λ o. Unit {0}) × IsUnchanged old new))

-- the segment is a chunk of the cache, and the magazines have room for it
pub record CanPush (t : Tag) (k c : ℕ) (o : OwnCacheState) : Type 0 where
  pub chunk : IsRoundOf k c o.quantum t
  pub room : ¬ BothFull o.cpu

-- a chunk of the cache was kept; it is back where there is no room, where it is no chunk of the
-- cache, or no cache serves it
abbrev pub DoesPush : LocalState → ℕ → ℕ → Tag → Result (Unit {0}) (GivenFault Tag Tag)
    → LocalState → Type 0
DoesPush old k c t a new = ((a ≡ Ok tt) × OneReached old k c (λ o. IsRoundOf k c o.quantum t)
    × OnReached old k c (λ x y. PushOf x t (Ok tt) y) new)
    ⊎ ((a ≡ Err (giving.Refused t)) × NoneReached old k c (CanPush t k c) × IsUnchanged old new)

-- the size is one of a magazine, and greater than the CPU's
pub record CanChange (size : ℕ) (o : OwnCacheState) : Type 0 where
  pub sized : IsSize size
  pub greater : o.cpu.size < size

-- it changed over to two magazines of this size
pub record ChangesTo (size : ℕ) (x y : CpuCacheState) : Type 0 where
  pub sized : IsSize size
  pub greater : x.size < size
  pub after : y ≡ after_change size x

-- the CPU changed over; it is refused where the size isn't greater or none of a magazine, or no
-- cache serves it; else it is out of memory
abbrev pub DoesChange : LocalState → ℕ → ℕ → ℕ → Result (Unit {0}) (PartFault ChangeFault)
    → LocalState → Type 0
DoesChange old k c size a new = ((a ≡ Ok tt) × OnReached old k c (ChangesTo size) new)
    ⊎ ((a ≡ Err (asking.Refused changing.NoMemory)) × OneReached old k c (CanChange size)
    × IsUnchanged old new)
    ⊎ ((a ≡ Err (asking.Refused changing.NotGreater)) × NoneReached old k c (CanChange size)
    × IsUnchanged old new)

-- both magazines being empty, a full one came for one of them, or was refused
pub record SwapsFull (a : Result (Unit {0}) (PartFault FullFault)) (x : CpuCacheState)
    (d : DepotState) (y : CpuCacheState) (e : DepotState) : Type 0 where
  pub empty : BothEmpty x
  pub r : Result (Unit {0}) FullFault
  pub did : SwapFullOf x d r y e
  pub told : a ≡ wording_of asking.Refused r

-- both being full, an empty one came for one of them, or was refused
pub record SwapsEmpty (a : Result (Unit {0}) (PartFault EmptyFault)) (x : CpuCacheState)
    (d : DepotState) (y : CpuCacheState) (e : DepotState) : Type 0 where
  pub full : BothFull x
  pub r : Result (Unit {0}) EmptyFault
  pub did : SwapEmptyOf x d r y e
  pub told : a ≡ wording_of asking.Refused r

-- the magazine that comes back with a refusal is ended
abbrev pub fresh_word : PutFullFault MagazineState → PartFault FreshFault
fresh_word (fresh_fault.OldSize size back) = asking.Refused (freshing.OldSize size)
fresh_word (fresh_fault.NoMemory back) = asking.Refused freshing.NoMemory

-- both being full, a fresh one of the CPU's size came for one of them, or was refused
pub record SwapsFresh (a : Result (Unit {0}) (PartFault FreshFault)) (x : CpuCacheState)
    (d : DepotState) (y : CpuCacheState) (e : DepotState) : Type 0 where
  pub full : BothFull x
  pub r : Result (Unit {0}) (PutFullFault MagazineState)
  pub did : PutFullOf x d (empty_magazine x.size) r y e
  pub told : a ≡ wording_of fresh_word r

-- NoneFull comes too where the CPU's magazines aren't both empty, or no cache serves it
abbrev pub DoesSwapFull : LocalState → ℕ → ℕ → Result (Unit {0}) (PartFault FullFault)
    → LocalState → Type 0
DoesSwapFull old k c a new = OnExchange old k c (SwapsFull a) new
    ⊎ ((a ≡ Err (asking.Refused NoneFull)) × NoneReached old k c (λ o. BothEmpty o.cpu)
    × IsUnchanged old new)

-- NoneEmpty comes too where the CPU's magazines aren't both full, or no cache serves it
abbrev pub DoesSwapEmpty : LocalState → ℕ → ℕ → Result (Unit {0}) (PartFault EmptyFault)
    → LocalState → Type 0
DoesSwapEmpty old k c a new = OnExchange old k c (SwapsEmpty a) new
    ⊎ ((a ≡ Err (asking.Refused NoneEmpty)) × NoneReached old k c (λ o. BothFull o.cpu)
    × IsUnchanged old new)

-- NotFull comes where the CPU's magazines aren't both full, or no cache serves it; NoMemory comes
-- too where no magazine can be made
abbrev pub DoesSwapFresh : LocalState → ℕ → ℕ → Result (Unit {0}) (PartFault FreshFault)
    → LocalState → Type 0
DoesSwapFresh old k c a new = OnExchange old k c (SwapsFresh a) new
    ⊎ ((a ≡ Err (asking.Refused freshing.NoMemory)) × OneReached old k c (λ o. BothFull o.cpu)
    × IsUnchanged old new)
    ⊎ ((a ≡ Err (asking.Refused freshing.NotFull)) × NoneReached old k c (λ o. BothFull o.cpu)
    × IsUnchanged old new)
