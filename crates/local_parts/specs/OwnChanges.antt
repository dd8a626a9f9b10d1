-- What one of a CPU's caches did, by itself or with its depot.
use Rattle.std.specs.Prelude.{◌≡◌, ℕ, [], ◌+◌, ◌⊎◌, Option, Result, Ok, Err, IfSome, List}
use Rattle.deed_core.specs.Tag.{Tag}
use Rattle.deed_core.specs.Weights.{Gains, Loses, WeighSame}
use Rattle.magazine_layer.specs.Magazines.{CpuCacheState, MagazineState, BothEmpty, BothFull}
use Rattle.magazine_layer.specs.Depots.{DepotState}
use Rattle.magazine_layer.specs.Calls.{PopOf, PushOf}
use Rattle.magazine_layer.specs.declared.faults.PutFullFault.{PutFullFault}
use Rattle.magazine_layer.specs.declared.faults.PutFullFault.TheVariants as fresh_fault
use Rattle.arena_tree.specs.declared.part_faults.PartFault.{PartFault}
use Rattle.arena_tree.specs.declared.part_faults.FreshFault.{FreshFault}
use Rattle.arena_tree.specs.declared.part_faults.ChangeFault.{ChangeFault}
use Rattle.magazine_layer.specs.declared.faults.FullFault.{FullFault}
use Rattle.magazine_layer.specs.declared.faults.EmptyFault.{EmptyFault}
use Rattle.arena_tree.specs.declared.part_faults.PartFault.TheVariants as asking
use Rattle.arena_tree.specs.declared.part_faults.ChangeFault.TheVariants.{NotGreater, NoMemory}
use Rattle.magazine_layer.specs.declared.faults.FullFault.TheVariants.{NoneFull}
use Rattle.magazine_layer.specs.declared.faults.EmptyFault.TheVariants.{NoneEmpty}
use Rattle.arena_tree.specs.declared.part_faults.FreshFault.TheVariants as freshing
use Rattle.stock.specs.Spaces.{SpaceState, plans_of}
use Rattle.stock.specs.Stocks.{IsRoundOf, IsStock}
use Rattle.stock.specs.Accounts.{Frames}
use Rattle.stock.specs.OwnCaches.{OwnCacheState, IsAtIndexesOf, own_rounds}
use Rattle.stock.specs.Steps.{OnDepot}
use Rattle.local_parts.specs.OwnSteps.{CanPush, CanChange, ChangesTo, SwapsFull, SwapsEmpty}
use Rattle.local_parts.specs.OwnSteps.{SwapsFresh}

-- it gave a round, or had none
pub record OwnPops (r : Option Tag) (o o' : OwnCacheState) : Type 0 where
  pub index : IsAtIndexesOf o o'
  pub popped : PopOf o.cpu r o'.cpu
  pub weights : IfSome r (Loses (own_rounds o) (own_rounds o'))
  pub chunk : IfSome r (IsRoundOf o.arena (o.cache + 1) o.quantum)

-- it kept the segment
pub record OwnKeeps (t : Tag) (o o' : OwnCacheState) : Type 0 where
  pub index : IsAtIndexesOf o o'
  pub pushed : PushOf o.cpu t (Ok tt) o'.cpu
  pub chunk : IsRoundOf o.arena (o.cache + 1) o.quantum t
  pub weights : Gains (own_rounds o) (own_rounds o') t

-- or didn't
abbrev pub OwnPushes : Tag → Result (Unit {0}) Tag → OwnCacheState → OwnCacheState → Type 0
OwnPushes t (Ok _) o o' = OwnKeeps t o o'
OwnPushes t (Err same) o o' = (same ≡ t) × (o' ≡ o) × (¬ CanPush t o.arena (o.cache + 1) o)

-- it changed over
pub record OwnGrows (size : ℕ) (o o' : OwnCacheState) : Type 0 where
  pub index : IsAtIndexesOf o o'
  pub changed : ChangesTo size o.cpu o'.cpu
  pub weights : WeighSame (own_rounds o) (own_rounds o')

-- or didn't
abbrev pub OwnChanges : ℕ → Result (Unit {0}) ChangeFault → OwnCacheState → OwnCacheState → Type 0
OwnChanges size (Ok _) o o' = OwnGrows size o o'
OwnChanges size (Err NoMemory) o o' = (o' ≡ o) × CanChange size o
OwnChanges size (Err NotGreater) o o' = (o' ≡ o) × (¬ CanChange size o)

-- it exchanged a magazine with the depot of the stock's cache at that index, or was refused there
pub record OwnExchanges (k j : ℕ)
    (P : CpuCacheState → DepotState → CpuCacheState → DepotState → Type 0)
    (old new : List SpaceState) (o o' : OwnCacheState) : Type 0 where
  pub index : IsAtIndexesOf o o'
  pub swapped : OnDepot k j (λ d d'. P o.cpu d o'.cpu d') old new
  pub frame : Frames old (own_rounds o) new (own_rounds o')
  pub fixed : plans_of new ≡ plans_of old
  pub stock : IsStock new

-- or nothing changed, for the reason that is said
abbrev pub OwnTries : (OwnCacheState → Type 0)
    → (CpuCacheState → DepotState → CpuCacheState → DepotState → Type 0)
    → List SpaceState → List SpaceState → OwnCacheState → OwnCacheState → Type 0
OwnTries why P old new o o' = OwnExchanges o.arena o.cache P old new o o'
    ⊎ (why o × (o' ≡ o) × (new ≡ old))

-- of the three exchanges
abbrev pub OwnSwapsFull : Result (Unit {0}) (PartFault FullFault) → List SpaceState
    → List SpaceState → OwnCacheState → OwnCacheState → Type 0
OwnSwapsFull a =
    OwnTries (λ o. (a ≡ Err (asking.Refused NoneFull)) × (¬ BothEmpty o.cpu)) (SwapsFull a)

abbrev pub OwnSwapsEmpty : Result (Unit {0}) (PartFault EmptyFault) → List SpaceState
    → List SpaceState → OwnCacheState → OwnCacheState → Type 0
OwnSwapsEmpty a =
    OwnTries (λ o. (a ≡ Err (asking.Refused NoneEmpty)) × (¬ BothFull o.cpu)) (SwapsEmpty a)

abbrev pub OwnSwapsFresh : Result (Unit {0}) (PartFault FreshFault) → List SpaceState
    → List SpaceState → OwnCacheState → OwnCacheState → Type 0
OwnSwapsFresh a = OwnTries (λ o. ((a ≡ Err (asking.Refused freshing.NoMemory)) × BothFull o.cpu)
    ⊎ ((a ≡ Err (asking.Refused freshing.NotFull)) × (¬ BothFull o.cpu))) (SwapsFresh a)

-- the magazine that comes back with a refusal is empty
abbrev pub EndsEmpty : Result (Unit {0}) (PutFullFault MagazineState) → Type 0
EndsEmpty (Ok _) = Unit {0}
EndsEmpty (Err (fresh_fault.OldSize size back)) = back.rounds ≡ []
EndsEmpty (Err (fresh_fault.NoMemory back)) = back.rounds ≡ []
