-- What an exchange of a CPU's magazines with a depot under its lock comes to. A depot of another
-- cache has nothing for the CPU.
use Rattle.std.specs.Prelude.{◌≡◌, ◌≢◌, ◌⊎◌, [], Result, Ok, Err}
use Rattle.magazine_layer.specs.Magazines.{CpuCacheState, MagazineState, BothEmpty, BothFull}
use Rattle.magazine_layer.specs.Depots.{DepotState, SwapsForFull, SwapsForEmpty, PutsFull}
use Rattle.arena_tree.specs.declared.part_faults.FreshFault.{FreshFault}
use Rattle.magazine_layer.specs.declared.faults.FullFault.{FullFault}
use Rattle.magazine_layer.specs.declared.faults.EmptyFault.{EmptyFault}
use Rattle.arena_tree.specs.declared.part_faults.FreshFault.TheVariants as freshing
use Rattle.magazine_layer.specs.declared.faults.FullFault.TheVariants as fulling
use Rattle.magazine_layer.specs.declared.faults.EmptyFault.TheVariants as emptying
use Rattle.locked_parts.specs.Kinds.{OwnCacheState, KindDepotState}

-- both are of one cache, stay so, and changed so
pub record Exchanges (P : CpuCacheState → DepotState → CpuCacheState → DepotState → Type 0)
    (c : OwnCacheState) (d : KindDepotState) (c' : OwnCacheState) (d' : KindDepotState)
    : Type 0 where
  pub one_cache : c.kind ≡ d.kind
  pub does : P c.cpu d.depot c'.cpu d'.depot
  pub cpu_kind : c'.kind ≡ c.kind
  pub depot_kind : d'.kind ≡ d.kind

-- neither changed
abbrev pub NoExchange : OwnCacheState → KindDepotState → OwnCacheState → KindDepotState → Type 0
NoExchange c d c' d' = (c' ≡ c) × (d' ≡ d)

-- a CPU whose magazines are both empty gets a full one
abbrev pub GivesFull : OwnCacheState → KindDepotState → Result (Unit {0}) FullFault →
    OwnCacheState → KindDepotState → Type 0
GivesFull c d (Ok _) c' d' = BothEmpty c.cpu × Exchanges SwapsForFull c d c' d'
GivesFull c d (Err (fulling.OldSize size)) c' d' = NoExchange c d c' d' × (c.kind ≡ d.kind)
    × BothEmpty c.cpu × (c.cpu.size ≢ d.depot.size) × (size ≡ d.depot.size)
GivesFull c d (Err fulling.NoneFull) c' d' = NoExchange c d c' d'
    × (c.kind ≡ d.kind → BothEmpty c.cpu → (c.cpu.size ≡ d.depot.size) × (d.depot.full ≡ []))

-- a CPU whose magazines are both full gets an empty one
abbrev pub GivesEmpty : OwnCacheState → KindDepotState → Result (Unit {0}) EmptyFault →
    OwnCacheState → KindDepotState → Type 0
GivesEmpty c d (Ok _) c' d' = BothFull c.cpu × Exchanges SwapsForEmpty c d c' d'
GivesEmpty c d (Err (emptying.OldSize size)) c' d' = NoExchange c d c' d' × (c.kind ≡ d.kind)
    × BothFull c.cpu × (c.cpu.size ≢ d.depot.size) × (size ≡ d.depot.size)
GivesEmpty c d (Err emptying.NoneEmpty) c' d' = NoExchange c d c' d'
    × (c.kind ≡ d.kind → BothFull c.cpu → (c.cpu.size ≡ d.depot.size) × (d.depot.empty ≡ 0))

-- the same by the magazine m in place of one that the depot has; out of memory comes last
abbrev pub TakesFull : MagazineState → OwnCacheState → KindDepotState →
    Result (Unit {0}) FreshFault → OwnCacheState → KindDepotState → Type 0
TakesFull m c d (Ok _) c' d' = BothFull c.cpu × Exchanges (PutsFull m) c d c' d'
TakesFull m c d (Err (freshing.OldSize size)) c' d' = NoExchange c d c' d' × (c.kind ≡ d.kind)
    × BothFull c.cpu × ((c.cpu.size ≢ d.depot.size) ⊎ (m.size ≢ d.depot.size))
    × (size ≡ d.depot.size)
TakesFull m c d (Err freshing.NotFull) c' d' = NoExchange c d c' d'
    × (c.kind ≡ d.kind → ¬ BothFull c.cpu)
TakesFull m c d (Err freshing.NoMemory) c' d' = NoExchange c d c' d' × (c.kind ≡ d.kind)
    × BothFull c.cpu × (c.cpu.size ≡ d.depot.size) × (m.size ≡ d.depot.size)
