-- What a depot under its lock answered to a CPU of its cache.
use Rattle.std.proofs.Common.{◌≡◌, Result, Ok, Err, refl, ap}
use Rattle.magazine_layer.specs.Magazines.{CpuCacheState, BothEmpty, BothFull}
use Rattle.magazine_layer.specs.Depots.{DepotState}
use Rattle.magazine_layer.specs.Calls.{SwapFullOf, SwapEmptyOf}
use Rattle.magazine_layer.specs.declared.faults.FullFault.{FullFault}
use Rattle.magazine_layer.specs.declared.faults.EmptyFault.{EmptyFault}
use Rattle.magazine_layer.specs.declared.faults.FullFault.TheVariants as fulling
use Rattle.magazine_layer.specs.declared.faults.EmptyFault.TheVariants as emptying
use Rattle.locked_parts.specs.Kinds.{OwnCacheState, KindDepotState}
use Rattle.locked_parts.specs.Swaps.{GivesFull, GivesEmpty}
use Rattle.locked_parts.specs.declared.kinds.CacheKind.{CacheKind}

abbrev own_of : CacheKind → CpuCacheState → OwnCacheState
own_of k c = record { kind = k; cpu = c }

abbrev depot_of : CacheKind → DepotState → KindDepotState
depot_of k d = record { kind = k; depot = d }

pub gives_full : (kc kd : CacheKind) (c c' : CpuCacheState) (d d' : DepotState) (r : Result (Unit {0}) FullFault) → kc ≡ kd → BothEmpty c → SwapFullOf c d r c' d' → GivesFull (own_of kc c) (depot_of kd d) r (own_of kc c') (depot_of kd d')
gives_full kc kd c c' d d' (Ok u) one empty of = (empty, record { one_cache = one; does = of; cpu_kind = refl; depot_kind = refl })
gives_full kc kd c c' d d' (Err (fulling.OldSize size)) one empty of = ((ap (own_of kc) of.2, ap (depot_of kd) of.3), one, empty, of.0, of.1)
gives_full kc kd c c' d d' (Err fulling.NoneFull) one empty of = ((ap (own_of kc) of.2, ap (depot_of kd) of.3), λ _ _. (of.0, of.1))

pub gives_empty : (kc kd : CacheKind) (c c' : CpuCacheState) (d d' : DepotState) (r : Result (Unit {0}) EmptyFault) → kc ≡ kd → BothFull c → SwapEmptyOf c d r c' d' → GivesEmpty (own_of kc c) (depot_of kd d) r (own_of kc c') (depot_of kd d')
gives_empty kc kd c c' d d' (Ok u) one full of = (full, record { one_cache = one; does = of; cpu_kind = refl; depot_kind = refl })
gives_empty kc kd c c' d d' (Err (emptying.OldSize size)) one full of = ((ap (own_of kc) of.2, ap (depot_of kd) of.3), one, full, of.0, of.1)
gives_empty kc kd c c' d d' (Err emptying.NoneEmpty) one full of = ((ap (own_of kc) of.2, ap (depot_of kd) of.3), λ _ _. (of.0, of.1))
