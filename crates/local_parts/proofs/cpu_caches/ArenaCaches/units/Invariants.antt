use Rattle.std.proofs.Common.{◌≡◌, ◌-◌, ◌^◌, min, take}
use Rattle.deed_core.specs.Covering.{units_tagged}
use Rattle.stock.specs.OwnCaches.{all_own_rounds}
use Rattle.local_parts.proofs.cpu_caches.ArenaCaches.units.Given as goal

abbrev pub invariant-loop-own : goal.invariant-loop-own
invariant-loop-own g l = l.total ≡ min (units_tagged (all_own_rounds (take l.own-index l.own-items))) (2 ^ 128 - 1)
