use Rattle.std.proofs.Common.{◌≡◌, ◌-◌, ◌^◌, min, take}
use Rattle.deed_core.specs.Covering.{units_tagged}
use Rattle.magazine_layer.specs.Depots.{all_rounds}
use Rattle.magazine_layer.proofs.full_magazines.units_of_all.Given as goal

abbrev pub invariant-loop-i : goal.invariant-loop-i
invariant-loop-i g l = l.total ≡ min (units_tagged (all_rounds (take l.i l.magazines.items))) (2 ^ 128 - 1)
