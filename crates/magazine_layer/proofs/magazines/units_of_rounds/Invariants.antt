use Rattle.std.proofs.Common.{◌≡◌, ◌*◌, ◌^◌, ◌≤◌, take}
use Rattle.deed_core.specs.Covering.{units_tagged}
use Rattle.magazine_layer.proofs.magazines.units_of_rounds.Given as goal

abbrev pub invariant-loop-round : goal.invariant-loop-round
invariant-loop-round g l = (l.total ≡ units_tagged (take l.round-index l.rounds)) × (l.total ≤ l.round-index * 2 ^ 62)
