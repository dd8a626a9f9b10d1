use Rattle.std.proofs.Common.{◌≡◌, All}
use Rattle.deed_core.specs.Covering.{units_in}
use Rattle.magazine_layer.specs.Magazines.{cache_rounds}
use Rattle.cross_tests.proofs.magazines.alike_rounds.Given as goal

abbrev pub invariant-loop-at : goal.invariant-loop-at
invariant-loop-at g l = All (λ t. units_in t.holding ≡ 4) (cache_rounds l.cpu)
