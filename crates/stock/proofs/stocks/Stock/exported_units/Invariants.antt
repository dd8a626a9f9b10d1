use Rattle.std.proofs.Common.{◌≡◌, take, sum_by}
use Rattle.deed_core.specs.Covering.{units_held}
use Rattle.stock.specs.Sums.{held_of}
use Rattle.stock.proofs.stocks.Stock.exported_units.Given as goal

abbrev pub invariant-loop-child : goal.invariant-loop-child
invariant-loop-child g l = l.units ≡ sum_by (λ x. units_held (held_of l.arena x.arena.imported)) (take l.child l.self)
