use Rattle.std.proofs.Common.{◌≡◌}
use Rattle.magazine_layer.specs.Depots.{after_tick}
use Rattle.lease_machine.specs.Operators.{with_depots_by}
use Rattle.stock_desk.proofs.FirstChanged.{first_changed}
use Rattle.stock_desk.proofs.depots.tick.Given as goal

abbrev pub invariant-loop-arena : goal.invariant-loop-arena
invariant-loop-arena l = l.stock ≡ first_changed (with_depots_by after_tick) l.arena l.fn.stock
