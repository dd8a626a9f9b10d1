use Rattle.magazine_layer.specs.Depots.{after_tick}
use Rattle.stock_desk.proofs.DepotRows.{RowChanged}
use Rattle.stock_desk.proofs.depots.tick_arena.Given as goal

abbrev pub invariant-loop-cache : goal.invariant-loop-cache
invariant-loop-cache l = RowChanged after_tick l.arena l.cache l.fn.stock l.stock
