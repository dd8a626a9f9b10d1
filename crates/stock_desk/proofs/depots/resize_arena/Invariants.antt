use Rattle.stock_desk.proofs.DepotRows.{RowResized}
use Rattle.stock_desk.proofs.depots.resize_arena.Given as goal

abbrev pub invariant-loop-cache : goal.invariant-loop-cache
invariant-loop-cache l = RowResized l.rounds l.arena l.cache l.rose l.fn.stock l.stock
