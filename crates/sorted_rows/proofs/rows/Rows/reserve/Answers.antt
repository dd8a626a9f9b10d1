use Rattle.std.proofs.Common.{arith}
use Rattle.sorted_rows.proofs.StockLemmas.{more_room}
use Rattle.sorted_rows.proofs.rows.Rows.reserve.Goals as goal
use Rattle.sorted_rows.proofs.rows.Rows.reserve.Goals.{then-rows-spare+else-is_err+else-is_err-2+else-loop-test, else-rows-spare}

pub invariant_of-self-2 : goal.invariant_of-self-2
invariant_of-self-2 g c = elim c.if-rows-spare.branch [
  | then-rows-spare+else-is_err+else-is_err-2+else-loop-test w ↦ rw w.self-inside-is (more_room g.T.RowEntry.rank _ _ _ _ _ c.args.room (omega arith) w.loop.invariant.stocked (omega (arith, w.loop.invariant.same, w.loop.invariant.count, c.div_ceil-wanted.ensures)))
  | else-rows-spare w ↦ rw w.self-inside-is (more_room g.T.RowEntry.rank _ _ _ _ _ c.args.room (omega arith) c.self.invariant (omega (arith, c.div_ceil-wanted.ensures, c.len-rows.ensures, c.len-spare.ensures)))
]
