use Rattle.std.proofs.Common.{[], sym, subst}
use Rattle.sorted_rows.specs.Order.{Rises}
use Rattle.sorted_rows.proofs.RowLemmas.{rises_at}
use Rattle.sorted_rows.proofs.heavy.least_weighing.Goals as goal

pub below_near-at-requires : goal.below_near-at-requires
below_near-at-requires g c = subst (Rises g.T.RowEntry.rank) (sym c.row-row.ensures) (rises_at g.T.RowEntry.rank c.args.rows.now.items c.seat_near-seat.result [] c.seat_near-seat.ensures.within c.requires.laid.rises)
