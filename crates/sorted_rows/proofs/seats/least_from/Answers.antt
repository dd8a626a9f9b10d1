use Rattle.std.proofs.Common.{◌+◌, [], sym, subst, arith}
use Rattle.sorted_rows.specs.Order.{Rises}
use Rattle.sorted_rows.proofs.RowLemmas.{rises_at, least_here, least_next, least_none}
use Rattle.sorted_rows.proofs.seats.least_from.Goals as goal

pub below_near-at-requires : goal.below_near-at-requires
below_near-at-requires g c = subst (Rises g.T.RowEntry.rank) (sym c.row-row.ensures) (rises_at g.T.RowEntry.rank c.args.rows.now.items c.seat_near-seat.result [] c.seat_near-seat.ensures.within c.requires.laid.rises)

pub returns-then-at-len : goal.returns-then-at-len
returns-then-at-len g c =
    let e = c.row-row.ensures in
    least_here g.T.RowEntry.rank c.args.key c.args.rows.now.items c.seat_near-seat.result c.below_near-at.result _ _ c.seat_near-seat.ensures.within e c.seat_near-seat.ensures.seat c.below_near-at.ensures (omega arith) c.get.ensures

pub returns-then-len-seat-gt1 : goal.returns-then-len-seat-gt1
returns-then-len-seat-gt1 g c =
    let e = c.row-row.ensures in
    let s = c.row-next.ensures in
    least_next g.T.RowEntry.rank c.args.key c.args.rows.now.items c.seat_near-seat.result c.below_near-at.result (c.seat_near-seat.result + 1) _ _ _ c.requires.laid c.seat_near-seat.ensures.within e c.seat_near-seat.ensures.seat c.below_near-at.ensures (omega arith) (omega arith) (omega arith) s c.get-then-len-seat-gt1.ensures

pub returns-else-len-seat-gt1 : goal.returns-else-len-seat-gt1
returns-else-len-seat-gt1 g c =
    let e = c.row-row.ensures in
    least_none g.T.RowEntry.rank c.args.key c.args.rows.now.items c.seat_near-seat.result c.below_near-at.result _ c.requires.laid c.seat_near-seat.ensures.within e c.seat_near-seat.ensures.seat c.below_near-at.ensures (omega arith) (omega arith)
