use Rattle.std.proofs.Common.{[], sym, subst, arith}
use Rattle.sorted_rows.specs.Order.{Rises}
use Rattle.sorted_rows.proofs.RowLemmas.{rises_at}
use Rattle.sorted_rows.proofs.LastLemmas.{last_here, last_none}
use Rattle.sorted_rows.proofs.seats.greatest_to.Goals as goal

pub up_to-upper-requires : goal.up_to-upper-requires
up_to-upper-requires g c = subst (Rises g.T.RowEntry.rank) (sym c.row-row.ensures) (rises_at g.T.RowEntry.rank c.args.rows.now.items c.seat_near-seat.result [] c.seat_near-seat.ensures.within c.requires.laid.rises)

pub returns-then-upper-eq0 : goal.returns-then-upper-eq0
returns-then-upper-eq0 g c =
    let e = c.row-row.ensures in
    last_none g.T.RowEntry.rank c.args.key c.args.rows.now.items c.seat_near-seat.result c.up_to-upper.result c.row-row.result.now c.requires.laid c.seat_near-seat.ensures.within e c.seat_near-seat.ensures.seat c.up_to-upper.ensures (omega arith) (λ d h. rw e (c.seat_near-seat.ensures.first d h))

pub returns : goal.returns
returns g c =
    let e = c.row-row.ensures in
    last_here g.T.RowEntry.rank c.args.key c.args.rows.now.items c.seat_near-seat.result c.up_to-upper.result c.row-row.result.now c.get.result c.seat_near-seat.ensures.within e c.seat_near-seat.ensures.seat c.up_to-upper.ensures (omega arith) c.get.ensures
