use Rattle.std.proofs.Common.{[], sym, subst}
use Rattle.sorted_rows.specs.Order.{Rises, IsRankAt}
use Rattle.sorted_rows.proofs.RowLemmas.{rises_at}
use Rattle.sorted_rows.proofs.seats.spot_near.Goals as goal

pub below_near-place-requires : goal.below_near-place-requires
below_near-place-requires g c = subst (Rises g.T.RowEntry.rank) (sym c.row-row.ensures) (rises_at g.T.RowEntry.rank c.args.rows.now.items c.seat_near-seat.result [] c.seat_near-seat.ensures.within c.requires.laid.rises)

pub returns-clause-place : goal.returns-clause-place
returns-clause-place g c =
    let e = c.row-row.ensures in
    subst (λ r. IsRankAt g.T.RowEntry.rank c.args.key r c.below_near-place.result) e c.below_near-place.ensures
