use Rattle.sorted_rows.proofs.RowLemmas.{is_seat}
use Rattle.sorted_rows.proofs.seats.seat_of.Goals as goal

pub returns-clause-seat : goal.returns-clause-seat
returns-clause-seat g c =
    let count = c.count_up_to.ensures in
    is_seat g.T.RowEntry.rank _ _ c.count_up_to.result _ c.requires.laid count.within c.saturating_sub.ensures count.before count.after
