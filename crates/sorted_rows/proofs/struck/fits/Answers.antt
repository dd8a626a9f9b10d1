use Rattle.std.proofs.Common.{refl}
use Rattle.sorted_rows.proofs.StruckLemmas.{fits_place}
use Rattle.sorted_rows.proofs.struck.fits.Goals as goal

pub returns-then-belongs : goal.returns-then-belongs
returns-then-belongs g c = λ so.
    let e = c.row.ensures in
    fits_place g.T.RowEntry.rank c.args.key c.args.rows.now.items c.args.struck c.row.result.now c.requires.laid c.requires.spot e (c.if-belongs.ensures.seat refl) (c.is_between.ensures.above so) (c.is_between.ensures.below so)
