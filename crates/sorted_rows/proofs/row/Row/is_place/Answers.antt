use Rattle.std.proofs.Common.{length, ap, arith, rules}
use Rattle.sorted_rows.proofs.PlaceLemmas.{is_place}
use Rattle.sorted_rows.proofs.row.Row.is_place.Goals as goal

pub returns : goal.returns
returns g c = λ up_to.
    let size = ap length c.self.view_is in
    is_place g.T.RowEntry.rank c.args.key c.args.self.now c.args.place c.requires (omega (arith, size, c.if-place-len.false, c.len.ensures)) (c.if-not-is_above.ensures (search rules)) (c.is_up_to.ensures up_to)
