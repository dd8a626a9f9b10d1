use Rattle.std.proofs.Common.{◌<◌, ap, arith, length}
use Rattle.sorted_rows.specs.Order.{FirstIs}
use Rattle.sorted_rows.specs.Tops.{IsTop}
use Rattle.sorted_rows.proofs.HeadLemmas.{heads_remove}
use Rattle.sorted_rows.proofs.headed.HeadedRows.take.Goals as goal

pub invariant_of-self : goal.invariant_of-self
invariant_of-self g c =
    let rows = c.self.inside.rows.items in
    let within : c.args.seat < length rows = omega (arith, c.requires, ap (λ v. length v.items) c.self.view_is) in
    rw (c.remove.ensures.items, c.remove-2.ensures.items, c.remove-3.ensures.items) (heads_remove (FirstIs g.T.RowEntry.rank) c.self.inside.firsts.items rows c.args.seat c.self.invariant.0 within, heads_remove (IsTop (g.T.RowEntry.weight c.self.inside.measure)) c.self.inside.tops.items rows c.args.seat c.self.invariant.1 within)
