use Rattle.std.proofs.Common.{ap, arith}
use Rattle.sorted_rows.proofs.RowLemmas.{count_rows}
use Rattle.sorted_rows.proofs.rows.Rows.insert.Goals as goal

pub put_over-requires-clause-some : goal.put_over-requires-clause-some
put_over-requires-clause-some g c =
    let m = ap (λ v. v.room) c.self.view_is in
    let few = count_rows c.self.inside.rows.items c.self.invariant.laid.paired in
    omega (arith, m, few, c.self.invariant.within, c.self.invariant.enough, c.requires.room)
