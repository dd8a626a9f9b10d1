use Rattle.std.proofs.Common.{ap, subst}
use Rattle.sorted_rows.specs.Order.{Rises}
use Rattle.sorted_rows.proofs.StruckLemmas.{left_rises}
use Rattle.sorted_rows.proofs.rows.Rows.len.Goals as goal

pub returns-clause-order : goal.returns-clause-order
returns-clause-order g c = subst (Rises g.T.RowEntry.rank) (ap (λ v. v.items) c.self.view_is) (left_rises g.T.RowEntry.rank c.self.inside.rows.items c.self.inside.struck c.self.invariant.laid c.self.invariant.spot)
