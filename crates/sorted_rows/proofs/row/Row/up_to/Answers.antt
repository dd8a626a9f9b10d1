use Rattle.std.proofs.Common.{arith}
use Rattle.sorted_rows.proofs.LastLemmas.{up_past}
use Rattle.sorted_rows.proofs.row.Row.up_to.Goals as goal

pub returns-then-key : goal.returns-then-key
returns-then-key g c = up_past g.T.RowEntry.rank c.args.key c.args.self.now c.below_near-at.result c.get.result c.requires c.below_near-at.ensures (omega arith) c.get.ensures (omega (arith, c.key.ensures, c.if-key.true))
