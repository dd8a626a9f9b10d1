use Rattle.std.proofs.Common.{arith}
use Rattle.sorted_rows.proofs.WeightLemmas.{top_put_high, top_put_same}
use Rattle.sorted_rows.proofs.tops.after_set.Goals as goal

pub returns-then-weight-top-clause-told : goal.returns-then-weight-top-clause-told
returns-then-weight-top-clause-told g c = λ xs at told is lt stood new.
    rw new (top_put_high (g.T.RowEntry.weight c.args.measure) xs at c.args.entry c.args.top c.weight-weight.result is c.weight-weight.ensures (omega arith) lt)

pub returns-then-weight-top-2-clause-told : goal.returns-then-weight-top-2-clause-told
returns-then-weight-top-2-clause-told g c = λ xs at told is lt stood new.
    rw new (top_put_same (g.T.RowEntry.weight c.args.measure) xs at c.args.entry c.args.old c.args.top c.weight-weight.result c.weight.result is c.weight-weight.ensures (omega arith) c.weight.ensures stood (omega arith) lt)
