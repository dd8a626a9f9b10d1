use Rattle.std.proofs.Common.{arith}
use Rattle.sorted_rows.proofs.WeightLemmas.{top_left}
use Rattle.sorted_rows.proofs.tops.after_remove.Goals as goal

pub returns-then-weight-top-clause-told : goal.returns-then-weight-top-clause-told
returns-then-weight-top-clause-told g c = λ xs at told is lt stood new.
    rw new (top_left (g.T.RowEntry.weight c.args.measure) xs at c.args.entry c.args.top c.weight.result is c.weight.ensures lt stood (omega arith))
