use Rattle.std.proofs.Common.{◌∙◌, sym, arith}
use Rattle.lease_watch.proofs.RowLemmas.{not_true, put_beyond}
use Rattle.lease_watch.proofs.queries.ListQuery.is_beyond.Goals as goal

pub returns : goal.returns
returns c = λ yes up.
    put_beyond c.args.self.now c.args.rows.now c.args.row.now c.index-rows-rows.result (grind arith) (omega arith) c.index-rows-rows.is (sym c.comes_before.ensures ∙ not_true c.comes_before.result yes) up
