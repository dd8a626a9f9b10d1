use Rattle.std.proofs.lemmas.Result.{err_from_is_err_and}
use Rattle.stock_desk.proofs.Performing.{none_asked}
use Rattle.stock_desk.proofs.growing.grow.Goals as goal

pub returns-in_err-growth-clause-told : goal.returns-in_err-growth-clause-told
returns-in_err-growth-clause-told c d named here =
    let p = err_from_is_err_and c.from_residual.result c.from_residual.ensures.1 in
    rw (p.1, p.2) (none_asked c.args.line.now c.in_err-growth.field-0.0 d c.args.tree.now c.args.stock.now c.in_err-growth.ensures.asked named here)
