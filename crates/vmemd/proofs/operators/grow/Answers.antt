use Rattle.std.proofs.Common.{Err, inl, refl, subst}
use Rattle.std.proofs.lemmas.Result.{err_from_is_err_and}
use Rattle.lease_call.specs.Growing.{AsksGrowth}
use Rattle.vmemd.proofs.operators.grow.Goals as goal

pub returns-in_err-growth : goal.returns-in_err-growth
returns-in_err-growth g c =
    let p = err_from_is_err_and c.from_residual.result c.from_residual.ensures.1 in
    let word = c.in_err-growth.field-0.0 in
    let asked = subst (λ arenas. AsksGrowth arenas c.args.line.now (Err word)) c.tree.ensures c.in_err-growth.ensures.asked in
    rw (p.1, p.2) (inl (word, asked, refl, refl))
