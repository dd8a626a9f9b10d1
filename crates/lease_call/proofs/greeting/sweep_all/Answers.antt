use Rattle.std.proofs.Common.{◌≡◌, ◌∙◌, Err, ap}
use Rattle.std.proofs.lemmas.Result.{err_from_is_err_and}
use Rattle.lease_call.proofs.CallPaths.{call_over, call_done}
use Rattle.lease_call.proofs.Sweeping.{swept_on}
use Rattle.lease_call.proofs.Unplaced.{call_ends}
use Rattle.lease_call.proofs.greeting.sweep_all.Goals as goal

pub sweeps-preserved : goal.sweeps-preserved
sweeps-preserved g c = (
  λ b t a r. c.sweeps.invariant.0 b t a (swept_on _ _ _ _ _ c.args.tree.now c.args.taken.now c.sweeps.left _ _ _ _ _ _ _ _ c.sweeps-test.true (rw c.in-Ok-Ended.field-0-is at c.in-Ok-Ended.ensures.step) (call_over _ _ _ _ _ _ _ _ _ _ _ _ _ _ c.in_ok-place-in-Ok-Ended.ensures.ran r)),
  c.in_ok-place-in-Ok-Ended.ensures.tree ∙ c.in-Ok-Ended.ensures.step.same_tree ∙ c.sweeps.invariant.1,
)

pub returns-in-Ok-Welcome-clause-ran : goal.returns-in-Ok-Welcome-clause-ran
returns-in-Ok-Welcome-clause-ran g c =
    let welcome : c.in-Ok-Welcome.welcomed ≡ c.args.taken.now = rw c.in-Ok-Welcome.field-0-is at c.in-Ok-Welcome.ensures.welcome in
    rw welcome (c.sweeps.invariant.0 _ _ _ (swept_on _ _ _ _ _ c.args.tree.now c.args.taken.now c.sweeps.left _ _ _ _ _ _ _ _ c.sweeps-test.true (rw c.in-Ok-Welcome.field-0-is at c.in-Ok-Welcome.ensures.step) (call_done _ _ _ _ _ _ _ _)))

pub returns-in_err-place-in-Ok-Ended-clause-ran : goal.returns-in_err-place-in-Ok-Ended-clause-ran
returns-in_err-place-in-Ok-Ended-clause-ran g c =
    let p = err_from_is_err_and c.from_residual.result c.from_residual.ensures.1 in
    c.sweeps.invariant.0 _ _ _ (swept_on _ _ _ _ _ c.args.tree.now c.args.taken.now c.sweeps.left _ _ _ _ _ _ _ _ c.sweeps-test.true (rw c.in-Ok-Ended.field-0-is at c.in-Ok-Ended.ensures.step) (call_ends _ _ _ _ _ g.S.Held.tag _ _ _ _ _ _ c.from_residual.result (p.1 ∙ ap Err p.2) c.in_err-place-in-Ok-Ended.ensures.ran))

pub returns-in-Err-clause-ran : goal.returns-in-Err-clause-ran
returns-in-Err-clause-ran g c = c.sweeps.invariant.0 _ _ _ (swept_on _ _ _ _ _ c.args.tree.now c.args.taken.now c.sweeps.left _ _ _ _ _ _ _ _ c.sweeps-test.true c.in-Err.ensures.step (call_done _ _ _ _ _ _ _ _))
