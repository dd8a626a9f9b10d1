use Rattle.std.proofs.Common.{◌∙◌, arith}
use Rattle.quantum_cache.proofs.Limits.{up_to_again, up_to_none, up_to_fault}
use Rattle.quantum_cache.proofs.reaps.reap_slabs.Goals as goal

pub slabs-preserved : goal.slabs-preserved
slabs-preserved g c =
    (λ t a r. c.slabs.invariant.0 t a (up_to_again _ _ _ _ _ _ _ _ _ _ _ _ c.slabs-test.true (rw c.in-Ok-Some.field-0-is at c.in-Ok-Some.ensures.ran) (rw c.from.ensures at r)), omega (arith, c.slabs.invariant.1, c.slabs-test.true, c.from.ensures, rw c.in-Ok-Some.field-0-is at c.in-Ok-Some.ensures.small), c.in-Ok-Some.ensures.tree ∙ c.slabs.invariant.2)

pub returns-in-Ok-None-clause-ran : goal.returns-in-Ok-None-clause-ran
returns-in-Ok-None-clause-ran g c = c.slabs.invariant.0 _ _ (up_to_none _ _ _ _ _ _ _ _ _ c.slabs-test.true (rw c.in-Ok-None.field-0-is at c.in-Ok-None.ensures.ran))

pub returns-in-Err-clause-ran : goal.returns-in-Err-clause-ran
returns-in-Err-clause-ran g c = c.slabs.invariant.0 _ _ (up_to_fault _ _ _ _ _ _ _ _ _ _ c.slabs-test.true c.in-Err.ensures.ran)
