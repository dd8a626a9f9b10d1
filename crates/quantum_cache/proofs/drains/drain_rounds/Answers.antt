use Rattle.std.proofs.Common.{arith, ◌∙◌}
use Rattle.quantum_cache.proofs.Turns.{drain_ends, drain_again}
use Rattle.quantum_cache.proofs.drains.drain_rounds.Goals as goal

pub returns-in-Some-clause-ran : goal.returns-in-Some-clause-ran
returns-in-Some-clause-ran g c = c.rounds.invariant.0 _ _ (drain_ends _ _ _ _ _ _ _ _ _ c.in-Some.ensures.ran)

pub returns-in-Some-clause-no_more : goal.returns-in-Some-clause-no_more
returns-in-Some-clause-no_more g c = omega (arith, c.drain_one.ensures.no_more, c.rounds.invariant.1)

pub rounds-preserved : goal.rounds-preserved
rounds-preserved g c =
    (λ t a rest. c.rounds.invariant.0 t a (drain_again _ _ _ _ _ _ _ _ _ _ c.in-None.ensures.ran c.in-None.ensures.fewer rest), omega (arith, c.in-None.ensures.fewer, c.rounds.invariant.1), omega (arith, c.in-None.ensures.few, c.rounds.invariant.2), c.in-None.ensures.tree ∙ c.rounds.invariant.3)
