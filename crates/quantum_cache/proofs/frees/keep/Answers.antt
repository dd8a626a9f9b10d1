use Rattle.quantum_cache.specs.Frees.{free_cached}
use Rattle.quantum_cache.proofs.PlacingPaths.{ran_takes, ran_stops, ran_leaves}
use Rattle.quantum_cache.proofs.frees.keep.Goals as goal

pub returns-in-Placed-clause-ran : goal.returns-in-Placed-clause-ran
unfolding free_cached
returns-in-Placed-clause-ran g c = ran_takes _ _ _ _ _ _ _ _ c.in-Placed.ensures.ran

pub returns-in-Stopped-clause-ran : goal.returns-in-Stopped-clause-ran
unfolding free_cached
returns-in-Stopped-clause-ran g c = ran_stops _ _ _ _ _ _ _ _ _ c.in-Stopped.ensures.ran

pub returns-in-Placed-exchange_and_push-clause-ran : goal.returns-in-Placed-exchange_and_push-clause-ran
unfolding free_cached
returns-in-Placed-exchange_and_push-clause-ran g c = ran_leaves _ _ _ _ _ _ _ _ _ _ _ c.in-Left.ensures.ran (ran_takes _ _ _ _ _ _ _ _ c.in-Placed-exchange_and_push.ensures.ran)

pub returns-in-Stopped-exchange_and_push-clause-ran : goal.returns-in-Stopped-exchange_and_push-clause-ran
unfolding free_cached
returns-in-Stopped-exchange_and_push-clause-ran g c = ran_leaves _ _ _ _ _ _ _ _ _ _ _ c.in-Left.ensures.ran (ran_stops _ _ _ _ _ _ _ _ _ c.in-Stopped-exchange_and_push.ensures.ran)

pub returns-clause-ran : goal.returns-clause-ran
unfolding free_cached
returns-clause-ran g c = ran_leaves _ _ _ _ _ _ _ _ _ _ _ c.in-Left.ensures.ran (ran_leaves _ _ _ _ _ _ _ _ _ _ _ c.in-Left-exchange_and_push.ensures.ran c.put_back.ensures.ran)
