use Rattle.quantum_cache.proofs.reaps.+reap_below.Given as goal

abbrev pub decreases-reap_below : goal.decreases-reap_below
decreases-reap_below g l = l.end
