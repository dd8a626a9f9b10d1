use Rattle.quantum_cache.proofs.reaps.+reap_caches.Given as goal

abbrev pub decreases-reap_caches : goal.decreases-reap_caches
decreases-reap_caches g l = l.left
