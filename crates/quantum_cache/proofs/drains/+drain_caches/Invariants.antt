use Rattle.quantum_cache.proofs.drains.+drain_caches.Given as goal

abbrev pub decreases-drain_caches : goal.decreases-drain_caches
decreases-drain_caches g l = l.left
