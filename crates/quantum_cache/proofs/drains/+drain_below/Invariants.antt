use Rattle.quantum_cache.proofs.drains.+drain_below.Given as goal

abbrev pub decreases-drain_below : goal.decreases-drain_below
decreases-drain_below g l = l.end
