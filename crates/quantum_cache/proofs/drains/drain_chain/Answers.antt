use Rattle.quantum_cache.proofs.drains.drain_chain.Goals as goal

pub returns-clause-ran : goal.returns-clause-ran
returns-clause-ran g c = λ turns lt. rw c.in-Some.ensures.cases.0 (rw (← c.cache_count-caches.ensures.value) (c.drain_caches.ensures.ran turns lt))
