use Rattle.quantum_cache.proofs.drains.drain.Goals as goal

pub returns-clause-ran : goal.returns-clause-ran
returns-clause-ran g c = λ turns lt. rw (← c.len.ensures.value) (c.drain_below.ensures.ran turns lt)
