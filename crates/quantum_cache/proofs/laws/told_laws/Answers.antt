use Rattle.quantum_cache.proofs.AllocTellings.{alloc_tells}
use Rattle.quantum_cache.proofs.FreeTellings.{free_tells}
use Rattle.quantum_cache.proofs.ReapTellings.{reap_arena_tells, reap_tells}
use Rattle.quantum_cache.proofs.DrainTellings.{drain_tells}
use Rattle.quantum_cache.proofs.laws.told_laws.Goals as goal

pub returns-clause-alloc : goal.returns-clause-alloc
returns-clause-alloc c = alloc_tells

pub returns-clause-free : goal.returns-clause-free
returns-clause-free c = free_tells

pub returns-clause-reap : goal.returns-clause-reap
returns-clause-reap c = reap_tells

pub returns-clause-drain : goal.returns-clause-drain
returns-clause-drain c = drain_tells

pub returns-clause-reap_arena : goal.returns-clause-reap_arena
returns-clause-reap_arena c = reap_arena_tells
