use Rattle.quantum_cache.proofs.AllocBounds.{alloc_is_short}
use Rattle.quantum_cache.proofs.FreeBounds.{free_is_short}
use Rattle.quantum_cache.proofs.ReapBounds.{reap_arena_is_short, reap_is_short}
use Rattle.quantum_cache.proofs.laws.lock_laws.Goals as goal

pub returns-clause-alloc : goal.returns-clause-alloc
returns-clause-alloc c = alloc_is_short

pub returns-clause-free : goal.returns-clause-free
returns-clause-free c = free_is_short

pub returns-clause-reap : goal.returns-clause-reap
returns-clause-reap c = reap_is_short

pub returns-clause-reap_arena : goal.returns-clause-reap_arena
returns-clause-reap_arena c = reap_arena_is_short
