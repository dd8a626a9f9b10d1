use Rattle.quantum_cache.proofs.AllocHands.{alloc_handles}
use Rattle.quantum_cache.proofs.AllocHands.{xalloc_handles}
use Rattle.quantum_cache.proofs.FreeHands.{free_handles}
use Rattle.quantum_cache.proofs.EmptyingHands.{drain_handles}
use Rattle.quantum_cache.proofs.EmptyingHands.{reap_arena_handles}
use Rattle.quantum_cache.proofs.EmptyingHands.{reap_handles}
use Rattle.quantum_cache.proofs.laws.hand_laws.Goals as goal

pub returns-clause-alloc : goal.returns-clause-alloc
returns-clause-alloc c = alloc_handles

pub returns-clause-xalloc : goal.returns-clause-xalloc
returns-clause-xalloc c = xalloc_handles

pub returns-clause-free : goal.returns-clause-free
returns-clause-free c = free_handles

pub returns-clause-drain : goal.returns-clause-drain
returns-clause-drain c = drain_handles

pub returns-clause-reap_arena : goal.returns-clause-reap_arena
returns-clause-reap_arena c = reap_arena_handles

pub returns-clause-reap : goal.returns-clause-reap
returns-clause-reap c = reap_handles
