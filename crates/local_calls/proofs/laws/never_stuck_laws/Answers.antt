use Rattle.local_calls.proofs.LawProofs as laws
use Rattle.local_calls.proofs.laws.never_stuck_laws.Goals as goal

pub returns-clause-alloc : goal.returns-clause-alloc
returns-clause-alloc c = laws.alloc_never_stuck

pub returns-clause-xalloc : goal.returns-clause-xalloc
returns-clause-xalloc c = laws.xalloc_never_stops

pub returns-clause-free : goal.returns-clause-free
returns-clause-free c = laws.free_always_done

pub returns-clause-drain : goal.returns-clause-drain
returns-clause-drain c = laws.drain_always_done

pub returns-clause-reap : goal.returns-clause-reap
returns-clause-reap c = laws.reap_always_done
