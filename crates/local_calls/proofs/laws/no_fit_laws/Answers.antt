use Rattle.local_calls.proofs.LawProofs as laws
use Rattle.local_calls.proofs.laws.no_fit_laws.Goals as goal

pub returns-clause-alloc : goal.returns-clause-alloc
returns-clause-alloc c = laws.no_fit_is_right

pub returns-clause-xalloc : goal.returns-clause-xalloc
returns-clause-xalloc c = laws.xalloc_no_fit_is_right
