use Rattle.local_calls.proofs.LawProofs as laws
use Rattle.local_calls.proofs.laws.emptied_laws.Goals as goal

pub returns-clause-drain : goal.returns-clause-drain
returns-clause-drain c = laws.drain_empties_cpu

pub returns-clause-turns : goal.returns-clause-turns
returns-clause-turns c = laws.drain_with_turns

pub returns-clause-reap : goal.returns-clause-reap
returns-clause-reap c = laws.reap_leaves_nothing
