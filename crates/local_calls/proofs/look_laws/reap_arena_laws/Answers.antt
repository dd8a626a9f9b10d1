use Rattle.local_calls.proofs.LawProofs as laws
use Rattle.local_calls.proofs.look_laws.reap_arena_laws.Goals as goal

pub returns-clause-done : goal.returns-clause-done
returns-clause-done c = laws.reap_arena_always_done

pub returns-clause-nothing : goal.returns-clause-nothing
returns-clause-nothing c = laws.reap_arena_leaves_nothing

pub returns-clause-others : goal.returns-clause-others
returns-clause-others c = laws.reap_arena_brings_nothing

pub returns-clause-few : goal.returns-clause-few
returns-clause-few c = laws.reap_arena_takes_few_looks
