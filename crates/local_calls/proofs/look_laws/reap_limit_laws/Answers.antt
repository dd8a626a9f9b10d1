use Rattle.local_calls.proofs.LawProofs as laws
use Rattle.local_calls.proofs.look_laws.reap_limit_laws.Goals as goal

pub returns-clause-few : goal.returns-clause-few
returns-clause-few c = laws.reap_takes_few_looks

pub returns-clause-nothing : goal.returns-clause-nothing
returns-clause-nothing c = laws.reap_without_limit
