use Rattle.vmemd.proofs.LawLemmas.{script_emptied_whole}
use Rattle.vmemd.proofs.laws.emptying_laws.Goals as goal

pub returns : goal.returns
returns c = record { emptied = script_emptied_whole }
