use Rattle.local_parts.proofs.LawProofs as laws
use Rattle.local_parts.proofs.laws.pop_law.Goals as goal

pub returns : goal.returns
returns c = record { takes = laws.pop_takes_round }
