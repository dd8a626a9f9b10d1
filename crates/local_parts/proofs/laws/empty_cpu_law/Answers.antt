use Rattle.local_parts.proofs.LawProofs as laws
use Rattle.local_parts.proofs.laws.empty_cpu_law.Goals as goal

pub returns : goal.returns
returns c = record { none = laws.empty_has_no_rounds }
