use Rattle.lease_proto.proofs.SetupLemmas.{setups_are_texts}
use Rattle.lease_proto.proofs.setup_lines.setup_law.Goals as goal

pub returns : goal.returns
returns c = setups_are_texts
