use Rattle.deed_table.proofs.Follows.{deeds_apart}
use Rattle.deed_table.proofs.laws.no_two_overlap.Goals as goal

pub returns : goal.returns
returns c = deeds_apart
