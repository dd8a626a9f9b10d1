use Rattle.deed_table.proofs.Follows.{units_once}
use Rattle.deed_table.proofs.laws.each_unit_once.Goals as goal

pub returns : goal.returns
returns c = units_once
