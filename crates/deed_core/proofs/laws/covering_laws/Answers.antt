use Rattle.deed_core.proofs.Units.{counts_the_unit, overlap_covers_twice, covers_cut, split_keeps_units, join_keeps_units}
use Rattle.deed_core.proofs.laws.covering_laws.Goals as goal

pub returns : goal.returns
returns c = record { counts = counts_the_unit; overlap = overlap_covers_twice; cut = covers_cut; split = split_keeps_units; join = join_keeps_units }
