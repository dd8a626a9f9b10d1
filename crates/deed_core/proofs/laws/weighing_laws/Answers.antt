use Rattle.deed_core.proofs.Weighing.{sum_by-filter, sum_by-smaller}
use Rattle.deed_core.proofs.laws.weighing_laws.Goals as goal

pub returns : goal.returns
returns c = record { part = sum_by-filter; smaller = sum_by-smaller }
