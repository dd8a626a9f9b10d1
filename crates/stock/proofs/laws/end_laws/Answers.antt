use Rattle.stock.proofs.Ending.{ends_once_reaped, ends_with_nothing_out}
use Rattle.stock.proofs.laws.end_laws.Goals as goal

pub returns : goal.returns
returns c = record { reaped = ends_once_reaped; nothing_out = ends_with_nothing_out }
