use Rattle.lease_machine.proofs.Ticking.{ticks_keep}
use Rattle.lease_machine.proofs.Resizing.{resizes_keep}
use Rattle.lease_machine.proofs.laws.depot_laws.Goals as goal

pub returns-clause-ticks : goal.returns-clause-ticks
returns-clause-ticks c = ticks_keep

pub returns-clause-resizes : goal.returns-clause-resizes
returns-clause-resizes c = resizes_keep
