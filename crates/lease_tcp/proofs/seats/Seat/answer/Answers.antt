use Rattle.std.proofs.Common.{rules}
use Rattle.deed_table.specs.declared.deeds.SeatDeed.{SeatDeed}
use Rattle.lease_threads.specs.Calling.{RunsLine}
use Rattle.lease_tcp.specs.Workers.{any_step}
use Rattle.lease_tcp.proofs.seats.Seat.answer.Goals as goal

-- an open gate let each step come
pub returns-clause-runs : goal.returns-clause-runs
returns-clause-runs g c =
    let runs : RunsLine (SeatDeed g.row.N.Denot) c.args.system.now.arenas any_step c.self.inside.cpu.number c.self.inside.cpu.hand c.args.line.now c.request.new.cpu.hand c.in-Ok.told.reply c.in-Ok.told.receipt c.in-Ok.told.is_new = c.in-Ok.ensures.runs in
    search (rules, runs)
