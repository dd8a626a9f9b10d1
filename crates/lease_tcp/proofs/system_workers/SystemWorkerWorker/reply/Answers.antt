use Rattle.std.proofs.Common.{refl, subst}
use Rattle.deed_table.specs.declared.deeds.SeatDeed.{SeatDeed}
use Rattle.lease_tcp.specs.Workers.{MayReply, SystemWorkerState}
use Rattle.lease_tcp.proofs.system_workers.SystemWorkerWorker.reply.Goals as goal

pub returns : goal.returns
returns g c = subst (λ (s : SystemWorkerState). MayReply (SeatDeed g.row.N.Denot) s c.args.line.now c.answer.result.reply (record { arenas = c.self.inside.system.now.arenas; cpu = c.answer.new.self.cpu })) c.self.view_is ((c.answer.result.receipt, c.answer.result.is_new, c.answer.ensures.runs, c.answer.ensures.answers), c.answer.ensures.held, refl, c.answer.ensures.stays)
