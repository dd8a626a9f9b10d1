use Rattle.std.proofs.Common.{refl, subst}
use Rattle.lease_tcp.specs.Workers.{MayReap, SystemWorkerState}
use Rattle.lease_tcp.proofs.system_workers.SystemWorkerUpkeep.reap.Goals as goal

pub returns-clause-reaped : goal.returns-clause-reaped
returns-clause-reaped g c = subst (λ (s : SystemWorkerState). MayReap s c.args.arena (record { arenas = c.self.inside.system.now.arenas; cpu = c.reap.new.self.cpu })) c.self.view_is ((refl, c.reap.ensures.stays), λ within. (c.reap.result.reaping, c.reap.ensures.reaped within))
