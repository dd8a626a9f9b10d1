use Rattle.std.proofs.Common.{arith}
use Rattle.locked_parts.proofs.Came.{stands_there}
use Rattle.locked_parts.proofs.locked_arenas.LockedArena.cache.Goals as goal

pub returns-clause-stands : goal.returns-clause-stands
returns-clause-stands g c = stands_there c.args.self.now _ c.args.number c.index.result.now c.self.view_is (omega (arith, c.if-number-eq0.false)) (omega (arith, c.if-number-len.false, c.len.ensures, c.self.inside.caches.ok.0)) c.index.ensures
