use Rattle.std.proofs.Common.{◌≡◌}
use Rattle.std.specs.Io.KnownBytes.{Keeps}
use Rattle.lease_server.proofs.watching.Watched.flush.Given as goal

abbrev pub invariant-loop : goal.invariant-loop
invariant-loop g l = Keeps (g.W.Write.contents l.fn.self.inner) (g.W.Write.contents l.self.inner) × (l.self.failed ≡ l.fn.self.failed)
    × (l.self.reads ≡ l.fn.self.reads)
