use Rattle.std.proofs.Common.{◌≡◌, ◌+◌, ◌-◌, ◌^◌, min}
use Rattle.std.specs.Io.KnownBytes.{Keeps}
use Rattle.lease_server.proofs.watching.Watched.read.Given as goal

abbrev pub invariant-loop : goal.invariant-loop
invariant-loop g l = Keeps (g.R.Read.remaining l.fn.self.inner) (g.R.Read.remaining l.self.inner) × (l.self.failed ≡ l.fn.self.failed)
    × (l.self.reads ≡ min (l.fn.self.reads + 1) (2 ^ 64 - 1))
