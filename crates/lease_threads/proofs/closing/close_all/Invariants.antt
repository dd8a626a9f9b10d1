use Rattle.std.proofs.Common.{◌≡◌, None, length}
use Rattle.lease_threads.proofs.closing.close_all.Given as goal

abbrev pub invariant-roots : goal.invariant-roots
invariant-roots g l = l.cpu.hand ≡ None

abbrev pub decreases-roots : goal.decreases-roots
decreases-roots g l = length l.roots.items
