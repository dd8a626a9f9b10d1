use Rattle.std.proofs.Common.{◌≡◌, None, length}
use Rattle.lease_threads.specs.Ends.{AreClosedBelow}
use Rattle.lease_threads.proofs.closing.close_each.Given as goal

abbrev pub invariant-loop-id : goal.invariant-loop-id
invariant-loop-id g l = record {
  arenas : l.system.arenas ≡ l.fn.system.arenas;
  hand : l.cpu.hand ≡ None;
  closed : AreClosedBelow l.id l.system.roots;
  count : length l.system.roots ≡ length l.fn.system.roots;
}
