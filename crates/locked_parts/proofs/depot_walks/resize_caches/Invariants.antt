use Rattle.locked_parts.specs.Walks.{ResizesCaches}
use Rattle.locked_parts.proofs.depot_walks.resize_caches.Given as goal

abbrev pub invariant-loop-before : goal.invariant-loop-before
invariant-loop-before g l = ResizesCaches g.D.Depots.resizes l.fn.arena l.fn.size l.before l.fn.depots l.rose l.depots
