use Rattle.locked_parts.specs.Walks.{TicksCaches}
use Rattle.locked_parts.proofs.depot_walks.tick_caches.Given as goal

abbrev pub invariant-loop-before : goal.invariant-loop-before
invariant-loop-before g l = TicksCaches g.D.Depots.ticks l.fn.arena l.before l.fn.depots l.depots
