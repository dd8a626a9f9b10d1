use Rattle.locked_parts.specs.Walks.{TicksArenas}
use Rattle.locked_parts.proofs.depot_walks.tick_each.Given as goal

abbrev pub invariant-loop-arena : goal.invariant-loop-arena
invariant-loop-arena g l = TicksArenas g.D.Depots.ticks l.fn.tree l.arena l.fn.depots l.depots
