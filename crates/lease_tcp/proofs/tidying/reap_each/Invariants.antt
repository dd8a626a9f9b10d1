use Rattle.lease_tcp.specs.Tidying.{ReapsBelow}
use Rattle.lease_tcp.proofs.tidying.reap_each.Given as goal

-- whatever reaps the others from here on, reaped all from the begin on
abbrev pub invariant-loop-arena : goal.invariant-loop-arena
invariant-loop-arena g l = (new : g.row.U.Denot) → ReapsBelow g.U.Upkeep.may_reap l.arena l.upkeep new → ReapsBelow g.U.Upkeep.may_reap (g.U.Upkeep.arenas l.fn.upkeep) l.fn.upkeep new
