use Rattle.tcp_connections.specs.Arrivals.{ServesEach}
use Rattle.tcp_connections.proofs.arrivals.serve_each.Given as goal

-- whatever serves each from here on, served each from the begin on
abbrev pub invariant-loop : goal.invariant-loop
invariant-loop g l = (new : g.row.S.Denot)
    → ServesEach g.S.Arrivals.may_accept g.S.Arrivals.may_find g.S.Server.may_serve g.S.Arrivals.may_miss l.server new
    → ServesEach g.S.Arrivals.may_accept g.S.Arrivals.may_find g.S.Server.may_serve g.S.Arrivals.may_miss l.fn.server new
