use Rattle.std.proofs.Common.{Option}
use Rattle.tcp_connections.specs.Arrivals.{ComesNext}
use Rattle.tcp_connections.proofs.arrivals.next_open.Given as goal

-- whatever comes next from here on, came next from the begin on
abbrev pub invariant-loop : goal.invariant-loop
invariant-loop g l = (next : Option g.row.A-Connection.Denot) (new : g.row.A.Denot)
    → ComesNext g.A.Arrivals.may_accept g.A.Arrivals.may_find g.A.Arrivals.may_miss l.arrivals next new
    → ComesNext g.A.Arrivals.may_accept g.A.Arrivals.may_find g.A.Arrivals.may_miss l.fn.arrivals next new
