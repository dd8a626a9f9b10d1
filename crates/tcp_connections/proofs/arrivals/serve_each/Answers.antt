use Rattle.std.proofs.Common.{Some, None, rules}
use Rattle.tcp_connections.specs.Arrivals.{ComesNext}
use Rattle.tcp_connections.proofs.ArrivalLemmas.{served_on, none_on}
use Rattle.tcp_connections.proofs.arrivals.serve_each.Goals as goal

pub loop-init : goal.loop-init
loop-init g c = λ new served. served

pub returns-in_default : goal.returns-in_default
returns-in_default g c =
    let none : ComesNext g.S.Arrivals.may_accept g.S.Arrivals.may_find g.S.Arrivals.may_miss c.loop.server None c.next_open.new.arrivals = search rules in
    c.loop.invariant c.next_open.new.arrivals (none_on g.S.Arrivals.may_accept g.S.Arrivals.may_find g.S.Server.may_serve g.S.Arrivals.may_miss c.loop.server c.next_open.new.arrivals none)

pub loop-preserved : goal.loop-preserved
loop-preserved g c = λ new served.
    let came : ComesNext g.S.Arrivals.may_accept g.S.Arrivals.may_find g.S.Arrivals.may_miss c.loop.server (Some c.in-Some-next_open.connection) c.next_open.new.arrivals = search rules in
    c.loop.invariant new (served_on g.S.Arrivals.may_accept g.S.Arrivals.may_find g.S.Server.may_serve g.S.Arrivals.may_miss c.loop.server c.next_open.new.arrivals c.serve.new.self c.in-Some-next_open.connection came c.serve.ensures new served)
