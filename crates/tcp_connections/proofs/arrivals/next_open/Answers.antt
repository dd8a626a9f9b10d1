use Rattle.std.proofs.Common.{[], ◌∷◌, Some, None, Ok, Err, true, false, refl, rules}
use Rattle.tcp_connections.proofs.arrivals.next_open.Goals as goal

pub loop-init : goal.loop-init
loop-init g c = λ next new comes. comes

pub returns-then-is_closed : goal.returns-then-is_closed
returns-then-is_closed g c =
    let closed : g.A.Arrivals.may_find c.accept-came.new.self true = search rules in
    c.loop.invariant None c.accept-came.new.self ([], c.loop.arrivals, refl, (c.accept-came.result, c.accept-came.ensures, closed))

pub returns-in-Ok : goal.returns-in-Ok
returns-in-Ok g c =
    let came : g.A.Arrivals.may_accept c.loop.arrivals (Ok c.in-Ok.connection) c.accept-came.new.self = search rules in
    let found : g.A.Arrivals.may_find c.accept-came.new.self false = search rules in
    c.loop.invariant (Some c.in-Ok.connection) c.accept-came.new.self ([], c.loop.arrivals, refl, (came, found))

pub loop-preserved : goal.loop-preserved
loop-preserved g c = λ next new comes.
    let (faults, mid, missed, last) = comes in
    let came : g.A.Arrivals.may_accept c.loop.arrivals (Err c.in-Err.fault) c.accept-came.new.self = search rules in
    let found : g.A.Arrivals.may_find c.accept-came.new.self false = search rules in
    c.loop.invariant next new (c.in-Err.fault ∷ faults, mid, (c.accept-came.new.self, c.miss.new.self, came, found, c.miss.ensures, missed), last)
