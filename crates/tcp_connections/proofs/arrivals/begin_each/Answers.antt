use Rattle.std.proofs.Common.{Some, None, refl, rules, of_calls}
use Rattle.tcp_connections.specs.Arrivals.{AcceptsAt, BeginsAt, ComesNext, FindsAt, MissesAt}
use Rattle.tcp_connections.proofs.ArrivalLemmas.{served_on, none_on, next_at}
use Rattle.tcp_connections.proofs.arrivals.begin_each.Goals as goal

pub loop-init : goal.loop-init
loop-init g c = (c.requires, λ new last begun. begun)

pub returns-in_default : goal.returns-in_default
returns-in_default g c =
    let accepts = g.A.Arrivals.may_accept in
    let finds = g.A.Arrivals.may_find in
    let misses = g.A.Arrivals.may_miss in
    let host = c.loop.begin in
    let none : ComesNext accepts finds misses c.loop.arrivals None c.next_open.new.arrivals = search rules in (
      host,
      c.loop.invariant.1 c.next_open.new.arrivals host
          (none_on (AcceptsAt accepts) (FindsAt finds) (BeginsAt (λ old x next. goal.F-step g old x tt next)) (MissesAt misses) _ _
          (next_at accepts finds misses host c.loop.arrivals c.next_open.new.arrivals None none)),
    )

pub loop-preserved : goal.loop-preserved
loop-preserved g c =
    let accepts = g.A.Arrivals.may_accept in
    let finds = g.A.Arrivals.may_find in
    let misses = g.A.Arrivals.may_miss in
    let came : ComesNext accepts finds misses c.loop.arrivals (Some c.in-Some-next_open.connection) c.next_open.new.arrivals = search rules in (
      search of_calls,
      (λ new last begun. c.loop.invariant.1 new last
          (served_on (AcceptsAt accepts) (FindsAt finds) (BeginsAt (λ old x next. goal.F-step g old x tt next)) (MissesAt misses) _ _ _ c.in-Some-next_open.connection
          (next_at accepts finds misses c.loop.begin c.loop.arrivals c.next_open.new.arrivals (Some c.in-Some-next_open.connection) came) (refl, c.begin.ensures) _ begun)),
    )
