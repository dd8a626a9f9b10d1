use Rattle.tcp_connections.specs.Arrivals.{AcceptsAt, BeginsAt, FindsAt, MissesAt, ServesEach}
use Rattle.tcp_connections.proofs.arrivals.begin_each.Given as goal

-- whatever begins with each from here on, began with each from the begin on
abbrev pub invariant-loop : goal.invariant-loop
invariant-loop g l = goal.F-IsAlwaysCallable g l.begin
    × ((new : g.row.A.Denot) → (last : g.row.F.Denot)
    → ServesEach (AcceptsAt g.A.Arrivals.may_accept) (FindsAt g.A.Arrivals.may_find) (BeginsAt (λ old x next. goal.F-step g old x tt next)) (MissesAt g.A.Arrivals.may_miss)
    (record { arrivals = l.arrivals; host = l.begin }) (record { arrivals = new; host = last })
    → ServesEach (AcceptsAt g.A.Arrivals.may_accept) (FindsAt g.A.Arrivals.may_find) (BeginsAt (λ old x next. goal.F-step g old x tt next)) (MissesAt g.A.Arrivals.may_miss)
    (record { arrivals = l.fn.arrivals; host = l.fn.begin }) (record { arrivals = new; host = last }))
