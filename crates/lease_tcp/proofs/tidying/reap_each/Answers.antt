use Rattle.lease_tcp.proofs.TidyingLemmas.{one_more}
use Rattle.lease_tcp.proofs.tidying.reap_each.Goals as goal

pub loop-arena-preserved : goal.loop-arena-preserved
loop-arena-preserved g c = λ new rest. c.loop-arena.invariant new (one_more g.U.Upkeep.may_reap c.loop-arena.arena c.loop-arena-test.true c.loop-arena.upkeep c.reap.new.self new c.reap.ensures.reaped rest)
