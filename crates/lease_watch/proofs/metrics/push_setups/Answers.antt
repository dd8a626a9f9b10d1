use Rattle.lease_watch.proofs.TextLemmas.{one_more}
use Rattle.lease_watch.specs.Metrics.{setup_text}
use Rattle.lease_watch.proofs.metrics.push_setups.Goals as goal

pub loop-arena-preserved : goal.loop-arena-preserved
loop-arena-preserved c = one_more setup_text c.args.out.now.items c.loop-arena.out.items c.push_setup.new.out.items c.args.arenas.now c.loop-arena.arena-index c.arena-item.result c.loop-arena-test.true c.arena-item.is c.loop-arena.invariant c.in_ok-push_setup.ensures
