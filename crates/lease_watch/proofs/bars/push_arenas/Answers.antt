use Rattle.lease_watch.proofs.TextLemmas.{one_more}
use Rattle.lease_watch.specs.Pages.{arena_part}
use Rattle.lease_watch.proofs.bars.push_arenas.Goals as goal

pub loop-arena-preserved : goal.loop-arena-preserved
loop-arena-preserved c = one_more arena_part c.args.out.now.items c.loop-arena.out.items c.push_arena.new.out.items c.args.arenas.now c.loop-arena.arena-index c.arena-item.result c.loop-arena-test.true c.arena-item.is c.loop-arena.invariant c.in_ok-push_arena.ensures
