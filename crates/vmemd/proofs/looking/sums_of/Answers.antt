use Rattle.vmemd.proofs.WatchLemmas.{more_sums}
use Rattle.vmemd.proofs.looking.sums_of.Goals as goal

pub loop-arena-preserved : goal.loop-arena-preserved
loop-arena-preserved g c =
    let (one, of, is) = c.in_ok-push_sums.ensures in
    more_sums c.args.system.now.arenas c.loop-arena.arena c.loop-arena.sums.items one _ c.loop-arena.invariant of is
