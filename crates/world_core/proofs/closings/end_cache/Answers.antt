use Rattle.stock.specs.OwnCaches.{own_rounds}
use Rattle.world_core.proofs.GoingHome.{one_ends}
use Rattle.world_core.proofs.closings.end_cache.Goals as goal

pub put_home-requires : goal.put_home-requires
put_home-requires c =
    let (others, out) = c.requires in
    (_, one_ends c.loop-round.stock (own_rounds c.loop-round.own) (own_rounds c.pop.new.self) c.in-Some.round c.in-Some.ensures.weights others (c.loop-round.invariant others out))
