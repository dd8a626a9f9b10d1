use Rattle.world_core.proofs.GoingHome.{one_ends}
use Rattle.lease_book.specs.BookState.{leased_segments}
use Rattle.world_core.proofs.closings.end_leases.Goals as goal

pub put_home-requires : goal.put_home-requires
put_home-requires c =
    let (others, out) = c.requires in
    (_, one_ends c.loop-segment.stock (leased_segments c.loop-segment.book) (leased_segments c.take_lease.new.self) c.in-Some.segment c.in-Some.ensures.taken.leases others (c.loop-segment.invariant others out))
