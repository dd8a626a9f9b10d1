use Rattle.std.proofs.Common.{◌≡◌, ◌+◌, ◌++◌, length}
use Rattle.std.specs.Vec.Iter.{into_iter_items, into_iter_len}
use Rattle.lease_book.specs.Places.{leases_in}
use Rattle.lease_book.proofs.lease_list.LeaseList.move_to.Given as goal

abbrev pub invariant-loop-boxed : goal.invariant-loop-boxed
invariant-loop-boxed g l = record {
  leases : leases_in l.places.places ++ into_iter_items l.rest ≡ leases_in l.initial.places.places ++ l.fn.self;
  count : length l.places.places + length (into_iter_items l.rest) ≡ length l.initial.places.places + length l.fn.self;
  chains : length l.places.ends ≡ length l.initial.places.ends;
}

abbrev pub decreases-loop-boxed : goal.decreases-loop-boxed
decreases-loop-boxed g l = into_iter_len l.rest
