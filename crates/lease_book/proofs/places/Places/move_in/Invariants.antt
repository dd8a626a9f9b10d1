use Rattle.std.proofs.Common.{◌≡◌, ◌+◌, ◌*◌, ◌<◌, ◌++◌, length}
use Rattle.std.specs.Vec.Iter.{into_iter_items, into_iter_len}
use Rattle.lease_book.specs.declared.places.TheConstants.{CHAINS_EACH}
use Rattle.lease_book.specs.Places.{leases_in}
use Rattle.lease_book.proofs.places.Places.move_in.Given as goal

abbrev pub invariant-loop-place : goal.invariant-loop-place
invariant-loop-place g l = record {
  leases : leases_in l.self.places ++ leases_in (into_iter_items l.rest) ≡ leases_in l.initial.self.places ++ leases_in l.fn.places.items;
  room : CHAINS_EACH * (length l.self.places + length (leases_in (into_iter_items l.rest))) < length l.self.ends;
}

abbrev pub decreases-loop-place : goal.decreases-loop-place
decreases-loop-place g l = into_iter_len l.rest
