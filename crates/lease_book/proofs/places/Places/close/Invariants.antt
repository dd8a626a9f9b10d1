use Rattle.std.proofs.Common.{◌≡◌, []}
use Rattle.std.specs.Vec.Iter.{into_iter_items, into_iter_len}
use Rattle.lease_book.specs.Places.{leases_in}
use Rattle.lease_book.proofs.places.Places.close.Given as goal

abbrev pub invariant-loop-place : goal.invariant-loop-place
invariant-loop-place g l = leases_in (into_iter_items l.rest) ≡ []

abbrev pub decreases-loop-place : goal.decreases-loop-place
decreases-loop-place g l = into_iter_len l.rest
