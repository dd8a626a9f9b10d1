use Rattle.std.proofs.Common.{◌≡◌, ◌+◌, ◌++◌, length, map, take, vec_len, vec_capacity}
use Rattle.lease_book.specs.Places.{leases_in}
use Rattle.lease_book.specs.Reports.{lease_report}
use Rattle.lease_book.proofs.places.Places.tell.Given as goal

abbrev pub invariant-loop-place : goal.invariant-loop-place
invariant-loop-place g l = record {
  leases : l.out.items ≡ l.initial.out.items ++ map lease_report (leases_in (take l.place-index l.self.places));
  len : vec_len l.out ≡ vec_len l.initial.out + length (leases_in (take l.place-index l.self.places));
  capacity : vec_capacity l.out ≡ vec_capacity l.initial.out;
}
