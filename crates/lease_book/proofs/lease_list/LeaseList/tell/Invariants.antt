use Rattle.std.proofs.Common.{◌≡◌, ◌++◌, map, take, vec_capacity}
use Rattle.lease_book.specs.Reports.{lease_report}
use Rattle.lease_book.proofs.lease_list.LeaseList.tell.Given as goal

abbrev pub invariant-loop-boxed : goal.invariant-loop-boxed
invariant-loop-boxed g l = record {
  leases : l.out.items ≡ l.initial.out.items ++ map lease_report (take l.boxed-index l.self);
  capacity : vec_capacity l.out ≡ vec_capacity l.initial.out;
}
