-- What a book tells of a client and of its leases.
use Rattle.std.specs.Prelude.{List, [], length, map, Option, Some, None}
use Rattle.lease_book.specs.Account.{Lease, Account, last_number}
use Rattle.lease_book.specs.declared.reports.ClientReport.{ClientReport}
use Rattle.lease_book.specs.declared.reports.LeaseReport.{LeaseReport}

abbrev pub report_of : Account → ClientReport
report_of a = record {
  client = a.client;
  incarnation = a.incarnation;
  last = last_number a;
  leases = length a.leases;
}

abbrev pub lease_report : Lease → LeaseReport
lease_report l = record {
  incarnation = l.incarnation;
  number = l.number;
  arena = l.segment.arena;
  base = l.segment.holding.range.base;
  units = l.segment.holding.range.len;
}

-- all leases of the account, in order of grant
abbrev pub lease_reports : Option Account → List LeaseReport
lease_reports None = []
lease_reports (Some a) = map lease_report a.leases
