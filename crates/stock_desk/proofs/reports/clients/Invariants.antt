use Rattle.std.proofs.Common.{◌≡◌, ◌++◌, map, take}
use Rattle.std.specs.List.{flat_map}
use Rattle.lease_book.specs.Reports.{report_of}
use Rattle.lease_machine.specs.Operators.{client_text_of}
use Rattle.stock_desk.proofs.reports.clients.Given as goal

abbrev pub invariant-loop-index : goal.invariant-loop-index
invariant-loop-index l = l.out.items ≡ l.initial.out.items ++ flat_map client_text_of (take l.index (map report_of l.book.accounts))
