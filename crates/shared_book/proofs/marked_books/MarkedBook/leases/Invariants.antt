use Rattle.std.proofs.Common.{◌≡◌, ◌-◌, ◌^◌, min}
use Rattle.shared_book.specs.Sums.{leases_from}
use Rattle.shared_book.proofs.marked_books.MarkedBook.leases.Given as goal

abbrev pub invariant-loop-place : goal.invariant-loop-place
invariant-loop-place g l = l.leases ≡ min (leases_from l.self.accounts l.from l.place) (2 ^ 64 - 1)
