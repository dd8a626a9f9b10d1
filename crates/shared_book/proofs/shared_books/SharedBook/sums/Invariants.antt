use Rattle.std.proofs.Common.{}
use Rattle.shared_book.specs.Sums.{LooksTell}
use Rattle.shared_book.proofs.shared_books.SharedBook.sums.Given as goal

abbrev pub invariant-loop-look : goal.invariant-loop-look
invariant-loop-look g l = LooksTell l.look l.leases
