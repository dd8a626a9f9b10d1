use Rattle.std.proofs.Common.{subst}
use Rattle.lease_book.specs.BookState.{HasHistory}
use Rattle.lease_book.proofs.books.Book.mark.Goals as goal

pub returns-clause-history : goal.returns-clause-history
returns-clause-history g c = subst HasHistory c.self.view_is c.self.invariant
