use Rattle.lease_book.proofs.LawProofs.{books_in_bounds}
use Rattle.lease_book.proofs.laws.bound_law.Goals as goal

pub returns : goal.returns
returns c = books_in_bounds
