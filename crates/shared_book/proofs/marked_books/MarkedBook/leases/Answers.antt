use Rattle.shared_book.proofs.Told.{leases_more}
use Rattle.shared_book.proofs.marked_books.MarkedBook.leases.Goals as goal

pub loop-place-preserved : goal.loop-place-preserved
loop-place-preserved g c = leases_more _ _ c.loop-place.place _ _ _ c.loop-place.invariant c.leases_of.ensures c.saturating_add-leases.ensures
