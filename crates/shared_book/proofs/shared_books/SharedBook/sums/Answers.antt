use Rattle.shared_book.proofs.Told.{looks_more}
use Rattle.shared_book.proofs.shared_books.SharedBook.sums.Goals as goal

pub loop-look-preserved : goal.loop-look-preserved
loop-look-preserved g c = looks_more c.loop-look.look _ _ _ c.loop-look.invariant c.leases-some.ensures c.saturating_add-leases.ensures
