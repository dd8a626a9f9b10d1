use Rattle.std.proofs.Common.{ap, sym, ◌∙◌}
use Rattle.deed_core.specs.Holding.{Holding}
use Rattle.lease_book.specs.BookState.{BookState}
use Rattle.shared_book.proofs.marked_books.MarkedBook.check.Goals as goal

pub returns-clause-mark : goal.returns-clause-mark
returns-clause-mark g c = sym (ap (λ (b : BookState). b.mark.root) c.self.view_is) ∙ ap (λ (h : Holding). h.root) c.self.invariant.0 ∙ c.self.invariant.1
