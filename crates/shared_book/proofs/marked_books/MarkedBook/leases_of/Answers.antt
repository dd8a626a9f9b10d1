use Rattle.std.proofs.Common.{sym, ap, ◌∙◌, slice_get}
use Rattle.lease_book.specs.BookState.{BookState}
use Rattle.shared_book.specs.Sums.{leases_of}
use Rattle.shared_book.proofs.Told.{reported, none_reported}
use Rattle.shared_book.proofs.marked_books.MarkedBook.leases_of.Goals as goal

pub returns-in-Some : goal.returns-in-Some
returns-in-Some g c =
    sym (reported _ c.in-Some.report (sym c.client_at.ensures.value ∙ c.in-Some.is)) ∙ ap (λ (b : BookState). leases_of (slice_get b.accounts c.args.index)) c.self.view_is

pub returns-in-None : goal.returns-in-None
returns-in-None g c =
    sym (none_reported _ (sym c.client_at.ensures.value ∙ c.in-None.is)) ∙ ap (λ (b : BookState). leases_of (slice_get b.accounts c.args.index)) c.self.view_is
