use Rattle.std.proofs.Common.{◌∙◌, List, length, ap}
use Rattle.std.proofs.lemmas.List.{length-map}
use Rattle.lease_book.specs.Account.{Account}
use Rattle.lease_book.specs.History.{account, clients_of}
use Rattle.lease_book.specs.BookState.{BookState}
use Rattle.lease_book.proofs.books.Book.clients.Goals as goal

pub returns-clause-history : goal.returns-clause-history
returns-clause-history g c es h =
    c.len.ensures.count ∙ ap (λ (b : BookState). length b.accounts) c.self.view_is
    ∙ ap (λ (xs : List Account). length xs) h.accounts ∙ length-map (clients_of es) (account es)
