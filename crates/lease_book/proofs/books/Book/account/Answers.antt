use Rattle.std.proofs.Common.{◌≡◌, subst}
use Rattle.lease_book.specs.BookState.{BookState, account_in}
use Rattle.lease_book.specs.Shelf.{standing_of}
use Rattle.lease_book.specs.Calls.{IsFound}
use Rattle.lease_book.proofs.BookLemmas.{found_of}
use Rattle.lease_book.proofs.books.Book.account.Goals as goal

pub returns-clause-found : goal.returns-clause-found
returns-clause-found g c =
    subst (λ (book : BookState). IsFound book c.args.client c.in_ok-index.index) c.self.view_is
    (found_of _ c.args.client c.in_ok-index.index c.standing.result.now c.in_ok-index.ensures.within c.in_ok-index.ensures.found c.standing.ensures).0

pub returns-clause-standing : goal.returns-clause-standing
returns-clause-standing g c =
    subst (λ (book : BookState). standing_of (account_in c.args.client book) ≡ c.standing.result.now) c.self.view_is
    (found_of (record { mark = g.D.Deed.holding c.self.inside.mark; accounts = c.self.inside.accounts }) c.args.client c.in_ok-index.index c.standing.result.now c.in_ok-index.ensures.within c.in_ok-index.ensures.found c.standing.ensures).1
