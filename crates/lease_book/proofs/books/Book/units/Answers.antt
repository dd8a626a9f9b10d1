use Rattle.std.proofs.Common.{List, sum_by, ap, ◌∙◌}
use Rattle.lease_book.specs.Account.{Account}
use Rattle.lease_book.specs.BookState.{BookState, leased_segments, segments_of_accounts, units_of_arena}
use Rattle.lease_book.proofs.books.Book.units.Goals as goal

pub returns-clause-history : goal.returns-clause-history
returns-clause-history g c es h =
    c.units.ensures ∙ ap (λ (b : BookState). sum_by (units_of_arena c.args.arena) (leased_segments b)) c.self.view_is
    ∙ ap (λ (xs : List Account). sum_by (units_of_arena c.args.arena) (segments_of_accounts xs)) h.accounts
