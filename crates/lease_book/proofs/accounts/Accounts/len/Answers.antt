use Rattle.std.proofs.Common.{◌∙◌, List, length, sym, ap}
use Rattle.lease_book.specs.Account.{Account}
use Rattle.lease_book.proofs.ShelfLemmas.{length-accounts_of}
use Rattle.lease_book.proofs.accounts.Accounts.len.Goals as goal

pub returns-clause-count : goal.returns-clause-count
returns-clause-count g c =
    c.len.ensures.len ∙ sym (length-accounts_of _ _ c.self.invariant.shelf.together) ∙ ap (λ (xs : List Account). length xs) c.self.view_is
