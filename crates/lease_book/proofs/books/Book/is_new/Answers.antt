use Rattle.std.proofs.Common.{rules, ◌↔◌, IsTrue, subst}
use Rattle.lease_book.specs.Account.{Account}
use Rattle.lease_book.specs.BookState.{account_in}
use Rattle.lease_book.specs.Answers.{IsNew}
use Rattle.lease_book.proofs.HistoryLemmas.{account_is}
use Rattle.lease_book.proofs.books.Book.is_new.Goals as goal

pub returns-clause-history : goal.returns-clause-history
returns-clause-history g c es h =
    let here : IsTrue c.is_some.result ↔ IsNew (account_in c.args.id.client c.args.self.now) c.args.id = search rules in
    subst (λ (a : Account). IsTrue c.is_some.result ↔ IsNew a c.args.id) (account_is es c.args.self.now c.args.id.client h) here
