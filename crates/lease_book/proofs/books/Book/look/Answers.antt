use Rattle.std.proofs.Common.{subst}
use Rattle.lease_book.specs.Account.{Account}
use Rattle.lease_book.specs.Answers.{IsNew, IsLook}
use Rattle.lease_book.proofs.HistoryLemmas.{account_is}
use Rattle.lease_book.proofs.books.Book.look.Goals as goal

pub returns-in-Some-clause-history : goal.returns-in-Some-clause-history
returns-in-Some-clause-history g c es h =
    subst (λ (a : Account). IsNew a c.args.id) (account_is es c.args.self.now c.args.id.client h) c.in-Some.ensures.new

pub returns-in-None-clause-history : goal.returns-in-None-clause-history
returns-in-None-clause-history g c es h =
    subst (λ (a : Account). IsLook c.args.self.now a c.args.id c.seek.result) (account_is es c.args.self.now c.args.id.client h) c.seek.ensures
