use Rattle.std.proofs.Common.{List, ap, ◌∙◌, sum_by}
use Rattle.lease_book.specs.Account.{Account}
use Rattle.lease_book.specs.BookState.{segments_of_accounts, units_of_arena}
use Rattle.lease_book.proofs.WeightLemmas.{units_by_client}
use Rattle.lease_book.proofs.accounts.Accounts.units.Goals as goal

pub returns : goal.returns
returns g c =
    c.of.ensures ∙ c.self.invariant.counted.sums c.args.arena
    ∙ units_by_client c.args.arena _ _ c.self.invariant.shelf.together
    ∙ ap (λ (xs : List Account). sum_by (units_of_arena c.args.arena) (segments_of_accounts xs)) c.self.view_is
