use Rattle.std.proofs.Common.{is_some, position, ap, ◌∙◌}
use Rattle.lease_book.specs.Account.{is_older}
use Rattle.lease_book.proofs.FirstLemmas.{any_found}
use Rattle.lease_book.proofs.lease_list.LeaseList.has_older.Goals as goal

pub returns : goal.returns
returns g c =
    c.is_some.ensures ∙ ap (λ o. is_some o) (c.first_older.ensures ∙ ap (position (is_older c.args.incarnation)) (c.deref.ensures.value ∙ c.self.view_is))
    ∙ any_found (is_older c.args.incarnation) c.args.self.now
