use Rattle.std.proofs.Common.{ap, ◌∙◌}
use Rattle.lease_book.specs.BookState.{segments_of_accounts}
use Rattle.lease_book.proofs.WeightLemmas.{all_empty}
use Rattle.lease_book.proofs.accounts.Accounts.close.Goals as goal

pub close_all-requires : goal.close_all-requires
close_all-requires g c = all_empty _ _ c.self.invariant.shelf.together (ap segments_of_accounts c.self.view_is ∙ c.requires)
