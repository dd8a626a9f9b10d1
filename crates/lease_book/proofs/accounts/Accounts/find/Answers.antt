use Rattle.lease_book.proofs.ShelfLemmas.{place_of}
use Rattle.lease_book.proofs.accounts.Accounts.find.Goals as goal

pub returns-clause-within : goal.returns-clause-within
returns-clause-within g c =
    (place_of c.args.client _ _ _ _ c.self.view_is c.self.invariant.shelf.together c.get_index_of.ensures.index).within

pub returns-clause-found : goal.returns-clause-found
returns-clause-found g c =
    (place_of c.args.client _ _ _ _ c.self.view_is c.self.invariant.shelf.together c.get_index_of.ensures.index).found

pub returns-clause-none : goal.returns-clause-none
returns-clause-none g c =
    (place_of c.args.client _ _ _ _ c.self.view_is c.self.invariant.shelf.together c.get_index_of.ensures.index).none
