use Rattle.std.proofs.Common.{ap, ◌∙◌, List}
use Rattle.lease_book.specs.Account.{Account}
use Rattle.lease_book.specs.Shelf.{update_at, with_standing}
use Rattle.lease_book.proofs.ShelfLemmas.{within_parts, write_standing, shelf_write}
use Rattle.lease_book.proofs.accounts.Accounts.write.Goals as goal

pub index_mut-requires : goal.index_mut-requires
index_mut-requires g c = (within_parts _ _ _ _ c.self.view_is c.self.invariant.shelf.together c.requires).0

pub invariant_of-self : goal.invariant_of-self
invariant_of-self g c = record {
  shelf = shelf_write c.self.inside.clients.entries c.self.inside.leases.items c.args.index c.args.standing c.self.invariant.shelf;
  before = c.self.invariant.before;
  counted = c.self.invariant.counted;
}

pub returns : goal.returns
returns g c =
    write_standing c.self.inside.clients.entries c.self.inside.leases.items c.args.index c.args.standing
    ∙ ap (λ (xs : List Account). update_at xs c.args.index (with_standing c.args.standing)) c.self.view_is
