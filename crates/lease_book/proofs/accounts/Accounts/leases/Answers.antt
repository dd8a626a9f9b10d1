use Rattle.std.proofs.Common.{◌≡◌, ◌<◌, length, subst, slice_get, List, IfSome, arith}
use Rattle.lease_book.specs.Account.{Account}
use Rattle.lease_book.proofs.ShelfLemmas.{within_parts, leases_at, limited_at}
use Rattle.lease_book.proofs.accounts.Accounts.leases.Goals as goal

pub index-requires : goal.index-requires
index-requires g c =
    let within : c.args.index < length c.self.inside.leases.items = (within_parts _ _ _ _ c.self.view_is c.self.invariant.shelf.together c.requires).1 in
    omega arith

pub returns-clause-leases : goal.returns-clause-leases
returns-clause-leases g c =
    subst (λ (xs : List Account). IfSome (slice_get xs c.args.index) (λ a. a.leases ≡ c.index.result.now)) c.self.view_is
    (leases_at _ _ c.args.index _ c.self.invariant.shelf.together c.index.ensures)

pub returns-clause-limited : goal.returns-clause-limited
returns-clause-limited g c =
    let within : c.args.index < length c.self.inside.leases.items = (within_parts _ _ _ _ c.self.view_is c.self.invariant.shelf.together c.requires).1 in
    limited_at _ _ _ _ c.self.invariant.shelf within c.index.ensures
