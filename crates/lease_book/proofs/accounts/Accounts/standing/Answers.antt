use Rattle.std.proofs.Common.{slice_get, List, ap, sym, ◌∙◌}
use Rattle.std.specs.Option.{option_map}
use Rattle.lease_book.specs.Shelf.{standing_of}
use Rattle.lease_book.specs.Account.{Account}
use Rattle.lease_book.proofs.ShelfLemmas.{within_parts, standing_at}
use Rattle.lease_book.proofs.accounts.Accounts.standing.Goals as goal

pub index-requires : goal.index-requires
index-requires g c = (within_parts _ _ _ _ c.self.view_is c.self.invariant.shelf.together c.requires).0

pub returns : goal.returns
returns g c =
    ap (λ (xs : List Account). option_map standing_of (slice_get xs c.args.index)) (sym c.self.view_is)
    ∙ standing_at _ _ _ _ c.self.invariant.shelf.together c.index.ensures
