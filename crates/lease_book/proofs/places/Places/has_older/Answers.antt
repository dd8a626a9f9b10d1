use Rattle.std.proofs.Common.{is_some, position, ap, ◌∙◌}
use Rattle.std.specs.List.{list_any}
use Rattle.lease_book.specs.Account.{is_older}
use Rattle.lease_book.specs.Places.{PlaceState, PlacesState, holds, leases_in}
use Rattle.lease_book.proofs.FirstLemmas.{any_found}
use Rattle.lease_book.proofs.LeasesIn.{any_held}
use Rattle.lease_book.proofs.places.Places.has_older.Goals as goal

pub first_older-requires-clause-empty : goal.first_older-requires-clause-empty
first_older-requires-clause-empty g c = rw c.deref.ensures.value c.self.invariant.2

pub returns : goal.returns
returns g c =
    let older = λ (p : PlaceState). holds (is_older c.args.incarnation) p.lease in
    c.is_some.ensures ∙ ap (λ o. is_some o) (c.first_older.ensures ∙ ap (position older) c.deref.ensures.value)
    ∙ any_found older c.self.inside.places.items ∙ any_held (is_older c.args.incarnation) c.self.inside.places.items
    ∙ ap (λ (s : PlacesState). list_any (is_older c.args.incarnation) (leases_in s.places)) c.self.view_is
