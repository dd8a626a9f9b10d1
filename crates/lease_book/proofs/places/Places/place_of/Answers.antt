use Rattle.std.proofs.Common.{position, ap, ◌∙◌}
use Rattle.lease_book.specs.Account.{is_older}
use Rattle.lease_book.specs.Places.{PlaceState, PlacesState, holds}
use Rattle.lease_book.proofs.places.Places.place_of.Goals as goal

pub first_older-requires-clause-empty : goal.first_older-requires-clause-empty
first_older-requires-clause-empty g c = rw c.deref.ensures.value c.self.invariant.2

pub returns-in-Before-clause-value : goal.returns-in-Before-clause-value
returns-in-Before-clause-value g c =
    let places = c.deref.ensures.value ∙ ap (λ (s : PlacesState). s.places) (c.self.view_is ∙ c.first_held.ensures.unchanged) in
    rw c.in-Before.is (c.first_older.ensures ∙ ap (position (λ (p : PlaceState). holds (is_older c.in-Before.incarnation) p.lease)) places)
