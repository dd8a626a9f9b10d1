use Rattle.std.proofs.Common.{◌≡◌, Some, is_some, position, sym, ap, ◌∙◌}
use Rattle.lease_book.specs.Places.{PlaceState}
use Rattle.lease_book.proofs.EmptyPlaces.{before_first}
use Rattle.lease_book.proofs.places.Places.first_held.Goals as goal

pub first_held-requires-clause-empty : goal.first_held-requires-clause-empty
first_held-requires-clause-empty g c = rw c.deref.ensures.value c.self.invariant.2

pub invariant_of-self : goal.invariant_of-self
invariant_of-self g c =
    let j = c.self.invariant in
    let at : position (λ (p : PlaceState). is_some p.lease) c.self.inside.places.items ≡ Some c.in_ok-at.at =
    ap (position (λ (p : PlaceState). is_some p.lease)) (sym c.deref.ensures.value) ∙ sym c.first_held.ensures ∙ c.in_ok-at.was in
    let first = before_first c.self.inside.places.items c.in_ok-at.at at in
    (j.0, first.0, first.1, j.3, j.4)
