use Rattle.std.proofs.Common.{◌≡◌, ◌<◌, ℕ, length, Option, Some, position, slice_get, refl, sym, ap, subst, ◌∙◌, arith}
use Rattle.std.specs.List.{find}
use Rattle.std.proofs.lemmas.List.{length-set}
use Rattle.std.proofs.lemmas.Option.{slice_get_read}
use Rattle.lease_book.specs.Account.{Lease, without_first}
use Rattle.lease_book.specs.Places.{PlaceState, PlacesState, holds, is_asked, leases_in}
use Rattle.lease_book.proofs.EmptyPlaces.{empty_take}
use Rattle.lease_book.proofs.PlaceLemmas.{position-none}
use Rattle.lease_book.proofs.PlacesLemmas.{IsTaken, taken, none_in, emptied, not_none, set_same, chained_take, chained_leave}
use Rattle.lease_book.proofs.places.Places.take.Given as given
use Rattle.lease_book.proofs.places.Places.take.Goals as goal
use Rattle.lease_book.proofs.places.Places.take.Goals.{then-end-at, else-end-at, After-place}

-- the search changes no place and no chain
was : (g : given.Over) (c : After-place g) → record { places = c.self.inside.places.items; ends = c.self.inside.ends.items } ≡ c.args.self.now
was g c = c.self.view_is ∙ c.in_ok-at.ensures.unchanged

first : (g : given.Over) (c : After-place g) → IsTaken (is_asked c.args.which.now) c.self.inside.places.items c.in_ok-at.at c.index_mut-place.result.now
first g c =
    let at : position (λ (p : PlaceState). holds (is_asked c.args.which.now) p.lease) c.self.inside.places.items ≡ Some c.in_ok-at.at =
    subst (λ (s : PlacesState). position (λ (p : PlaceState). holds (is_asked c.args.which.now) p.lease) s.places ≡ Some c.in_ok-at.at) (sym (was g c)) (sym c.in_ok-at.ensures.value) in
    taken (is_asked c.args.which.now) c.self.inside.places.items c.in_ok-at.at c.index_mut-place.result.now at c.index_mut-place.ensures.value

pub returns-in_err-at-clause-lease : goal.returns-in_err-at-clause-lease
returns-in_err-at-clause-lease g c = (none_in (is_asked c.args.which.now) c.args.self.now.places (position-none _ _ (sym c.in_err-at.ensures.value))).0 ∙ sym c.from_residual.ensures

pub returns-in_err-at-clause-rest : goal.returns-in_err-at-clause-rest
returns-in_err-at-clause-rest g c = ap (λ (s : PlacesState). leases_in s.places) c.in_err-at.ensures.unchanged ∙ sym (none_in (is_asked c.args.which.now) c.args.self.now.places (position-none _ _ (sym c.in_err-at.ensures.value))).1

pub index_mut-end-requires : goal.index_mut-end-requires
index_mut-end-requires g c =
    let at = (goal.at.index_mut-end-requires g c).After-place in
    let low = c.self.invariant.0.within c.in_ok-at.at c.index_mut-place.result.now (first g at).stands in
    let here : c.place.inside.chain ≡ c.index_mut-place.result.now.chain = ap (λ (p : PlaceState). p.chain) c.place.view_is in
    omega (arith, low, here, c.self.inside.ends.ok.0)

gone : (g : given.Over) (c : goal.Joined-end-at g) → record { lease = c.take-held.new.self; chain = c.place.inside.chain; before = c.place.inside.before } ≡ emptied c.index_mut-place.result.now
gone g c = ap (λ (o : Option Lease). let p : PlaceState = record { lease = o; chain = c.place.inside.chain; before = c.place.inside.before } in p) c.take-held.ensures.after ∙ ap (λ (p : PlaceState). emptied p) c.place.view_is

pub invariant_of-self : goal.invariant_of-self
invariant_of-self g c =
    let at = (goal.at.invariant_of-self g c).After-place in
    let j = c.self.invariant in
    let p : PlaceState = c.index_mut-place.result.now in
    let stands : slice_get c.self.inside.places.items c.in_ok-at.at ≡ Some p = (first g at).stands in
    let low = j.0.within c.in_ok-at.at p stands in
    let here : c.place.inside.chain ≡ p.chain = ap (λ (p : PlaceState). p.chain) c.place.view_is in
    let ahead : c.place.inside.before ≡ p.before = ap (λ (p : PlaceState). p.before) c.place.view_is in
    let within : c.place.inside.chain < length c.self.inside.ends.items = omega (arith, low, here) in
    let last : slice_get c.self.inside.ends.items c.place.inside.chain ≡ Some c.index_mut-end.result.now = slice_get_read c.self.inside.ends.items _ c.place.inside.chain c.index_mut-end.result.now refl within c.index_mut-end.ensures.value in
    let still = empty_take c.self.inside.empty c.self.inside.places.items c.in_ok-at.at p j.2 in
    let many = length-set c.self.inside.places.items c.in_ok-at.at (emptied p) in
    elim c.if-end-at.branch [
      | then-end-at w ↦
          let same = length-set c.self.inside.ends.items c.place.inside.chain w.min.result in
          rw w.self-inside-is (
            rw (gone g c) (rw w.min.ensures (rw here (rw ahead (chained_leave c.self.inside.places.items c.self.inside.ends.items c.in_ok-at.at p c.index_mut-end.result.now j.0 stands (subst (λ (n : ℕ). slice_get c.self.inside.ends.items n ≡ Some c.index_mut-end.result.now) here last) w.if-end-at.true)))),
            rw (gone g c) (rw many j.1),
            rw (gone g c) still,
            rw same j.3,
            rw same j.4,
          )
      | else-end-at w ↦
          let same = set_same c.self.inside.ends.items c.place.inside.chain c.index_mut-end.result.now last in
          rw w.self-inside-is (rw (gone g c) (rw same (chained_take c.self.inside.places.items c.self.inside.ends.items c.in_ok-at.at p j.0 stands)), rw (gone g c) (rw many j.1), rw (gone g c) still, rw same j.3, rw same j.4)
    ]

pub returns-clause-lease : goal.returns-clause-lease
returns-clause-lease g c =
    let at = (goal.at.returns-clause-lease g c).After-place in
    ap (λ (s : PlacesState). find (is_asked c.args.which.now) (leases_in s.places)) (sym (was g at))
    ∙ (first g at).lease ∙ ap (λ (p : PlaceState). p.lease) (sym c.place.view_is) ∙ sym c.take-held.ensures.value

pub returns-clause-rest : goal.returns-clause-rest
returns-clause-rest g c =
    let at = (goal.at.returns-clause-rest g c).After-place in
    let rest = (first g at).rest ∙ ap (λ (s : PlacesState). without_first (is_asked c.args.which.now) (leases_in s.places)) (was g at) in
    elim c.if-end-at.branch [
      | then-end-at w ↦ rw w.self-inside-is (rw (gone g c) rest)
      | else-end-at w ↦ rw w.self-inside-is (rw (gone g c) rest)
    ]

pub returns-clause-unchanged : goal.returns-clause-unchanged
returns-clause-unchanged g c =
    let at = (goal.at.returns-clause-unchanged g c).After-place in
    let is : c.take-held.result ≡ c.index_mut-place.result.now.lease = c.take-held.ensures.value ∙ ap (λ (p : PlaceState). p.lease) c.place.view_is in
    not_none (is_asked c.args.which.now) c.take-held.result _ (ap (holds (is_asked c.args.which.now)) is ∙ (first g at).passes)
