use Rattle.std.proofs.Common.{rules, tests, ◌≡◌, ◌+◌, Option, is_some, position, refl, sym, ap, ◌∙◌}
use Rattle.std.proofs.lemmas.Iterator.{YieldsList-from_slice}
use Rattle.std.proofs.lemmas.Iterator.Search.{position_from_yields_List}
use Rattle.std.proofs.lemmas.List.{take_rest}
use Rattle.std.specs.Option.{option_map}
use Rattle.lease_book.specs.Account.{Lease}
use Rattle.lease_book.specs.Places.{PlaceState}
use Rattle.lease_book.proofs.EmptyPlaces.{lease_behind}
use Rattle.lease_book.proofs.places.first_held.Given as given
use Rattle.lease_book.proofs.places.first_held.Goals as goal
use Rattle.lease_book.proofs.places.first_held.Goals.{After-position}

-- the search begins behind the empty places
behind : (g : given.Over) (c : After-position g) → position (λ (p : PlaceState). is_some p.lease) c.args.places.now ≡ option_map (λ i. c.args.empty + i) c.position.result
behind g c =
    let rest = c.iter-rest.ensures.rest ∙ take_rest c.args.places.now c.args.empty in
    let found = position_from_yields_List (λ (p : PlaceState). is_some p.lease) _ _ c.position.result c.position.ensures.ran (YieldsList-from_slice _ rest) (λ x b q k. search (rules, tests)) in
    lease_behind (λ (o : Option Lease). is_some o) c.args.empty c.args.places.now refl c.requires.empty
    ∙ ap (option_map (λ i. c.args.empty + i)) (sym found)

pub returns-in_err-position : goal.returns-in_err-position
returns-in_err-position g c =
    let at = (goal.at.returns-in_err-position g c).After-position in
    c.from_residual.ensures ∙ sym (behind g at ∙ ap (option_map (λ i. c.args.empty + i)) c.in_err-position.was)

pub returns : goal.returns
returns g c =
    let at = (goal.at.returns g c).After-position in
    sym (behind g at ∙ ap (option_map (λ i. c.args.empty + i)) c.in_ok-position.was)
