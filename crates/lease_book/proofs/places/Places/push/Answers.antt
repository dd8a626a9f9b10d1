use Rattle.std.proofs.Common.{◌≡◌, ℕ, ◌+◌, ◌*◌, ◌<◌, List, [], ◌∷◌, ◌++◌, length, refl, sym, ap, subst, ◌∙◌, arith}
use Rattle.std.proofs.lemmas.List.Elements.{filter_map-append}
use Rattle.std.proofs.lemmas.List.{length-append, length-set}
use Rattle.std.proofs.lemmas.Option.{slice_get_read}
use Rattle.lease_book.specs.declared.places.TheConstants.{CHAINS_EACH}
use Rattle.lease_book.specs.Places.{PlaceState, PlacesState, leases_in, chain_of}
use Rattle.lease_book.proofs.EmptyPlaces.{empty_push}
use Rattle.lease_book.proofs.PlacesLemmas.{chained_push}
use Rattle.lease_book.proofs.places.Places.push.Goals as goal

pub invariant_of-self : goal.invariant_of-self
invariant_of-self g c =
    let j = c.self.invariant in
    let room : CHAINS_EACH * length c.self.inside.places.items < length c.self.inside.ends.items =
    subst (λ (s : PlacesState). CHAINS_EACH * length s.places < length s.ends) (sym c.self.view_is) c.requires in
    let many : c.len.result ≡ length c.self.inside.ends.items = c.len.ensures ∙ c.self.inside.ends.ok.0 in
    let below : c.chain_of-chain.result < c.len.result = c.chain_of-chain.ensures.within (omega (arith, room, many)) in
    let within : c.chain_of-chain.result < length c.self.inside.ends.items = omega (arith, below, many) in
    let is : c.chain_of-chain.result ≡ chain_of c.args.held.segment.holding.range.base (length c.self.inside.ends.items) =
    c.chain_of-chain.ensures.value ∙ ap (λ (b : ℕ). chain_of b c.len.result) c.base.ensures ∙ ap (λ (n : ℕ). chain_of c.args.held.segment.holding.range.base n) many in
    let end = slice_get_read c.self.inside.ends.items _ c.chain_of-chain.result c.index.result.now refl within c.index.ensures in
    let next : c.len-2.result ≡ length c.self.inside.places.items + 1 = c.len-2.ensures ∙ c.push_reserved.ensures.len ∙ ap (λ (n : ℕ). n + 1) c.self.inside.places.ok.0 in
    let more : length c.push_reserved.new.self.items ≡ length c.self.inside.places.items + 1 = ap (λ (ps : List PlaceState). length ps) c.push_reserved.ensures.items ∙ length-append c.self.inside.places.items _ in
    let same = length-set c.self.inside.ends.items c.chain_of-chain.result c.len-2.result in (
      rw c.push_reserved.ensures.items (rw next (chained_push c.self.inside.places.items c.self.inside.ends.items c.chain_of-chain.result c.index.result.now c.args.held j.0 is end)),
      omega (arith, more, j.1),
      rw c.push_reserved.ensures.items (empty_push c.self.inside.empty c.self.inside.places.items _ j.1 j.2),
      rw same j.3,
      rw same (rw c.push_reserved.ensures.capacity j.4),
    )

pub returns-clause-leases : goal.returns-clause-leases
returns-clause-leases g c =
    let places : c.self.inside.places.items ≡ c.args.self.now.places = ap (λ (s : PlacesState). s.places) c.self.view_is in
    ap (λ (ps : List PlaceState). leases_in ps) c.push_reserved.ensures.items
    ∙ filter_map-append (λ (p : PlaceState). p.lease) c.self.inside.places.items _
    ∙ ap (λ (ps : List PlaceState). leases_in ps ++ c.args.held ∷ []) places
