use Rattle.std.proofs.Common.{◌≡◌, ℕ, ◌+◌, ◌-◌, ◌<◌, ◌≤◌, true, Option, Some, None, length, slice_get, List, min, refl, sym, ap, subst, ◌∙◌, arith}
use Rattle.std.proofs.lemmas.Bool.{ltb-true, ltb-false}
use Rattle.std.proofs.lemmas.Option.{slice_get_read}
use Rattle.lease_book.specs.Places.{PlaceState, PlacesState, IsChained, chain_of}
use Rattle.lease_book.proofs.PlacesLemmas.{Seeks, HoldsOn, is_sought, on_chain, seeks_from, seeks_nowhere, seeks_hit, seeks_miss, seeks_down, seeks_done}
use Rattle.lease_book.proofs.places.Places.position.Given as given
use Rattle.lease_book.proofs.places.Places.position.Goals as goal
use Rattle.lease_book.proofs.places.Places.position.Goals.{then-is_lease, else-is_lease, After-chain_of-chain, After-place}

chained : (g : given.Over) (c : After-chain_of-chain g) → IsChained c.args.self.now
chained g c = subst (λ (s : PlacesState). IsChained s) c.self.view_is c.self.invariant.0

on : (g : given.Over) (c : After-chain_of-chain g) (k : ℕ) (p : PlaceState) → slice_get c.args.self.now.places k ≡ Some p
    → is_sought c.args.id.incarnation c.args.arena c.args.base p ≡ true → HoldsOn c.chain_of-chain.result p
on g c k p stands pass =
    let many : c.len.result ≡ length c.args.self.now.ends = c.len.ensures ∙ c.self.inside.ends.ok.0 ∙ ap (λ (s : PlacesState). length s.ends) c.self.view_is in
    let is : c.chain_of-chain.result ≡ chain_of c.args.base (length c.args.self.now.ends) = cc in
    let o = on_chain c.args.self.now c.args.id.incarnation c.args.arena c.args.base (chained g c) k p stands pass in
    (o.0, o.1, o.2 ∙ sym is)

pub returns-in_err-end : goal.returns-in_err-end
returns-in_err-end g c =
    let past : length c.deref.result.now ≤ c.chain_of-chain.result = ltb-false _ _ (sym (c.in_err-end.ensures).lookup.0) in
    let many : length c.deref.result.now ≡ length c.args.self.now.ends = ap (λ (es : List ℕ). length es) c.deref.ensures.value ∙ ap (λ (s : PlacesState). length s.ends) c.self.view_is in
    let at = (goal.at.returns-in_err-end g c).After-chain_of-chain in
    c.from_residual.ensures ∙ seeks_done _ _ None (seeks_nowhere _ c.args.self.now c.chain_of-chain.result (chained g at) (on g at) (omega (arith, past, many)))

pub loop-end-init : goal.loop-end-init
loop-end-init g c =
    let at = (goal.at.loop-end-init g c).After-chain_of-chain in
    let ends : c.deref.result.now ≡ c.args.self.now.ends = c.deref.ensures.value ∙ ap (λ (s : PlacesState). s.ends) c.self.view_is in
    let within : c.chain_of-chain.result < length c.deref.result.now = ltb-true _ _ (sym (c.in_ok-end.ensures).lookup.0) in
    let stands = slice_get_read c.deref.result.now _ c.chain_of-chain.result c.in_ok-end.field-0.now refl within (c.in_ok-end.ensures).lookup.1 in
    let has : slice_get c.args.self.now.ends c.chain_of-chain.result ≡ Some c.in_ok-end.field-0.now = ap (λ (es : List ℕ). slice_get es c.chain_of-chain.result) (sym ends) ∙ stands in
    seeks_from _ c.args.self.now c.chain_of-chain.result c.in_ok-end.field-0.now (chained g at) (on g at) has

pub index-place-requires : goal.index-place-requires
index-place-requires g c =
    let many : length c.self.inside.places.items ≡ length c.args.self.now.places = ap (λ (s : PlacesState). length s.places) c.self.view_is in
    omega (arith, c.loop-end.invariant.within, c.self.inside.places.ok.0, many)

stands : (g : given.Over) (c : After-place g) → slice_get c.args.self.now.places (c.loop-end.end - 1) ≡ Some c.index-place.result.now
stands g c =
    let many : length c.self.inside.places.items ≡ length c.args.self.now.places = ap (λ (s : PlacesState). length s.places) c.self.view_is in
    let within : c.loop-end.end - 1 < length c.self.inside.places.items = omega (arith, c.loop-end.invariant.within, many, c.loop-end-test.true) in
    let here = slice_get_read c.self.inside.places.items _ (c.loop-end.end - 1) c.index-place.result.now refl within c.index-place.ensures in
    ap (λ (s : PlacesState). slice_get s.places (c.loop-end.end - 1)) (sym c.self.view_is) ∙ here

step : (g : given.Over) (c : After-place g) → Seeks (is_sought c.args.id.incarnation c.args.arena c.args.base) c.args.self.now.places (c.loop-end.end - 1) c.if-is_lease.found
step g c = elim c.if-is_lease.branch [
  | then-is_lease w ↦
      subst (λ (f : Option ℕ). Seeks (is_sought c.args.id.incarnation c.args.arena c.args.base) c.args.self.now.places (c.loop-end.end - 1) f) (sym w.found-is)
      (seeks_hit _ c.args.self.now.places (c.loop-end.end - 1) c.index-place.result.now (stands g c) (sym c.is_lease.ensures ∙ w.if-is_lease.true))
  | else-is_lease w ↦
      let end : c.loop-end.end ≡ c.loop-end.end - 1 + 1 = omega (arith, c.loop-end-test.true) in
      subst (λ (f : Option ℕ). Seeks (is_sought c.args.id.incarnation c.args.arena c.args.base) c.args.self.now.places (c.loop-end.end - 1) f) (sym w.found-is)
      (seeks_miss _ c.args.self.now.places (c.loop-end.end - 1) c.loop-end.found c.index-place.result.now (stands g c) (sym c.is_lease.ensures ∙ w.if-is_lease.false)
      (subst (λ (n : ℕ). Seeks (is_sought c.args.id.incarnation c.args.arena c.args.base) c.args.self.now.places n c.loop-end.found) end c.loop-end.invariant))
]

pub loop-end-preserved-then-place-chain : goal.loop-end-preserved-then-place-chain
loop-end-preserved-then-place-chain g c =
    let at = (goal.at.loop-end-preserved-then-place-chain g c).After-chain_of-chain in
    let here = (goal.at.loop-end-preserved-then-place-chain g c).After-place in
    let mine : c.index-place.result.now.chain ≡ c.chain_of-chain.result = ap (λ (p : PlaceState). p.chain) (sym c.place.view_is) ∙ c.if-place-chain.true in
    let end : min (c.loop-end.end - 1) c.index-place.result.now.before ≡ c.min-end.result = ap (λ (p : PlaceState). min (c.loop-end.end - 1) p.before) (sym c.place.view_is) ∙ sym c.min-end.ensures in
    subst (λ (n : ℕ). Seeks (is_sought c.args.id.incarnation c.args.arena c.args.base) c.args.self.now.places n c.if-is_lease.found) end
    (seeks_down _ c.args.self.now c.chain_of-chain.result (c.loop-end.end - 1) c.if-is_lease.found c.index-place.result.now (chained g at) (on g at) (stands g here) mine (step g here))

pub loop-end-preserved : goal.loop-end-preserved
loop-end-preserved g c = step g (goal.at.loop-end-preserved g c).After-place

pub returns : goal.returns
returns g c =
    let end : c.loop-end.end ≡ 0 = omega (arith, c.loop-end-test.false) in
    seeks_done _ c.args.self.now.places c.loop-end.found
    (subst (λ (n : ℕ). Seeks (is_sought c.args.id.incarnation c.args.arena c.args.base) c.args.self.now.places n c.loop-end.found) end c.loop-end.invariant)
