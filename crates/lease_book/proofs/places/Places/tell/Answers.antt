use Rattle.std.proofs.Common.{◌≡◌, ◌+◌, ◌<◌, ◌++◌, ◌∷◌, [], List, length, get_or, map, take, Option, Some, None, sym, ◌∙◌, ap, subst, arith, vec_len, vec_capacity}
use Rattle.std.proofs.lemmas.List.{append-nil, length-append}
use Rattle.std.specs.Prelude.{option_to_list}
use Rattle.lease_book.specs.Account.{Lease}
use Rattle.lease_book.specs.Places.{PlaceState, leases_in}
use Rattle.lease_book.specs.Reports.{lease_report}
use Rattle.lease_book.proofs.LeasesIn.{leases_in_more, leases_in_few, told_more}
use Rattle.lease_book.proofs.places.Places.tell.Goals.{in-Some, in_default}
use Rattle.lease_book.proofs.places.Places.tell.Goals as goal

pub push_reserved-requires : goal.push_reserved-requires
push_reserved-requires g c =
    let ps = c.args.self.now.places in
    let i = c.loop-place.place-index in
    let same : c.deref-place-items.result.now ≡ ps = c.deref-place-items.ensures.value ∙ ap (λ s. s.places) c.self.view_is in
    let lease : c.place-item.result.lease ≡ Some c.in-Some.held = ap (λ (p : PlaceState). p.lease) (sym c.place.view_is) ∙ c.in-Some.is in
    let within : i < length ps = subst (λ (xs : List PlaceState). i < length xs) same c.loop-place-test.true in
    let more = leases_in_more ps i c.place-item.result within (c.place-item.is ∙ ap (λ xs. get_or xs i c.place-item.result) same) in
    let count = ap length more ∙ length-append (leases_in (take i ps)) (option_to_list c.place-item.result.lease) ∙ ap (λ (o : Option Lease). length (leases_in (take i ps)) + length (option_to_list o)) lease in
    let few = leases_in_few ps (i + 1) in
    let len = c.loop-place.invariant.len in
    let capacity = c.loop-place.invariant.capacity in
    let room = c.requires in
    omega arith

pub loop-place-preserved : goal.loop-place-preserved
loop-place-preserved g c =
    let ps = c.args.self.now.places in
    let i = c.loop-place.place-index in
    let same : c.deref-place-items.result.now ≡ ps = c.deref-place-items.ensures.value ∙ ap (λ s. s.places) c.self.view_is in
    let within : i < length ps = subst (λ (xs : List PlaceState). i < length xs) same c.loop-place-test.true in
    let more = leases_in_more ps i c.place-item.result within (c.place-item.is ∙ ap (λ xs. get_or xs i c.place-item.result) same) in
    let now = leases_in (take i ps) in
    elim c.match-place.branch [
      | in-Some w ↦
          let held = w.in-Some.held in
          let lease : c.place-item.result.lease ≡ Some held = ap (λ (p : PlaceState). p.lease) (sym c.place.view_is) ∙ w.in-Some.is in
          let next : leases_in (take (i + 1) ps) ≡ now ++ held ∷ [] = more ∙ ap (λ (o : Option Lease). now ++ option_to_list o) lease in
          record {
            leases = ap (λ o. o.items) w.out-is ∙ w.push_reserved.ensures.items
                ∙ told_more lease_report c.args.out.now.items c.loop-place.out.items now held w.report.result c.loop-place.invariant.leases w.report.ensures
                ∙ ap (λ (ls : List Lease). c.args.out.now.items ++ map lease_report ls) (sym next);
            len = let count = ap length next ∙ length-append now (held ∷ []) in
                let before = c.loop-place.invariant.len in
                let pushed = ap (λ o. vec_len o) w.out-is ∙ w.push_reserved.ensures.len in omega arith;
            capacity = ap (λ o. vec_capacity o) w.out-is ∙ w.push_reserved.ensures.capacity ∙ c.loop-place.invariant.capacity;
          }
      | in_default w ↦
          let lease : c.place-item.result.lease ≡ None = ap (λ (p : PlaceState). p.lease) (sym c.place.view_is) ∙ w.in_default.is in
          let next : leases_in (take (i + 1) ps) ≡ now = more ∙ ap (λ (o : Option Lease). now ++ option_to_list o) lease ∙ append-nil now in
          let same_out = w.out-is in
          record {
            leases = ap (λ o. o.items) same_out ∙ c.loop-place.invariant.leases ∙ ap (λ (ls : List Lease). c.args.out.now.items ++ map lease_report ls) (sym next);
            len = ap (λ o. vec_len o) same_out ∙ c.loop-place.invariant.len ∙ ap (λ (ls : List Lease). vec_len c.args.out.now + length ls) (sym next);
            capacity = ap (λ o. vec_capacity o) same_out ∙ c.loop-place.invariant.capacity;
          }
    ]
