use Rattle.std.proofs.Common.{arith, ◌≡◌, ◌∙◌, ap, sym, refl, add-one, subst, ℕ, ◌+◌, List, ◌++◌, []}
use Rattle.std.specs.Prelude.{fold}
use Rattle.std.proofs.Math.Seq.{take-nil}
use Rattle.lease_watch.specs.declared.rows.LeaseRow.{LeaseRow}
use Rattle.lease_watch.specs.Rows.{IsInOrder, after_look, listed_of}
use Rattle.lease_watch.proofs.RowLemmas.{listed_all, listed_in_order}
use Rattle.lease_http.specs.Listing.{MayHaveEach}
use Rattle.lease_http.proofs.listing.list.Goals as goal

pub loop-place-init : goal.loop-place-init
loop-place-init g c = ([], refl, c.new-rows.ensures.items ∙ sym (take-nil c.args.query.now.count))

pub look_at_each-requires : goal.look_at_each-requires
look_at_each-requires g c = subst (IsInOrder c.args.query.now) (sym c.loop-place.invariant.2) (listed_in_order c.args.query.now c.loop-place.invariant.0)

pub loop-place-preserved : goal.loop-place-preserved
loop-place-preserved g c =
    let may_have = g.V.View.may_have c.args.view.now in
    let q = c.args.query.now in
    let all = c.loop-place.invariant.0 in
    let had = c.in_ok-leases_at.ensures in
    let more = had.0 in
    let told : c.as_slice.result.now ≡ more = c.as_slice.ensures.value ∙ had.2 ∙ ap (λ (old : List LeaseRow). old ++ more) c.clear.ensures.items in (
      all ++ more,
      subst (λ (n : ℕ). MayHaveEach may_have n (all ++ more)) (sym (add-one c.loop-place.place)) (all, more, c.loop-place.invariant.1, had.1, refl),
      c.in_ok-look_at_each.ensures
          ∙ ap (λ (rows : List LeaseRow). fold (after_look q) rows c.as_slice.result.now) c.loop-place.invariant.2
          ∙ ap (fold (after_look q) (listed_of q all)) told
          ∙ listed_all q all more,
    )

pub returns : goal.returns
returns g c =
    let may_have = g.V.View.may_have c.args.view.now in
    let all = c.loop-place.invariant.0 in
    let end : c.loop-place.place ≡ c.clients-place-end.result = omega arith in (
      c.clients-place-end.result,
      all,
      c.clients-place-end.ensures,
      subst (λ (n : ℕ). MayHaveEach may_have n all) end c.loop-place.invariant.1,
      c.loop-place.invariant.2,
    )
