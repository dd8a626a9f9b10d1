use Rattle.std.proofs.Common.{◌≡◌, ◌∙◌, Some, Ok, Err, IsOk, inl, inr, rules, sym}
use Rattle.std.specs.Prelude.{Result, slice_get}
use Rattle.deed_core.proofs.LawProofs.{read_is}
use Rattle.lease_threads.proofs.matching.close_by.Goals as goal

not_ok : {A E : Type 0} (r : Result A E) (e : E) → r ≡ Err e → IsOk r → ⊥
not_ok (Ok a) e is ok = absurd (cc)
not_ok (Err f) e is ok = search rules

pub returns-in_default-clause-odd : goal.returns-in_default-clause-odd
returns-in_default-clause-odd g c = inl (search rules)

pub returns-in-Err-clause-odd : goal.returns-in-Err-clause-odd
returns-in-Err-clause-odd g c =
    let at : slice_get c.args.roots.now.items c.in-Some.index ≡ Some c.in-Some.ensures.found.0 = search rules in
    let is = read_is c.args.roots.now.items c.in-Some.index c.remove-root.result c.in-Some.ensures.found.0 c.remove-root.ensures.value at in
    inr (c.in-Some.index, c.in-Some.ensures.found.0, at, search rules, λ same. not_ok c.close.result _ c.in-Err.is (c.close.ensures.whole.1 (sym same ∙ sym is)))
