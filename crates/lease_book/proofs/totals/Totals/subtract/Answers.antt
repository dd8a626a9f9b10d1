use Rattle.std.proofs.Common.{◌≡◌, ◌-◌, ◌+◌, ◌≤◌, List, Some, None, position, sym, ap, subst, ◌∙◌, arith}
use Rattle.std.proofs.Math.ListN.{set}
use Rattle.lease_book.specs.Totals.{total_of, CountMore}
use Rattle.lease_book.specs.declared.totals.Total.{Total}
use Rattle.lease_book.proofs.TotalLemmas.{is_of, its_total, no_total, total_less, none_more}
use Rattle.lease_book.proofs.totals.Totals.subtract.Goals as goal

pub overflow_sub-index_mut : goal.overflow_sub-index_mut
overflow_sub-index_mut c =
    let ts : List Total = c.self.inside.each.items in
    let found : Some c.in-Some.at ≡ position (is_of c.args.arena) ts = sym c.in-Some.is ∙ c.place_of.ensures ∙ ap (position (is_of c.args.arena)) c.deref.ensures.value in
    let some : c.args.units ≤ total_of c.args.arena ts = subst (λ (xs : List Total). c.args.units ≤ total_of c.args.arena xs) (sym c.self.view_is) c.requires in
    omega (arith, some, its_total c.args.arena ts c.in-Some.at c.index_mut.result.now found c.index_mut.ensures.value)

pub returns-in-Some : goal.returns-in-Some
returns-in-Some c other =
    let ts : List Total = c.self.inside.each.items in
    let found : Some c.in-Some.at ≡ position (is_of c.args.arena) ts = sym c.in-Some.is ∙ c.place_of.ensures ∙ ap (position (is_of c.args.arena)) c.deref.ensures.value in
    let some : c.args.units ≤ c.index_mut.result.now.units =
    omega (arith, subst (λ (xs : List Total). c.args.units ≤ total_of c.args.arena xs) (sym c.self.view_is) c.requires, its_total c.args.arena ts c.in-Some.at c.index_mut.result.now found c.index_mut.ensures.value) in
    let whole : (c.index_mut.result.now.units - c.args.units) + c.args.units ≡ c.index_mut.result.now.units = omega arith in
    subst (λ (xs : List Total). CountMore c.args.arena c.args.units xs (set ts c.in-Some.at (record { arena = c.index_mut.result.now.arena; units = c.index_mut.result.now.units - c.args.units }))) c.self.view_is
    (total_less c.args.arena ts c.in-Some.at c.index_mut.result.now found c.index_mut.ensures.value (c.index_mut.result.now.units - c.args.units) c.args.units whole) other

pub returns-in_default : goal.returns-in_default
returns-in_default c =
    let ts : List Total = c.self.inside.each.items in
    let none : None ≡ position (is_of c.args.arena) ts = sym c.in_default.is ∙ c.place_of.ensures ∙ ap (position (is_of c.args.arena)) c.deref.ensures.value in
    let zero : total_of c.args.arena c.args.self.now ≡ 0 = ap (total_of c.args.arena) (sym c.self.view_is) ∙ no_total c.args.arena ts none in
    none_more c.args.arena c.args.units c.args.self.now (omega (arith, zero, c.requires))
