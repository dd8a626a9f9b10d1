use Rattle.std.proofs.Common.{◌≡◌, ◌+◌, ◌^◌, ◌<◌, List, ◌∷◌, [], ◌++◌, Some, None, position, refl, sym, ap, subst, ◌∙◌, arith}
use Rattle.std.proofs.Math.ListN.{set}
use Rattle.lease_book.specs.Totals.{total_of, CountMore}
use Rattle.lease_book.specs.declared.totals.Total.{Total}
use Rattle.lease_book.proofs.TotalLemmas.{is_of, its_total, total_more, total_new}
use Rattle.lease_book.proofs.totals.Totals.add.Goals as goal

pub overflow_add-index_mut : goal.overflow_add-index_mut
overflow_add-index_mut c =
    let ts : List Total = c.self.inside.each.items in
    let found : Some c.in-Some.at ≡ position (is_of c.args.arena) ts = sym c.in-Some.is ∙ c.place_of.ensures ∙ ap (position (is_of c.args.arena)) c.deref.ensures.value in
    let room : total_of c.args.arena ts + c.args.units < 2 ^ 128 = subst (λ (xs : List Total). total_of c.args.arena xs + c.args.units < 2 ^ 128) (sym c.self.view_is) c.requires in
    omega (arith, room, its_total c.args.arena ts c.in-Some.at c.index_mut.result.now found c.index_mut.ensures.value)

pub returns-in-Some-clause-ok : goal.returns-in-Some-clause-ok
returns-in-Some-clause-ok c other =
    let ts : List Total = c.self.inside.each.items in
    let found : Some c.in-Some.at ≡ position (is_of c.args.arena) ts = sym c.in-Some.is ∙ c.place_of.ensures ∙ ap (position (is_of c.args.arena)) c.deref.ensures.value in
    subst (λ (xs : List Total). CountMore c.args.arena c.args.units (set ts c.in-Some.at (record { arena = c.index_mut.result.now.arena; units = c.index_mut.result.now.units + c.args.units })) xs) c.self.view_is
    (total_more c.args.arena ts c.in-Some.at c.index_mut.result.now found c.index_mut.ensures.value (c.index_mut.result.now.units + c.args.units) c.args.units refl) other

pub returns-in_ok-reserve-in-None-clause-ok : goal.returns-in_ok-reserve-in-None-clause-ok
returns-in_ok-reserve-in-None-clause-ok c other =
    let ts : List Total = c.self.inside.each.items in
    let none : None ≡ position (is_of c.args.arena) ts = sym c.in-None.is ∙ c.place_of.ensures ∙ ap (position (is_of c.args.arena)) c.deref.ensures.value in
    let items : c.push_reserved.new.self.items ≡ ts ++ record { arena = c.args.arena; units = c.args.units } ∷ [] =
    c.push_reserved.ensures.items ∙ ap (λ (xs : List Total). xs ++ record { arena = c.args.arena; units = c.args.units } ∷ []) c.reserve.ensures.items in
    ap (total_of other) items ∙ subst (λ (xs : List Total). CountMore c.args.arena c.args.units (ts ++ record { arena = c.args.arena; units = c.args.units } ∷ []) xs) c.self.view_is (total_new c.args.arena ts none c.args.units) other
