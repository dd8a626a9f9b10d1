use Rattle.std.proofs.Common.{◌≡◌, List, Some, None, position, sym, ap, ◌∙◌}
use Rattle.lease_book.specs.Totals.{total_of}
use Rattle.lease_book.specs.declared.totals.Total.{Total}
use Rattle.lease_book.proofs.TotalLemmas.{is_of, its_total, no_total}
use Rattle.lease_book.proofs.totals.Totals.of.Goals as goal

pub returns-in-Some : goal.returns-in-Some
returns-in-Some c =
    let ts : List Total = c.self.inside.each.items in
    let found : Some c.in-Some.at ≡ position (is_of c.args.arena) ts = sym c.in-Some.is ∙ c.place_of.ensures ∙ ap (position (is_of c.args.arena)) c.deref.ensures.value in
    sym (its_total c.args.arena ts c.in-Some.at c.index.result.now found c.index.ensures) ∙ ap (total_of c.args.arena) c.self.view_is

pub returns-in-None : goal.returns-in-None
returns-in-None c =
    let ts : List Total = c.self.inside.each.items in
    let none : None ≡ position (is_of c.args.arena) ts = sym c.in-None.is ∙ c.place_of.ensures ∙ ap (position (is_of c.args.arena)) c.deref.ensures.value in
    sym (no_total c.args.arena ts none) ∙ ap (total_of c.args.arena) c.self.view_is
