use Rattle.std.proofs.Common.{List, Some, get_or, sym, ap, ◌∙◌}
use Rattle.std.specs.List.{remove}
use Rattle.std.proofs.lemmas.Option.{slice_get-get_or}
use Rattle.lease_book.specs.Account.{Lease}
use Rattle.lease_book.specs.Places.{is_asked}
use Rattle.lease_book.proofs.PlaceLemmas.{position-some}
use Rattle.lease_book.proofs.FirstLemmas.{first_of, none_of, without_none}
use Rattle.lease_book.proofs.lease_list.LeaseList.take.Goals as goal

pub returns-in_err-index-clause-lease : goal.returns-in_err-index-clause-lease
returns-in_err-index-clause-lease g c =
    none_of (is_asked c.args.which.now) c.args.self.now (sym c.index_of.ensures ∙ c.in_err-index.was) ∙ sym c.from_residual.ensures

pub returns-in_err-index-clause-rest : goal.returns-in_err-index-clause-rest
returns-in_err-index-clause-rest g c =
    let test = is_asked c.args.which.now in
    sym (without_none test c.args.self.now (none_of test c.args.self.now (sym c.index_of.ensures ∙ c.in_err-index.was)))

pub returns-clause-lease : goal.returns-clause-lease
returns-clause-lease g c =
    let first = first_of (is_asked c.args.which.now) c.args.self.now c.in_ok-index.index (sym c.index_of.ensures ∙ c.in_ok-index.was) in
    let within = (position-some (is_asked c.args.which.now) c.args.self.now c.in_ok-index.index (sym c.index_of.ensures ∙ c.in_ok-index.was)).1 in
    first.found ∙ slice_get-get_or c.args.self.now c.in_ok-index.index c.remove.result within ∙ ap Some (sym (c.remove.ensures.value ∙ ap (λ (xs : List Lease). get_or xs c.in_ok-index.index c.remove.result) c.self.view_is)) ∙ ap Some (sym c.into_held.ensures)

pub returns-clause-rest : goal.returns-clause-rest
returns-clause-rest g c =
    let first = first_of (is_asked c.args.which.now) c.args.self.now c.in_ok-index.index (sym c.index_of.ensures ∙ c.in_ok-index.was) in
    c.remove.ensures.items ∙ ap (λ (xs : List Lease). remove xs c.in_ok-index.index) c.self.view_is ∙ sym first.left
