use Rattle.std.proofs.Common.{ℕ, sym, ◌∙◌, ap}
use Rattle.sorted_rows.specs.Layout.{RowsState}
use Rattle.slab_layer.proofs.BaseLemmas.{first_none, first_some}
use Rattle.slab_layer.proofs.bases.Bases.lowest.Goals as goal

pub returns-in_err-lowest : goal.returns-in_err-lowest
returns-in_err-lowest c =
    let none = first_none c.self.inside.rows.items (sym c.least_from.ensures ∙ c.in_err-lowest.was) in
    rw c.from_residual.ensures (sym (ap (λ (r : RowsState ℕ). r.items) c.self.view_is) ∙ none)

pub returns : goal.returns
returns c =
    let some = first_some c.self.inside.rows.items c.in_ok-lowest.lowest (sym c.least_from.ensures ∙ c.in_ok-lowest.was) in
    (some.0, rw c.lowest.view_is (sym (ap (λ (r : RowsState ℕ). r.items) c.self.view_is) ∙ some.1))
