use Rattle.std.proofs.Common.{ℕ, ◌∙◌, ap}
use Rattle.sorted_rows.specs.Layout.{RowsState}
use Rattle.slab_layer.proofs.BaseLemmas.{comes, goes, is_there, was_other, was_none, listed, unlisted}
use Rattle.slab_layer.proofs.bases.Bases.relist.Goals as goal

pub remove-requires : goal.remove-requires
remove-requires c =
    let place = c.requires.place in
    let was = was_other c.args.was_listed c.args.listed c.if-was_listed-listed.false c.if-listed.false in
    let is = ap (λ (r : RowsState ℕ). r.items) c.self.view_is ∙ listed c.args.was_listed c.args.base place.0 place.1 c.args.self.now.items was place.3 in
    rw (is, c.from.ensures) (record { present = is_there c.args.base place.0 place.1 })

pub returns-then-listed-clause-items : goal.returns-then-listed-clause-items
returns-then-listed-clause-items c = λ low high around is.
    let was = was_none c.args.was_listed c.args.listed c.if-was_listed-listed.false c.if-listed.true in
    let before = ap (λ (r : RowsState ℕ). r.items) c.self.view_is ∙ unlisted c.args.was_listed c.args.base low high c.args.self.now.items was is in
    rw c.if-listed.true (comes c.args.base low high c.self.inside.rows.items c.insert.new.self.items around before c.insert.ensures.items)

pub returns-else-listed-clause-items : goal.returns-else-listed-clause-items
returns-else-listed-clause-items c = λ low high around is.
    let was = was_other c.args.was_listed c.args.listed c.if-was_listed-listed.false c.if-listed.false in
    let before = ap (λ (r : RowsState ℕ). r.items) c.self.view_is ∙ listed c.args.was_listed c.args.base low high c.args.self.now.items was is in
    let left = rw c.from.ensures at c.remove.ensures.items in
    rw c.if-listed.false (goes c.args.base low high c.self.inside.rows.items c.remove.new.self.items around before left)
