use Rattle.std.proofs.Common.{[], ◌<◌, ◌∙◌, ap, arith, get_or, length}
use Rattle.std.proofs.lemmas.List.{get_or_default}
use Rattle.sorted_rows.specs.Order.{FirstIs}
use Rattle.sorted_rows.specs.Tops.{IsTop}
use Rattle.sorted_rows.proofs.HeadLemmas.{head_at, heads_set, top_told}
use Rattle.sorted_rows.proofs.WeightLemmas.{less_removed}
use Rattle.sorted_rows.proofs.headed.HeadedRows.remove.Goals as goal

pub after_remove-requires : goal.after_remove-requires
after_remove-requires g c =
    let weight = g.T.RowEntry.weight c.self.inside.measure in
    let rows = c.self.inside.rows.items in
    let row = c.index_mut-row.result.now in
    let top = c.index-top.result.now in
    let within : c.args.seat < length rows = omega (arith, c.requires.within, ap (λ v. length v.items) c.self.view_is) in
    let size = ap length (c.index_mut-row.ensures.value ∙ (get_or_default rows c.args.seat row [] within ∙ ap (λ v. get_or v.items c.args.seat []) c.self.view_is)) in
    let at : c.args.at < length row = omega (arith, size, c.requires.at) in
    let is : IsTop weight top row = head_at (IsTop weight) c.self.inside.tops.items rows c.args.seat top row c.self.invariant.1 within c.index-top.ensures c.index_mut-row.ensures.value in
    record { most = λ told. rw c.remove-entry.ensures.items (less_removed weight row c.args.at c.remove-entry.result top (is told) at) }

pub invariant_of-self : goal.invariant_of-self
invariant_of-self g c =
    let weight = g.T.RowEntry.weight c.self.inside.measure in
    let rows = c.self.inside.rows.items in
    let row = c.index_mut-row.result.now in
    let top = c.index-top.result.now in
    let within : c.args.seat < length rows = omega (arith, c.requires.within, ap (λ v. length v.items) c.self.view_is) in
    let size = ap length (c.index_mut-row.ensures.value ∙ (get_or_default rows c.args.seat row [] within ∙ ap (λ v. get_or v.items c.args.seat []) c.self.view_is)) in
    let at : c.args.at < length row = omega (arith, size, c.requires.at) in
    let is : IsTop weight top row = head_at (IsTop weight) c.self.inside.tops.items rows c.args.seat top row c.self.invariant.1 within c.index-top.ensures c.index_mut-row.ensures.value in
    let new : IsTop weight c.after_remove.result c.remove-entry.new.self = top_told weight top c.after_remove.result row c.remove-entry.new.self is c.after_remove.ensures.untold (λ told was. c.after_remove.ensures.told row c.args.at told was at (c.remove-entry.ensures.value c.remove-entry.result) c.remove-entry.ensures.items) in
    (heads_set (FirstIs g.T.RowEntry.rank) c.self.inside.firsts.items rows c.args.seat c.first.result c.remove-entry.new.self c.self.invariant.0 within c.first.ensures, heads_set (IsTop weight) c.self.inside.tops.items rows c.args.seat c.after_remove.result c.remove-entry.new.self c.self.invariant.1 within new)
