use Rattle.std.proofs.Common.{◌<◌, ap, arith, length}
use Rattle.sorted_rows.specs.Order.{FirstIs}
use Rattle.sorted_rows.specs.Tops.{IsTop}
use Rattle.sorted_rows.specs.Weights.{greatest_weight}
use Rattle.sorted_rows.proofs.HeadLemmas.{head_at, heads_set, top_told}
use Rattle.sorted_rows.proofs.WeightLemmas.{greatest_insert}
use Rattle.sorted_rows.proofs.headed.HeadedRows.insert.Goals as goal

pub invariant_of-self : goal.invariant_of-self
invariant_of-self g c =
    let rank = g.T.RowEntry.rank in
    let weight = g.T.RowEntry.weight c.self.inside.measure in
    let firsts = c.self.inside.firsts.items in
    let tops = c.self.inside.tops.items in
    let rows = c.self.inside.rows.items in
    let row = c.index_mut-row.result.now in
    let top = c.index-top.result.now in
    let within : c.args.seat < length rows = omega (arith, c.requires.within, ap (λ v. length v.items) c.self.view_is) in
    let is : IsTop weight top row = head_at (IsTop weight) tops rows c.args.seat top row c.self.invariant.1 within c.index-top.ensures c.index_mut-row.ensures.value in
    let grown = greatest_insert weight row c.args.at c.args.entry in
    let new : IsTop weight c.after_insert.result c.insert.new.self = top_told weight top c.after_insert.result row c.insert.new.self is c.after_insert.ensures.untold (λ told was. let raised = c.after_insert.ensures.told told in omega (arith, was, grown, raised, ap (greatest_weight weight) c.insert.ensures)) in
    (heads_set (FirstIs rank) firsts rows c.args.seat c.first.result c.insert.new.self c.self.invariant.0 within c.first.ensures, heads_set (IsTop weight) tops rows c.args.seat c.after_insert.result c.insert.new.self c.self.invariant.1 within new)
