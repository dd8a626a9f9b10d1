use Rattle.std.proofs.Common.{◌+◌, ◌<◌, ◌≢◌, ap, arith, length}
use Rattle.std.proofs.lemmas.List.Edits.{length-remove}
use Rattle.sorted_rows.specs.Order.{FirstIs}
use Rattle.sorted_rows.specs.Tops.{Describes, IsTop}
use Rattle.sorted_rows.specs.Weights.{greatest_weight}
use Rattle.sorted_rows.specs.declared.tops.TheConstants.{UNTOLD}
use Rattle.sorted_rows.proofs.HeadLemmas.{head_at, heads_remove, heads_set}
use Rattle.sorted_rows.proofs.WeightLemmas.{greatest_append}
use Rattle.sorted_rows.proofs.headed.HeadedRows.join.Goals as goal

pub invariant_of-self : goal.invariant_of-self
invariant_of-self g c =
    let rank = g.T.RowEntry.rank in
    let weight = g.T.RowEntry.weight c.self.inside.measure in
    let firsts = c.self.inside.firsts.items in
    let tops = c.self.inside.tops.items in
    let rows = c.self.inside.rows.items in
    let seat = c.args.seat in
    let row = c.index_mut-row.result.now in
    let low = c.index-low.result.now in
    let high = c.remove-high.result in
    let next : seat + 1 < length rows = omega (arith, c.requires.within, ap (λ v. length v.items) c.self.view_is) in
    let fewer = length-remove rows (seat + 1) next in
    let left = c.remove-next.new.self.items in
    let lt : seat < length left = omega (arith, next, fewer, ap length c.remove-next.ensures.items) in
    let firsts_left : Describes (FirstIs rank) c.remove.new.self.items left = rw (c.remove.ensures.items, c.remove-next.ensures.items) (heads_remove (FirstIs rank) firsts rows (seat + 1) c.self.invariant.0 next) in
    let tops_left : Describes (IsTop weight) c.remove-high.new.self.items left = rw (c.remove-high.ensures.items, c.remove-next.ensures.items) (heads_remove (IsTop weight) tops rows (seat + 1) c.self.invariant.1 next) in
    let is_low : IsTop weight low row = head_at (IsTop weight) c.remove-high.new.self.items left seat low row tops_left lt c.index-low.ensures c.index_mut-row.ensures.value in
    let is_high : IsTop weight high c.remove-next.result = head_at (IsTop weight) tops rows (seat + 1) high c.remove-next.result c.self.invariant.1 next c.remove-high.ensures.value c.remove-next.ensures.value in
    let both = greatest_append weight row c.remove-next.result in
    let new : IsTop weight c.joined.result c.join.new.self = λ told.
    let told_low : low ≢ UNTOLD = λ e. told (c.joined.ensures.untold_low e) in
    let told_high : high ≢ UNTOLD = λ e. told (c.joined.ensures.untold_high e) in
    let more = c.joined.ensures.told told_low told_high in
    omega (arith, is_low told_low, is_high told_high, both, more, ap (greatest_weight weight) c.join.ensures.items)
    in
    (heads_set (FirstIs rank) c.remove.new.self.items left seat c.first.result c.join.new.self firsts_left lt c.first.ensures, heads_set (IsTop weight) c.remove-high.new.self.items left seat c.joined.result c.join.new.self tops_left lt new)
