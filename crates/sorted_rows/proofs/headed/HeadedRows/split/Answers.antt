use Rattle.std.proofs.Common.{◌+◌, ◌<◌, refl, ap, arith, length}
use Rattle.sorted_rows.specs.Order.{FirstIs}
use Rattle.sorted_rows.specs.Tops.{IsTop}
use Rattle.sorted_rows.proofs.HeadLemmas.{head_at, heads_split, top_told}
use Rattle.sorted_rows.proofs.WeightLemmas.{less_taken, less_dropped}
use Rattle.sorted_rows.proofs.headed.HeadedRows.split.Goals as goal

pub lowered-requires : goal.lowered-requires
lowered-requires g c =
    let weight = g.T.RowEntry.weight c.self.inside.measure in
    let rows = c.self.inside.rows.items in
    let row = c.index_mut-low.result.now in
    let top = c.index-top.result.now in
    let within : c.args.seat < length rows = omega (arith, c.requires.within, ap (λ v. length v.items) c.self.view_is) in
    let is : IsTop weight top row = head_at (IsTop weight) c.self.inside.tops.items rows c.args.seat top row c.self.invariant.1 within c.index-top.ensures c.index_mut-low.ensures.value in
    record { most = λ told. rw c.split.ensures.low (less_taken weight row 32 top (is told)) }

pub lowered-requires-2 : goal.lowered-requires-2
lowered-requires-2 g c =
    let weight = g.T.RowEntry.weight c.self.inside.measure in
    let rows = c.self.inside.rows.items in
    let row = c.index_mut-low.result.now in
    let top = c.index-top.result.now in
    let within : c.args.seat < length rows = omega (arith, c.requires.within, ap (λ v. length v.items) c.self.view_is) in
    let is : IsTop weight top row = head_at (IsTop weight) c.self.inside.tops.items rows c.args.seat top row c.self.invariant.1 within c.index-top.ensures c.index_mut-low.ensures.value in
    record { most = λ told. rw c.split.ensures.high (less_dropped weight row 32 top (is told)) }

pub invariant_of-self : goal.invariant_of-self
invariant_of-self g c =
    let weight = g.T.RowEntry.weight c.self.inside.measure in
    let rows = c.self.inside.rows.items in
    let row = c.index_mut-low.result.now in
    let top = c.index-top.result.now in
    let within : c.args.seat < length rows = omega (arith, c.requires.within, ap (λ v. length v.items) c.self.view_is) in
    let is : IsTop weight top row = head_at (IsTop weight) c.self.inside.tops.items rows c.args.seat top row c.self.invariant.1 within c.index-top.ensures c.index_mut-low.ensures.value in
    let firsts = c.self.inside.firsts.items in
    let tops = c.self.inside.tops.items in
    let low : IsTop weight c.lowered.result c.split.new.self = top_told weight top c.lowered.result row c.split.new.self is c.lowered.ensures.untold (λ told was. c.lowered.ensures.told told) in
    let high : IsTop weight c.lowered-2.result c.split.new.high = top_told weight top c.lowered-2.result row c.split.new.high is c.lowered-2.ensures.untold (λ told was. c.lowered-2.ensures.told told) in
    rw (c.put_in.ensures.items, c.put_in-2.ensures.items, c.put_in-3.ensures.items) (heads_split (FirstIs g.T.RowEntry.rank) firsts rows c.args.seat (c.args.seat + 1) c.first.result c.first-2.result c.split.new.self c.split.new.high c.self.invariant.0 refl within c.first.ensures c.first-2.ensures, heads_split (IsTop weight) tops rows c.args.seat (c.args.seat + 1) c.lowered.result c.lowered-2.result c.split.new.self c.split.new.high c.self.invariant.1 refl within low high)
