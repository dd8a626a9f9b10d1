use Rattle.std.proofs.Common.{[], subst, sym}
use Rattle.sorted_rows.specs.Order.{FirstIs}
use Rattle.sorted_rows.specs.Tops.{IsTop}
use Rattle.sorted_rows.proofs.HeadLemmas.{heads_push}
use Rattle.sorted_rows.proofs.WeightLemmas.{greatest_none}
use Rattle.sorted_rows.proofs.headed.HeadedRows.push.Goals as goal

pub invariant_of-self : goal.invariant_of-self
invariant_of-self g c =
    let rank = g.T.RowEntry.rank in
    let weight = g.T.RowEntry.weight c.self.inside.measure in
    let rows = c.self.inside.rows.items in
    let first : FirstIs rank c.first.result [] = subst (FirstIs rank c.first.result) c.requires.empty c.first.ensures in
    let top : IsTop weight 0 [] = λ told. sym (greatest_none weight) in
    rw (c.push_reserved.ensures.items, c.push_reserved-2.ensures.items, c.push_reserved-3.ensures.items, c.requires.empty) (heads_push (FirstIs rank) c.self.inside.firsts.items rows c.first.result [] c.self.invariant.0 first, heads_push (IsTop weight) c.self.inside.tops.items rows 0 [] c.self.invariant.1 top)
