use Rattle.std.proofs.Common.{◌≡◌, ◌-◌, ◌^◌, ◌+◌, min, take, ap, ◌∙◌}
use Rattle.std.proofs.lemmas.List.{take_all}
use Rattle.deed_core.specs.Covering.{units_tagged}
use Rattle.stock.specs.OwnCaches.{own_rounds, all_own_rounds}
use Rattle.local_parts.proofs.Rows.{row_more, capped}
use Rattle.local_parts.proofs.cpu_caches.ArenaCaches.units.Goals as goal

pub loop-own-preserved : goal.loop-own-preserved
loop-own-preserved g c =
    let row = c.deref-own-items.result.now in
    let more = row_more row c.loop-own.own-index c.own-item.result c.loop-own-test.true c.own-item.is in
    capped (2 ^ 128 - 1) c.loop-own.total (units_tagged (all_own_rounds (take c.loop-own.own-index row))) (units_tagged (own_rounds c.own-item.result)) c.saturating_add-total.result _
    c.loop-own.invariant more (c.saturating_add-total.ensures ∙ ap (λ n. min (c.loop-own.total + n) (2 ^ 128 - 1)) c.units.ensures)

pub returns : goal.returns
returns g c =
    let row = c.deref-own-items.result.now in
    let whole : take c.loop-own.own-index row ≡ row = take_all c.loop-own.own-index row c.loop-own-test.false in
    c.loop-own.invariant ∙ ap (λ xs. min (units_tagged (all_own_rounds xs)) (2 ^ 128 - 1)) (whole ∙ (c.deref-own-items.ensures.value ∙ c.self.view_is))
