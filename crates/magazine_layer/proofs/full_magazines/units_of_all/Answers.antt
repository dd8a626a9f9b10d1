use Rattle.std.proofs.Common.{◌+◌, ◌<◌, min, take, length, arith, ap, ◌∙◌}
use Rattle.deed_core.specs.Covering.{units_tagged}
use Rattle.magazine_layer.specs.Depots.{all_rounds}
use Rattle.magazine_layer.proofs.Weighing.{all_rounds-more, capped}
use Rattle.magazine_layer.proofs.full_magazines.units_of_all.Goals as goal

pub loop-i-preserved : goal.loop-i-preserved
loop-i-preserved g c =
    let within : c.loop-i.i < length c.args.magazines.now.items = omega (arith, c.loop-i-test.true, c.len-i-end.ensures, c.args.magazines.now.ok.0) in
    let more = all_rounds-more (λ t. t.holding.range.len) c.args.magazines.now.items c.loop-i.i c.index.result.now within c.index.ensures in
    capped _ c.loop-i.total (units_tagged (all_rounds (take c.loop-i.i c.args.magazines.now.items))) (units_tagged c.index.result.now) c.saturating_add-total.result _
    c.loop-i.invariant more (c.saturating_add-total.ensures ∙ ap (λ n. min (c.loop-i.total + n) 340282366920938463463374607431768211455) c.units.ensures)
