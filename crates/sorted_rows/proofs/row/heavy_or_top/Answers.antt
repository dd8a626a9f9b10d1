use Rattle.std.proofs.Common.{arith}
use Rattle.sorted_rows.proofs.WeightLemmas.{find_on, walk_on, walk_ended}
use Rattle.sorted_rows.proofs.row.heavy_or_top.Goals as goal

pub loop-at-preserved : goal.loop-at-preserved
loop-at-preserved g c =
    let step = walk_on (g.T.RowEntry.weight c.args.measure) c.args.items.now c.loop-at.at c.index-items-at.result _ c.loop-at.top (omega arith) c.index-items-at.is c.loop-at.invariant.top in
    let light = find_on (g.T.RowEntry.weight c.args.measure) c.args.least c.args.items.now c.loop-at.at c.index-items-at.result _ (omega arith) c.index-items-at.is (omega (arith, c.weight-weight.ensures, c.if-weight-least.false)) c.loop-at.invariant.found in
    record { found = light; top = omega (arith, step, c.greater-top.ensures, c.weight-weight.ensures) }

pub returns-clause-top : goal.returns-clause-top
returns-clause-top g c = walk_ended (g.T.RowEntry.weight c.args.measure) c.args.items.now c.loop-at.at _ c.loop-at.top (omega arith) c.loop-at.invariant.top
