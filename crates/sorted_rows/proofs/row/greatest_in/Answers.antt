use Rattle.std.proofs.Common.{length, ap, ◌∙◌, sym, arith}
use Rattle.std.proofs.lemmas.List.{drop_all}
use Rattle.sorted_rows.specs.Weights.{greatest_weight}
use Rattle.sorted_rows.proofs.WeightLemmas.{greatest_before, greatest_none, greatest_met}
use Rattle.sorted_rows.proofs.row.greatest_in.Goals as goal

pub loop-at-init : goal.loop-at-init
loop-at-init g c = record {
  within = omega arith;
  top = sym (ap (greatest_weight (g.T.RowEntry.weight c.args.measure)) (drop_all (length c.args.items.now) c.args.items.now (omega arith)) ∙ greatest_none (g.T.RowEntry.weight c.args.measure));
}

pub loop-at-preserved-then-weight-top : goal.loop-at-preserved-then-weight-top
loop-at-preserved-then-weight-top g c =
    let step = greatest_before (g.T.RowEntry.weight c.args.measure) c.args.items.now c.loop-at.at c.index-items-at.result c.loop-at.top (omega arith) c.loop-at.invariant.within c.index-items-at.is c.loop-at.invariant.top in
    record { within = omega arith; top = omega (arith, step, c.weight-weight.ensures) }

pub loop-at-preserved : goal.loop-at-preserved
loop-at-preserved g c =
    let step = greatest_before (g.T.RowEntry.weight c.args.measure) c.args.items.now c.loop-at.at c.index-items-at.result c.loop-at.top (omega arith) c.loop-at.invariant.within c.index-items-at.is c.loop-at.invariant.top in
    record { within = omega arith; top = omega (arith, step, c.weight-weight.ensures) }

pub returns-then-weight-most : goal.returns-then-weight-most
returns-then-weight-most g c = greatest_met (g.T.RowEntry.weight c.args.measure) c.args.items.now _ c.index-items-at.result c.weight-weight.result (omega arith) c.index-items-at.is c.weight-weight.ensures (omega (arith, c.requires))
