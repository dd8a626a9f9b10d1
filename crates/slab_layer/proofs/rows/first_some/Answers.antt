use Rattle.std.proofs.Common.{is_some, false, arith, sym, ◌∙◌}
use Rattle.std.proofs.lemmas.List.{length-map}
use Rattle.slab_layer.proofs.RowLemmas.{some_at, more_places, all_places}
use Rattle.slab_layer.proofs.rows.first_some.Goals as goal

pub returns-then-is_some : goal.returns-then-is_some
returns-then-is_some g c = record {
  within = omega (arith, length-map c.args.row.now is_some);
  idle = some_at c.args.row.now c.loop-j.j c.index-row-j.result false c.loop-j-test.true c.index-row-j.is ∙ sym c.if-is_some.ensures;
  lowest = λ k before. c.loop-j.invariant k false before;
}

pub loop-j-preserved : goal.loop-j-preserved
loop-j-preserved g c = more_places c.args.row.now c.loop-j.j c.index-row-j.result false c.loop-j-test.true c.index-row-j.is (sym c.if-is_some.ensures) c.loop-j.invariant

pub returns : goal.returns
returns g c = all_places c.args.row.now c.loop-j.j false c.loop-j-test.false c.loop-j.invariant
