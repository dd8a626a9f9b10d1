use Rattle.std.proofs.Common.{◌≡◌, length, arith}
use Rattle.stock_tests.proofs.ClimbTrees.{same_nodes}
use Rattle.stock_tests.proofs.climbs.arrangements.is_set_up_as.Goals as goal

pub returns-then-count-len : goal.returns-then-count-len
returns-then-count-len g c = λ alike.
    let same : length c.args.stock.now ≡ length c.args.tree.now = omega (arith, c.count.ensures.value, c.len.ensures.value, c.if-count-len.true) in
    same_nodes c.args.stock.now c.args.tree.now same (λ k s x below. c.are_alike.ensures alike k s x (omega (arith, below, c.len-then-count-len.ensures.value)))
