use Rattle.std.proofs.Common.{◌≤◌, subst}
use Rattle.tag_arena.proofs.CellFinding.{none_below_next, none_at_all}
use Rattle.tag_arena.proofs.chained.by_each.Goals as goal

pub loop-at-preserved : goal.loop-at-preserved
loop-at-preserved c = none_below_next c.args.base c.loop-at.at c.args.cells.now c.loop-at.invariant (λ is. let not = c.if-begins_at.ensures.1 is in cc)

pub returns : goal.returns
returns c = none_at_all c.args.base c.loop-at.at c.args.cells.now c.loop-at.invariant (subst (λ n. n ≤ c.loop-at.at) c.len-at-end.ensures c.loop-at-test.false)
