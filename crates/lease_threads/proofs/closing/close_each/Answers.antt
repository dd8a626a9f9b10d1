use Rattle.std.proofs.Common.{ap, arith, length}
use Rattle.lease_threads.proofs.Gathered.{closed_all}
use Rattle.lease_threads.proofs.closing.close_each.Goals as goal

pub returns-clause-all : goal.returns-clause-all
returns-clause-all g c =
    let tree = ap length c.tree.ensures in
    (closed_all c.loop-id.system.roots c.loop-id.id (omega (arith, tree, c.check.ensures, c.loop-id.invariant.count, c.loop-id-test.false, c.len-id-end.ensures.value)) c.loop-id.invariant.closed, c.loop-id.invariant.hand)
