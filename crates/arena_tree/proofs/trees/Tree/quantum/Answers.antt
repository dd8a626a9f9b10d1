use Rattle.deed_core.proofs.LawProofs.{power_some}
use Rattle.arena_tree.proofs.Amounts.{arena_read}
use Rattle.arena_tree.proofs.trees.Tree.quantum.Goals as goal

pub returns-clause-value : goal.returns-clause-value
returns-clause-value c = (arena_read c.args.self.now c.args.id c.arena.result.now c.arena.ensures.here).0

pub returns-clause-some : goal.returns-clause-some
returns-clause-some c = power_some c.arena.result.now.quantum c.arena.ensures.arena.power
