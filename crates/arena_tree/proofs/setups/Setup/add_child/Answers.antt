use Rattle.arena_tree.proofs.SetupLemmas.{child_answered}
use Rattle.arena_tree.proofs.setups.Setup.add_child.Goals as goal

pub invariant_of-self : goal.invariant_of-self
invariant_of-self c = child_answered c.self.inside.tree c.add_child.new.self c.args.child.now c.add_child.result c.self.inside.spans.items c.add_child.ensures.ok c.add_child.ensures.unchanged c.self.invariant
