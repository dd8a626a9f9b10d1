use Rattle.std.proofs.Common.{[], ◌∷◌, ◌++◌, ◌∙◌, ap}
use Rattle.arena_tree.proofs.TreeLemmas.{put_keeps}
use Rattle.arena_tree.proofs.trees.Tree.put.Goals as goal

pub invariant_of-self-2 : goal.invariant_of-self-2
invariant_of-self-2 c =
    put_keeps c.args.self.now c.self.inside.arenas.items c.push_reserved.new.self.items c.self.inside.chains.items c.push_reserved-2.new.self.items c.args.arena c.args.chain c.self.view_is c.self.invariant c.requires.few c.requires.name c.requires.arena c.requires.chain
    (c.push_reserved.ensures.items ∙ ap (λ xs. xs ++ c.args.arena ∷ []) c.reserve.ensures.items)
    (c.push_reserved-2.ensures.items ∙ ap (λ xs. xs ++ c.args.chain ∷ []) c.reserve-2.ensures.items)
