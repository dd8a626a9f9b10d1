use Rattle.std.proofs.Common.{◌≡◌, [], ◌∷◌, ◌++◌, ◌∙◌, Option, IfSome, ap, subst}
use Rattle.deed_core.specs.Extent.{Extent}
use Rattle.arena_tree.proofs.SetupLemmas.{root_answered}
use Rattle.arena_tree.specs.Setups.{root_range}
use Rattle.arena_tree.proofs.setups.Setup.add_root.Goals as goal

pub invariant_of-self-2 : goal.invariant_of-self-2
invariant_of-self-2 c =
    let range : c.unwrap-range.result ≡ root_range c.args.root.now = subst (λ (o : Option Extent). IfSome o (λ r. r ≡ root_range c.args.root.now)) c.unwrap-range.ensures c.new.ensures.value in
    root_answered c.self.inside.tree c.add_root.new.self c.args.root.now c.self.inside.spans.items c.push_reserved.new.self.items (record { arena = c.len-arena.result; range = c.unwrap-range.result }) c.in_ok-add_root.ensures.ok
    (c.push_reserved.ensures.items ∙ ap (λ xs. xs ++ record { arena = c.len-arena.result; range = c.unwrap-range.result } ∷ []) c.reserve.ensures.items)
    c.len-arena.ensures.value range c.self.invariant
