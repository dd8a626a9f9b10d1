use Rattle.std.proofs.Common.{◌≡◌, ◌<◌, ◌≤◌, List, length, Some, subst, sym}
use Rattle.std.specs.Prelude.{slice_get}
use Rattle.deed_core.proofs.LawProofs.{slice_get_here}
use Rattle.arena_tree.specs.declared.limits.TheConstants.{LONGEST_CHAIN}
use Rattle.arena_tree.specs.declared.levels.Level.{Level}
use Rattle.arena_tree.specs.declared.trees.TreeArena.{TreeArena}
use Rattle.arena_tree.specs.Chains.{IsChain}
use Rattle.arena_tree.specs.Trees.{nodes_of}
use Rattle.arena_tree.proofs.TreeLemmas.{chain_steps}
use Rattle.arena_tree.proofs.trees.Tree.chain.Goals as goal

pub returns-clause-steps : goal.returns-clause-steps
returns-clause-steps c =
    let xs = c.self.inside.chains.items in
    let within : c.args.id < length xs = subst (λ n. c.args.id < n) (sym (c.self.invariant.1.count)) (subst (λ (s : List TreeArena). c.args.id < length s) (sym c.self.view_is) c.requires) in
    let here : slice_get xs c.args.id ≡ Some c.index.result.now = slice_get_here xs c.args.id c.index.result.now within c.index.ensures in
    let each = c.self.invariant.1.each c.args.id c.index.result.now here in
    let steps = (chain_steps c.self.inside.arenas.items c.self.invariant.0 (Some c.args.id) c.index.result.now.items each.0).0 in
    subst (λ (s : List TreeArena). IsChain (nodes_of s) c.as_slice.result.now) c.self.view_is
    (subst (λ (ls : List Level). IsChain (nodes_of c.self.inside.arenas.items) ls) (sym c.as_slice.ensures.value) steps)

pub returns-clause-short : goal.returns-clause-short
returns-clause-short c =
    let xs = c.self.inside.chains.items in
    let within : c.args.id < length xs = subst (λ n. c.args.id < n) (sym (c.self.invariant.1.count)) (subst (λ (s : List TreeArena). c.args.id < length s) (sym c.self.view_is) c.requires) in
    let here : slice_get xs c.args.id ≡ Some c.index.result.now = slice_get_here xs c.args.id c.index.result.now within c.index.ensures in
    let each = c.self.invariant.1.each c.args.id c.index.result.now here in
    subst (λ (ls : List Level). length ls ≤ LONGEST_CHAIN) (sym c.as_slice.ensures.value) each.1
