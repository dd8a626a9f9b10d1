use Rattle.std.proofs.Common.{◌≡◌, ◌<◌, List, length, Some, subst, sym}
use Rattle.std.specs.Prelude.{slice_get}
use Rattle.deed_core.proofs.LawProofs.{slice_get_here}
use Rattle.arena_tree.specs.declared.trees.TreeArena.{TreeArena}
use Rattle.arena_tree.specs.Trees.{IsArena}
use Rattle.arena_tree.proofs.trees.Tree.arena.Goals as goal

pub returns-clause-arena : goal.returns-clause-arena
returns-clause-arena c =
    let xs = c.self.inside.arenas.items in
    let within : c.args.id < length xs = subst (λ (s : List TreeArena). c.args.id < length s) (sym c.self.view_is) c.requires in
    let here : slice_get xs c.args.id ≡ Some c.index.result.now = slice_get_here xs c.args.id c.index.result.now within c.index.ensures in
    subst (λ (s : List TreeArena). IsArena s c.args.id c.index.result.now) c.self.view_is (c.self.invariant.0.each c.args.id c.index.result.now here)
