use Rattle.std.proofs.Common.{◌≡◌, ◌++◌, All, map}
use Rattle.arena_tree.specs.Chains.{quantum_in}
use Rattle.arena_tree.specs.Trees.{nodes_of}
use Rattle.magazine_layer.specs.Magazines.{BothEmpty}
use Rattle.locked_parts.specs.Kinds.{kinds_up_to, new_own}
use Rattle.locked_parts.proofs.magazine_sets.fill_arena.Given as goal

abbrev pub invariant-loop-before : goal.invariant-loop-before
invariant-loop-before g l = All (λ r. BothEmpty r.cpu) l.caches.items
    × (l.caches.items ≡ l.fn.caches.items
    ++ map new_own (kinds_up_to l.fn.arena (quantum_in (nodes_of l.fn.tree) l.fn.arena) l.before))
