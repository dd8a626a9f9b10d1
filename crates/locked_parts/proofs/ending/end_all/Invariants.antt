use Rattle.std.proofs.Common.{◌≤◌, List, vec_len}
use Rattle.arena_tree.specs.declared.trees.TreeArena.{TreeArena}
use Rattle.locked_parts.specs.States.{AreInPlace}
use Rattle.locked_parts.proofs.ending.end_all.Given as goal

abbrev pub invariant-loop-locked : goal.invariant-loop-locked
invariant-loop-locked g l = ((tree : List TreeArena) → AreInPlace tree l.fn.arenas.items → AreInPlace tree l.arenas.items)
    × (vec_len l.arenas ≤ vec_len l.fn.arenas)

abbrev pub decreases-loop-locked : goal.decreases-loop-locked
decreases-loop-locked g l = vec_len l.arenas
