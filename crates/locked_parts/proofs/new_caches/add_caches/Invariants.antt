use Rattle.std.proofs.Common.{◌≡◌, ◌+◌, ◌++◌, All, map, vec_len, vec_capacity}
use Rattle.arena_tree.specs.Chains.{quantum_in}
use Rattle.arena_tree.specs.Trees.{nodes_of}
use Rattle.locked_parts.specs.Kinds.{kinds_up_to}
use Rattle.locked_parts.specs.News.{BeginsAsSet}
use Rattle.locked_parts.proofs.new_caches.add_caches.Given as goal

abbrev pub invariant-loop-before : goal.invariant-loop-before
invariant-loop-before g l = (vec_len l.caches ≡ vec_len l.fn.caches + l.before)
    × (vec_capacity l.caches ≡ vec_capacity l.fn.caches)
    × (map (λ c. c.kind) l.caches.items ≡ map (λ c. c.kind) l.fn.caches.items
    ++ kinds_up_to l.fn.arena (quantum_in (nodes_of l.fn.tree) l.fn.arena) l.before)
    × (All (BeginsAsSet l.fn.tree l.fn.arena) l.fn.caches.items
    → All (BeginsAsSet l.fn.tree l.fn.arena) l.caches.items)
