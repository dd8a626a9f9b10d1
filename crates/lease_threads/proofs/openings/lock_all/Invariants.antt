use Rattle.std.proofs.Common.{◌≡◌, ◌+◌, ◌≤◌, ◌++◌, map, vec_len, vec_capacity}
use Rattle.locked_parts.specs.News.{locked_of}
use Rattle.lease_threads.specs.Openings.{roots_of}
use Rattle.lease_threads.proofs.openings.lock_all.Given as goal

abbrev pub invariant-loop-made : goal.invariant-loop-made
invariant-loop-made g l = (vec_len l.arenas + vec_len l.made ≤ vec_capacity l.arenas)
    × (vec_len l.roots + vec_len l.made ≤ vec_capacity l.roots)
    × (vec_len l.roots + vec_len l.made ≡ vec_len l.fn.roots + vec_len l.fn.made)
    × (l.arenas.items ++ map locked_of l.made.items
    ≡ l.fn.arenas.items ++ map locked_of l.fn.made.items)
    × (map (λ r. r.items) l.roots.items ++ roots_of l.made.items
    ≡ map (λ r. r.items) l.fn.roots.items ++ roots_of l.fn.made.items)

abbrev pub decreases-loop-made : goal.decreases-loop-made
decreases-loop-made g l = vec_len l.made
