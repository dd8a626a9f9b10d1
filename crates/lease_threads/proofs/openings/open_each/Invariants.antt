use Rattle.std.proofs.Common.{◌≡◌, ◌+◌, ◌*◌, ◌≤◌, vec_len, vec_capacity}
use Rattle.arena_tree.specs.declared.limits.TheConstants.{MOST_SPANS, MOST_ARENAS}
use Rattle.lease_threads.specs.Openings.{roots_of, roots_of_first}
use Rattle.locked_parts.specs.News.{AreMadeAsSet}
use Rattle.lease_threads.proofs.openings.open_each.Given as goal

abbrev pub invariant-loop-id : goal.invariant-loop-id
invariant-loop-id g l = (vec_len l.made ≡ l.id) × (vec_capacity l.made ≡ vec_capacity l.fn.made)
    × (l.numbers.first ≡ MOST_SPANS * l.id)
    × (MOST_ARENAS * MOST_SPANS ≤ l.numbers.left + MOST_SPANS * l.id)
    × AreMadeAsSet l.setup.arenas l.made.items
    × (roots_of l.made.items ≡ roots_of_first l.setup.spans l.id)
