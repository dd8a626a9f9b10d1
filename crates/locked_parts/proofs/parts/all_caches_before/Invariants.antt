use Rattle.std.proofs.Common.{◌≡◌, ℕ, ◌*◌, ◌<◌, ◌≤◌, length, get_or}
use Rattle.arena_tree.specs.declared.limits.TheConstants.{MOST_ARENAS}
use Rattle.locked_parts.specs.Kinds.{caches_before}
use Rattle.locked_parts.proofs.parts.all_caches_before.Given as goal

abbrev pub invariant-loop-id : goal.invariant-loop-id
invariant-loop-id l = (l.before ≡ caches_before l.fn.tree l.id) × (l.before ≤ 255 * l.id)
    × (length l.counts ≡ MOST_ARENAS)
    × ((k : ℕ) → k < l.id → get_or l.counts k 0 ≡ caches_before l.fn.tree k)
