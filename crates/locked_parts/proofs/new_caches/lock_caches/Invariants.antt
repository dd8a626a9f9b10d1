use Rattle.std.proofs.Common.{◌≡◌, ◌+◌, ◌≤◌, ◌++◌, map, vec_len, vec_capacity}
use Rattle.locked_parts.proofs.new_caches.lock_caches.Given as goal

abbrev pub invariant-loop-locked : goal.invariant-loop-locked
invariant-loop-locked g l = (vec_len l.locked + vec_len l.caches ≤ vec_capacity l.locked)
    × (l.locked.items ++ map (λ c. c.kind) l.caches.items
    ≡ l.fn.locked.items ++ map (λ c. c.kind) l.fn.caches.items)

abbrev pub decreases-loop-locked : goal.decreases-loop-locked
decreases-loop-locked g l = vec_len l.caches
