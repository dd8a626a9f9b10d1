use Rattle.std.proofs.Common.{◌≡◌, ◌≤◌, map, take, length, vec_len, vec_capacity}
use Rattle.lease_threads.proofs.telling.tell.Given as goal

abbrev pub invariant-loop-root : goal.invariant-loop-root
invariant-loop-root g l = (l.ranges.items ≡ map (λ r. r.range) (take l.root-index l.roots))
    × (vec_len l.ranges ≡ l.root-index)
    × (length l.roots ≤ vec_capacity l.ranges)
