use Rattle.std.proofs.Common.{◌≡◌, map}
use Rattle.local_parts.specs.Cpus.{new_own, row_indexes}
use Rattle.local_parts.proofs.cpu_caches.ArenaCaches.fill.Given as goal

abbrev pub invariant-loop-cache : goal.invariant-loop-cache
invariant-loop-cache g l = l.self-inside.caches.items ≡ map (new_own l.size) (row_indexes l.fn.arena l.quantum 0 l.cache)
