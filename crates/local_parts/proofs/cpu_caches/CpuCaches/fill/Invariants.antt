use Rattle.std.proofs.Common.{◌≡◌, take}
use Rattle.stock.specs.Spaces.{plans_of}
use Rattle.local_parts.specs.Cpus.{new_cpu}
use Rattle.local_parts.proofs.cpu_caches.CpuCaches.fill.Given as goal

abbrev pub invariant-loop-arena : goal.invariant-loop-arena
invariant-loop-arena g l = l.self-inside.rows.items ≡ new_cpu l.size (take l.arena (plans_of l.stock))
