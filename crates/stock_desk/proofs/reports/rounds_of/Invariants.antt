use Rattle.std.proofs.Common.{◌≡◌, ◌-◌, ◌^◌, min, take}
use Rattle.std.specs.Prelude.{sum_by}
use Rattle.deed_core.specs.Covering.{units_tagged}
use Rattle.local_parts.specs.Cpus.{arena_rounds}
use Rattle.stock_desk.proofs.reports.rounds_of.Given as goal

abbrev pub invariant-loop-cpu : goal.invariant-loop-cpu
invariant-loop-cpu l = l.units ≡ min (sum_by (λ c. units_tagged (arena_rounds c.caches l.arena)) (take l.cpu-index l.cpus)) (2 ^ 128 - 1)
