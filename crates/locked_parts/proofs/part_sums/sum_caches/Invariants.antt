use Rattle.locked_parts.specs.Sums.{AddsUp}
use Rattle.locked_parts.proofs.part_sums.sum_caches.Given as goal

abbrev pub invariant-loop-before : goal.invariant-loop-before
invariant-loop-before g l = AddsUp (g.C.CacheUnits.tells l.fn.caches) l.before l.units
