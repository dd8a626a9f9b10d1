use Rattle.std.proofs.Common.{◌≡◌, ◌++◌, take}
use Rattle.std.specs.List.{flat_map}
use Rattle.lease_watch.specs.Metrics.{units_sample}
use Rattle.lease_watch.proofs.metrics.push_homes.Given as goal

abbrev pub invariant-loop-home : goal.invariant-loop-home
invariant-loop-home l = l.out.items ≡ l.initial.out.items ++ flat_map (units_sample l.arena) (take l.home-index l.homes)
