use Rattle.std.proofs.Common.{◌≡◌, ◌++◌, take}
use Rattle.std.specs.List.{flat_map}
use Rattle.lease_watch.specs.Metrics.{setup_text}
use Rattle.lease_watch.proofs.metrics.push_setups.Given as goal

abbrev pub invariant-loop-arena : goal.invariant-loop-arena
invariant-loop-arena l = l.out.items ≡ l.initial.out.items ++ flat_map setup_text (take l.arena-index l.arenas)
