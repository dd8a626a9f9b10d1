use Rattle.std.proofs.Common.{◌≡◌, ◌++◌, take}
use Rattle.std.specs.List.{flat_map}
use Rattle.lease_watch.specs.Pages.{units_item}
use Rattle.lease_watch.proofs.bars.push_items.Given as goal

abbrev pub invariant-loop-home : goal.invariant-loop-home
invariant-loop-home l = l.out.items ≡ l.initial.out.items ++ flat_map (units_item l.arena) (take l.home-index l.homes)
