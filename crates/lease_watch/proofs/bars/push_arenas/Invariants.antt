use Rattle.std.proofs.Common.{◌≡◌, ◌++◌, take}
use Rattle.std.specs.List.{flat_map}
use Rattle.lease_watch.specs.Pages.{arena_part}
use Rattle.lease_watch.proofs.bars.push_arenas.Given as goal

abbrev pub invariant-loop-arena : goal.invariant-loop-arena
invariant-loop-arena l = l.out.items ≡ l.initial.out.items ++ flat_map arena_part (take l.arena-index l.arenas)
