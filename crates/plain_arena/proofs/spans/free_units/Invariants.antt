use Rattle.std.proofs.Common.{◌≡◌, ◌*◌, ◌^◌, ◌≤◌, take}
use Rattle.deed_core.specs.Covering.{units_held}
use Rattle.plain_arena.proofs.spans.free_units.Given as goal

abbrev pub invariant-loop-at : goal.invariant-loop-at
invariant-loop-at g l = record { sum : l.units ≡ units_held (take l.at l.free); bound : l.units ≤ l.at * 2 ^ 62 }
