use Rattle.std.proofs.Common.{◌≡◌, ◌*◌, ◌^◌, ◌≤◌, take}
use Rattle.deed_core.specs.Covering.{units_held}
use Rattle.plain_arena.proofs.spans.owned_units.Given as goal

abbrev pub invariant-loop-span : goal.invariant-loop-span
invariant-loop-span l = record { sum : l.units ≡ units_held (take l.span-index l.owned); bound : l.units ≤ l.span-index * 2 ^ 62 }
