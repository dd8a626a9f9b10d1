use Rattle.std.proofs.Common.{◌≡◌, true, take}
use Rattle.tag_arena.specs.Orders.{Mirrors}
use Rattle.tag_arena.proofs.filling.fill.Given as goal

abbrev pub invariant-loop-slot : goal.invariant-loop-slot
invariant-loop-slot g l = record { kept : l.index.kept ≡ true; order : l.index.order ≡ l.fn.index.order; room : l.index.room ≡ l.fn.index.room; mirrors : Mirrors l.index.order l.index.items (take l.slot l.slots.tags) }
