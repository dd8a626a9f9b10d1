use Rattle.std.proofs.Common.{◌≡◌, ◌+◌, ◌*◌, ◌-◌, ◌^◌, length}
use Rattle.sorted_rows.specs.Order.{place_below}
use Rattle.tag_arena.specs.FreeTags.{ranges_by_age}
use Rattle.tag_arena.specs.Orders.{rank_of}
use Rattle.tag_arena.specs.Fits.{NoneBelow}
use Rattle.tag_arena.proofs.earliest.earliest_behind.Given as goal

abbrev pub invariant-loop-entry : goal.invariant-loop-entry
invariant-loop-entry g l = record {
  kept : l.rising ≡ l.fn.rising;
  below : NoneBelow l.quantum l.request (ranges_by_age l.slots.tags) l.start l.from;
}

abbrev pub decreases-loop-entry : goal.decreases-loop-entry
decreases-loop-entry g l = length l.fn.rising.items - place_below rank_of (l.from * 2 ^ 64 + 0) l.fn.rising.items
