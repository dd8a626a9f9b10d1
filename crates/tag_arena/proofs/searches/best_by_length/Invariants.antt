use Rattle.std.proofs.Common.{ℕ, ◌+◌, ◌*◌, ◌-◌, ◌^◌, ◌<◌, length}
use Rattle.sorted_rows.specs.Order.{place_below}
use Rattle.tag_arena.specs.Orders.{rank_of}
use Rattle.tag_arena.specs.FreeTags.{FreeTag, tag_at}
use Rattle.std.proofs.Common.{◌≡◌, Some}
use Rattle.tag_arena.specs.Place.{ServesIn}
use Rattle.tag_arena.specs.Orders.{entry_of}
use Rattle.tag_arena.specs.declared.orders.Order.TheVariants.{Sizes}
use Rattle.tag_arena.proofs.searches.best_by_length.Given as goal

abbrev pub invariant-loop-entry : goal.invariant-loop-entry
invariant-loop-entry g l = (k : ℕ) (t : FreeTag) → tag_at l.slots.tags k ≡ Some t → rank_of (entry_of Sizes k t) < l.major * 2 ^ 64 + l.minor → (b : ℕ) → ServesIn l.quantum l.request t.range b → ⊥

abbrev pub decreases-loop-entry : goal.decreases-loop-entry
decreases-loop-entry g l = length l.sizes.items - place_below rank_of (l.major * 2 ^ 64 + l.minor) l.sizes.items
