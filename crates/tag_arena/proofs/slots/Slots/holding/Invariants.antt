use Rattle.std.proofs.Common.{◌≡◌, ◌≢◌, ℕ, ◌<◌, Some}
use Rattle.tag_arena.specs.FreeTags.{FreeTag, tag_at, range_of}
use Rattle.tag_arena.proofs.slots.Slots.holding.Given as goal

abbrev pub invariant-loop-slot : goal.invariant-loop-slot
invariant-loop-slot g l = (k : ℕ) → k < l.slot → (t : FreeTag) → tag_at l.self.tags k ≡ Some t → range_of t ≢ l.range
