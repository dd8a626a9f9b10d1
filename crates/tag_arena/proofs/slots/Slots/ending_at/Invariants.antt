use Rattle.std.proofs.Common.{◌≡◌, ◌≢◌, ℕ, ◌<◌, Some}
use Rattle.tag_arena.specs.Boundaries.{tag_end}
use Rattle.tag_arena.specs.FreeTags.{FreeTag, tag_at}
use Rattle.tag_arena.proofs.slots.Slots.ending_at.Given as goal

abbrev pub invariant-loop-slot : goal.invariant-loop-slot
invariant-loop-slot g l = (k : ℕ) → k < l.slot → (t : FreeTag) → tag_at l.self.tags k ≡ Some t → tag_end t ≢ l.end
