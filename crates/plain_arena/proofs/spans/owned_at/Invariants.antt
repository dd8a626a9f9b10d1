use Rattle.std.specs.List.{AllWithin}
use Rattle.deed_core.specs.Extent.{Covers}
use Rattle.plain_arena.proofs.spans.owned_at.Given as goal

abbrev pub invariant-loop-span : goal.invariant-loop-span
invariant-loop-span l = AllWithin (λ s. ¬ Covers s.range l.base) l.owned 0 l.span-index
