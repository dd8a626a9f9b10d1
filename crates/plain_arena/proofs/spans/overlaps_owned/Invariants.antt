use Rattle.std.specs.List.{AllWithin}
use Rattle.deed_core.specs.Extent.{Overlap}
use Rattle.plain_arena.proofs.spans.overlaps_owned.Given as goal

abbrev pub invariant-loop-span : goal.invariant-loop-span
invariant-loop-span l = AllWithin (λ s. ¬ Overlap s.range l.range) l.owned 0 l.span-index
