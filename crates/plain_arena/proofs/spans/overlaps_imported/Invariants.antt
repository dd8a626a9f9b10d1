use Rattle.std.specs.List.{AllWithin}
use Rattle.deed_core.specs.Extent.{Overlap}
use Rattle.plain_arena.proofs.spans.overlaps_imported.Given as goal

abbrev pub invariant-loop-import : goal.invariant-loop-import
invariant-loop-import l = AllWithin (λ t. ¬ Overlap t.holding.range l.range) l.imported 0 l.import-index
