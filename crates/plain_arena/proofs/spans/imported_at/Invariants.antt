use Rattle.std.specs.List.{AllWithin}
use Rattle.deed_core.specs.Extent.{Covers}
use Rattle.plain_arena.proofs.spans.imported_at.Given as goal

abbrev pub invariant-loop-import : goal.invariant-loop-import
invariant-loop-import l = AllWithin (λ t. ¬ Covers t.holding.range l.base) l.imported 0 l.import-index
