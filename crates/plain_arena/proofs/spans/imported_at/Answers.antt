use Rattle.std.proofs.Common.{arith}
use Rattle.std.proofs.lemmas.List.Elements.{All-map}
use Rattle.deed_core.specs.Extent.{Covers}
use Rattle.deed_core.specs.Holding.{Holding}
use Rattle.deed_core.specs.Tag.{Tag}
use Rattle.plain_arena.proofs.spans.imported_at.Goals as goal

pub returns : goal.returns
returns c = All-map (λ (s : Holding). ¬ Covers s.range c.args.base) (λ (t : Tag). t.holding) c.args.imported.now (λ k d below. c.loop-import.invariant k d (omega arith) (omega arith))
