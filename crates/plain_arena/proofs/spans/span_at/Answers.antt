use Rattle.std.proofs.Common.{map}
use Rattle.deed_core.specs.Extent.{Covers}
use Rattle.tag_arena.proofs.SpanLists.{found_second}
use Rattle.plain_arena.proofs.spans.span_at.Goals as goal

pub returns : goal.returns
returns c = found_second c.args.owned.now (map (λ t. t.holding) c.args.imported.now) (λ s. Covers s.range c.args.base) _ c.in_default.ensures c.imported_at.ensures
