use Rattle.deed_core.specs.Extent.{Covers}
use Rattle.tag_arena.proofs.SpanLists.{found_second}
use Rattle.tag_arena.specs.Spanned.{holdings_of}
use Rattle.tag_arena.proofs.span_searches.span_at.Goals as goal

pub returns : goal.returns
returns c = found_second (holdings_of c.args.owned.now.items) (holdings_of c.args.imported.now.items) (λ s. Covers s.range c.args.unit) _ c.in_default.ensures c.covering-2.ensures
