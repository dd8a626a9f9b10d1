use Rattle.std.proofs.Common.{ap, ◌∙◌, map}
use Rattle.tag_arena.specs.Spanned.{tag_of}
use Rattle.tag_arena.proofs.Coming.{by_none}
use Rattle.tag_arena.proofs.Spanning.{none_are, tags_of}
use Rattle.tag_arena.proofs.spans.Spans.new.Goals as goal

pub invariant_of-result : goal.invariant_of-result
invariant_of-result c = none_are c.new.result.items c.new.ensures.items

pub returns : goal.returns
returns c = ap tags_of c.new.ensures.items ∙ ap (map tag_of) by_none
