use Rattle.tag_arena.proofs.Tagging.{sound_none, tags_none}
use Rattle.tag_arena.proofs.tags.Tags.new.Goals as goal

pub invariant_of-result : goal.invariant_of-result
invariant_of-result c = sound_none c.new.result c.new.ensures

pub returns : goal.returns
returns c = tags_none c.new.result c.new.ensures
