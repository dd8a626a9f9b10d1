use Rattle.std.proofs.Common.{◌∙◌}
use Rattle.tag_arena.proofs.Tagging.{tags_same, sound_same}
use Rattle.tag_arena.proofs.tags.Tags.join.Goals as goal

pub invariant_of-self : goal.invariant_of-self
invariant_of-self c = sound_same c.self.inside.count c.self.inside.cells c.join.new.self c.join.ensures.same c.self.invariant

pub returns : goal.returns
returns c = record { unchanged = tags_same c.self.inside.cells c.join.new.self c.self.invariant.1 c.join.ensures.same ∙ c.self.view_is }
