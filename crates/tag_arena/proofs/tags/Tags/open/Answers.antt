use Rattle.std.proofs.Common.{◌∙◌}
use Rattle.tag_arena.proofs.Tagging.{tags_same, sound_same}
use Rattle.tag_arena.proofs.tags.Tags.open.Goals as goal

pub invariant_of-self : goal.invariant_of-self
invariant_of-self c = sound_same c.self.inside.count c.self.inside.cells c.open.new.self c.open.ensures.same c.self.invariant

pub returns : goal.returns
returns c = record { unchanged = tags_same c.self.inside.cells c.open.new.self c.self.invariant.1 c.open.ensures.same ∙ c.self.view_is }
