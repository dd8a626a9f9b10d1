use Rattle.std.proofs.Common.{◌∙◌}
use Rattle.tag_arena.proofs.Tagging.{tags_same, sound_same}
use Rattle.tag_arena.proofs.tags.Tags.vacate.Goals as goal

pub invariant_of-self : goal.invariant_of-self
invariant_of-self c = sound_same c.self.inside.count c.self.inside.cells c.unlink.new.self c.unlink.ensures.same c.self.invariant

pub returns-in-Some : goal.returns-in-Some
returns-in-Some c = record { unchanged = tags_same c.self.inside.cells c.unlink.new.self c.self.invariant.1 c.unlink.ensures.same ∙ c.self.view_is }
