use Rattle.std.proofs.Common.{sym, ap, ◌∙◌}
use Rattle.deed_core.specs.Covering.{units_held}
use Rattle.tag_arena.proofs.Units.{units_by_age}
use Rattle.tag_arena.proofs.free_index.FreeIndex.units.Goals as goal

pub returns : goal.returns
returns g c = c.units.ensures ∙ (sym (units_by_age c.self.inside.slots.tags) ∙ ap (λ v. units_held v.ranges) c.self.view_is)
