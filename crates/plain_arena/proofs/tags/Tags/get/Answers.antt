use Rattle.std.proofs.Common.{sym, ap, ◌∙◌}
use Rattle.std.specs.FinMap as finmap
use Rattle.plain_arena.proofs.Lookups.{get_length}
use Rattle.plain_arena.proofs.tags.Tags.get.Goals as goal

pub returns : goal.returns
returns c = c.copied.ensures ∙ c.get.ensures.value ∙ sym (get_length c.self.inside.ranges.entries c.args.base) ∙ ap (λ m. finmap.get m c.args.base) c.self.view_is
