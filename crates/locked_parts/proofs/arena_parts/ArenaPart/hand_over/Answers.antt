use Rattle.std.proofs.Common.{ap, ◌∙◌, ◌++◌}
use Rattle.locked_parts.specs.Answers.{ArenaPartState}
use Rattle.locked_parts.proofs.Grows.{handed_over}
use Rattle.locked_parts.proofs.arena_parts.ArenaPart.hand_over.Goals as goal

pub returns-clause-more : goal.returns-clause-more
returns-clause-more g c =
    handed_over c.args.self.now.arena.id c.self.inside.arena.id c.self.inside.beside c.self.inside.roots c.args.to.now.items c.hand_over.new.to.items
    (ap (λ (p : ArenaPartState). p.arena.id) c.self.view_is) c.self.invariant.numbers.from c.self.invariant.numbers.all c.left.ensures.run
    (c.in-Ok.ensures.moved ∙ ap (λ l. l ++ c.self.inside.roots.roots) c.give-ranges.ensures.same)
