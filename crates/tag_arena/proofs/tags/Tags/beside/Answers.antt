use Rattle.std.proofs.Common.{ap, sym, ◌∙◌}
use Rattle.std.specs.FinMap as finmap
use Rattle.tag_arena.proofs.Tagging.{tag_at}
use Rattle.tag_arena.proofs.tags.Tags.beside.Goals as goal

pub returns-clause-left : goal.returns-clause-left
returns-clause-left c = λ is.
    let w = c.beside.ensures.left is in
    let at = tag_at c.self.inside.cells c.self.invariant.1 w.0 w.1.range.base w.1 w.2 (λ i. w.1.range.base) in
    (w.1.range.base, w.1, sym (ap (λ m. finmap.get m w.1.range.base) c.self.view_is) ∙ at, w.3)

pub returns-clause-right : goal.returns-clause-right
returns-clause-right c = λ is.
    let w = c.beside.ensures.right is in
    (w.1, sym (ap (λ m. finmap.get m c.args.end) c.self.view_is) ∙ tag_at c.self.inside.cells c.self.invariant.1 w.0 c.args.end w.1 w.2 w.3)
