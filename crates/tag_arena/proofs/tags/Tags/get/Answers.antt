use Rattle.std.proofs.Common.{sym, ap, ◌∙◌}
use Rattle.std.specs.FinMap as finmap
use Rattle.std.specs.Option.{option_map}
use Rattle.tag_arena.proofs.Tagging.{tag_at, none_there}
use Rattle.tag_arena.proofs.tags.Tags.get.Goals as goal

pub returns-in_err-cell : goal.returns-in_err-cell
returns-in_err-cell c =
    ap (option_map (λ f. f.range)) c.from_residual.ensures ∙ sym (none_there c.self.inside.cells c.args.base c.in_err-cell.ensures)
    ∙ ap (λ m. finmap.get m c.args.base) c.self.view_is

pub returns : goal.returns
returns c =
    let w = c.in_ok-cell.ensures in
    sym c.in_ok-range.was ∙ c.peek.ensures ∙ w.1 ∙ sym (tag_at c.self.inside.cells c.self.invariant.1 c.in_ok-cell.cell c.args.base w.0 w.1 w.2)
    ∙ ap (λ m. finmap.get m c.args.base) c.self.view_is
