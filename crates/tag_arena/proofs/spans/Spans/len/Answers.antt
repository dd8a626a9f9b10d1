use Rattle.std.proofs.Common.{length, sym, ap, ◌∙◌}
use Rattle.std.proofs.lemmas.List.{length-map}
use Rattle.tag_arena.specs.Spanned.{tag_of, entries_by_coming}
use Rattle.tag_arena.proofs.Coming.{length_by_coming}
use Rattle.tag_arena.proofs.spans.Spans.len.Goals as goal

pub returns : goal.returns
returns c =
    let entries = c.self.inside.rows.items in
    c.len.ensures.len ∙ (sym (length-map (entries_by_coming entries) tag_of ∙ length_by_coming entries) ∙ ap (λ v. length v.items) c.self.view_is)
