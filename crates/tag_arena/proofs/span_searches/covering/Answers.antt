use Rattle.std.proofs.Common.{ap, subst, ◌∙◌, arith}
use Rattle.deed_core.specs.Holding.{Holding}
use Rattle.tag_arena.specs.Spanned.{IsFirstPast}
use Rattle.tag_arena.proofs.SpanFinding.{no_cover, no_cover_at_all}
use Rattle.tag_arena.proofs.span_searches.covering.Goals as goal

pub returns-in_default : goal.returns-in_default
returns-in_default c = no_cover_at_all c.args.spans.now.items c.args.unit (subst (IsFirstPast c.args.unit c.args.spans.now.items) c.in_default.is c.first_past.ensures)

pub returns-then-base-unit : goal.returns-then-base-unit
returns-then-base-unit c =
    let first = subst (IsFirstPast c.args.unit c.args.spans.now.items) c.in-Some.is c.first_past.ensures in
    let low = c.base.ensures.value ∙ ap (λ (h : Holding). h.range.base) c.span.ensures in
    no_cover c.args.spans.now.items c.args.unit c.in-Some.first first c.requires (omega (arith, low, c.if-base-unit.true))
