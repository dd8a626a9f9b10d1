use Rattle.std.proofs.Common.{ap, subst, ◌∙◌, arith}
use Rattle.deed_core.specs.Holding.{Holding}
use Rattle.tag_arena.specs.Spanned.{IsFirstPast}
use Rattle.tag_arena.proofs.SpanFinding.{no_overlap, no_overlap_at_all}
use Rattle.tag_arena.proofs.span_searches.overlaps.Goals as goal

pub returns-in_default : goal.returns-in_default
returns-in_default c = no_overlap_at_all c.args.spans.now.items c.base.result c.args.range.now c.base.ensures.value (subst (IsFirstPast c.base.result c.args.spans.now.items) c.in_default.is c.first_past.ensures)

pub returns-then-base-end : goal.returns-then-base-end
returns-then-base-end c =
    let first = subst (IsFirstPast c.base.result c.args.spans.now.items) c.in-Some.is c.first_past.ensures in
    let low = c.base-2.ensures.value ∙ ap (λ (h : Holding). h.range.base) c.span.ensures in
    no_overlap c.args.spans.now.items c.base.result c.in-Some.first first c.requires c.args.range.now c.base.ensures.value (omega (arith, low, c.if-base-end.true, c.end.ensures.value))
