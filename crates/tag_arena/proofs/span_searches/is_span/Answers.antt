use Rattle.std.proofs.Common.{◌≡◌, sym, ap, subst, ◌∙◌, arith, rules}
use Rattle.deed_core.specs.Holding.{Holding}
use Rattle.tag_arena.specs.Spanned.{IsFirstPast}
use Rattle.tag_arena.proofs.SpanFinding.{none_past, is_first}
use Rattle.tag_arena.proofs.span_searches.is_span.Goals as goal

pub returns-in_default : goal.returns-in_default
returns-in_default c = λ in-r.
    let le = none_past c.args.spans.now.items c.base.result (subst (IsFirstPast c.base.result c.args.spans.now.items) c.in_default.is c.first_past.ensures) c.args.range in-r in
    let some = c.base.ensures.range.some in
    omega (arith, le, some, c.base.ensures.value)

pub returns-then-ne : goal.returns-then-ne
returns-then-ne c = λ in-r.
    let first = subst (IsFirstPast c.base.result c.args.spans.now.items) c.in-Some.is c.first_past.ensures in
    let same : c.span.result ≡ c.args.range = c.span.ensures ∙ is_first c.args.spans.now.items c.base.result c.in-Some.first first c.requires c.args.range in-r (sym c.base.ensures.value) in
    let root : c.span.result.root ≡ c.args.range.root = ap (λ (h : Holding). h.root) same in
    let base : c.span.result.range.base ≡ c.args.range.range.base = ap (λ (h : Holding). h.range.base) same in
    let len : c.span.result.range.len ≡ c.args.range.range.len = ap (λ (h : Holding). h.range.len) same in
    search rules
