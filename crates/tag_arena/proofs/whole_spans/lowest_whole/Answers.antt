use Rattle.std.proofs.Common.{Contains, Some, sym, ap, subst, ◌∙◌, arith}
use Rattle.deed_core.specs.Extent.{end_of}
use Rattle.deed_core.specs.Holding.{Holding}
use Rattle.tag_arena.specs.Spanned.{holdings_of, IsFirstPast, IsLowestFree}
use Rattle.tag_arena.proofs.SpanFinding.{lowest_here, passed_more, none_lowest}
use Rattle.tag_arena.proofs.whole_spans.lowest_whole.Goals as goal

pub returns-in-Some-find : goal.returns-in-Some-find
returns-in-Some-find g c =
    let tags = c.args.spans.now.items in
    let free = c.args.free.now.ranges in
    let first = subst (IsFirstPast c.loop-next.from tags) c.in-Some.is c.first_past.ensures in
    let there = subst (Contains free) c.span-range.ensures c.in-Some-find.ensures in
    subst (λ (h : Holding). IsLowestFree (holdings_of tags) free (Some h)) (sym c.span-range.ensures) (lowest_here tags c.loop-next.from c.in-Some.next first c.requires.disjoint free c.loop-next.invariant there)

pub loop-next-preserved : goal.loop-next-preserved
loop-next-preserved g c =
    let tags = c.args.spans.now.items in
    let free = c.args.free.now.ranges in
    let first = subst (IsFirstPast c.loop-next.from tags) c.in-Some.is c.first_past.ensures in
    let end = c.end-from.ensures.value ∙ ap (λ (h : Holding). end_of h.range) c.span-range.ensures in
    let not = λ (is : Contains free c.in-Some.next.holding). c.in_default-find.ensures (subst (Contains free) (sym c.span-range.ensures) is) in
    λ s in-s le. passed_more tags c.loop-next.from c.in-Some.next first c.requires.disjoint free c.loop-next.invariant not s in-s (omega (arith, le, end))

pub returns : goal.returns
returns g c = none_lowest c.args.spans.now.items c.loop-next.from c.args.free.now.ranges c.loop-next.invariant (subst (IsFirstPast c.loop-next.from c.args.spans.now.items) c.in_default.is c.first_past.ensures)
