use Rattle.std.proofs.Common.{sym, ◌∙◌, subst}
use Rattle.tag_arena.specs.Boundaries.{LiesIn}
use Rattle.tag_arena.specs.declared.orders.Order.TheVariants.{Sizes}
use Rattle.tag_arena.proofs.Lying.{found_tag, none_lies, other_lies, told_apart, sizes_keyed}
use Rattle.tag_arena.proofs.slot_searches.slot_by_size.Goals as goal

pub returns-in_err-entry : goal.returns-in_err-entry
returns-in_err-entry g c =
    let r = c.args.range in
    let tags = c.args.slots.now.tags in
    let mirrors = c.requires.mirrors (sym c.is_kept.ensures ∙ c.if-not-is_kept.false) in
    subst (LiesIn r tags) (sym c.from_residual.ensures)
    (none_lies Sizes c.args.sizes.now.items tags mirrors c.first_from.ensures.rises _ r (sizes_keyed r c.len.result c.base.result c.len.ensures.value c.base.ensures.value) (sym c.first_from.ensures.first ∙ c.in_err-entry.was))

pub tag-requires : goal.tag-requires
tag-requires g c =
    let mirrors = c.requires.mirrors (sym c.is_kept.ensures ∙ c.if-not-is_kept.false) in
    found_tag Sizes c.args.sizes.now.items c.args.slots.now.tags mirrors c.first_from.ensures.rises _ c.in_ok-entry.entry (sym c.first_from.ensures.first ∙ c.in_ok-entry.was)

pub returns-then-ne : goal.returns-then-ne
returns-then-ne g c =
    let r = c.args.range in
    let mirrors = c.requires.mirrors (sym c.is_kept.ensures ∙ c.if-not-is_kept.false) in
    other_lies Sizes c.args.sizes.now.items c.args.slots.now.tags mirrors c.first_from.ensures.rises _ r (sizes_keyed r c.len.result c.base.result c.len.ensures.value c.base.ensures.value) c.in_ok-entry.entry c.tag.result (sym c.first_from.ensures.first ∙ c.in_ok-entry.was) c.tag.ensures (λ same. told_apart c.range.result r c.if-ne.ensures (c.range.ensures.value ∙ same))
