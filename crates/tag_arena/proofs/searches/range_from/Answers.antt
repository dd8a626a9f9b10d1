use Rattle.std.proofs.Common.{Contains, sym, ap, ◌∙◌, subst}
use Rattle.std.specs.Option.{option_map}
use Rattle.deed_core.specs.Extent.{IsRange}
use Rattle.tag_arena.specs.Boundaries.{BeginsAt}
use Rattle.tag_arena.specs.FreeTags.{ranges_by_age}
use Rattle.tag_arena.proofs.Indexing.{first_at, none_at, other_at, range_is_free, rising_range}
use Rattle.tag_arena.proofs.searches.range_from.Goals as goal

pub returns-in_err-entry : goal.returns-in_err-entry
returns-in_err-entry g c =
    let tags = c.args.slots.now.tags in
    subst (λ o. BeginsAt c.args.base (ranges_by_age tags) (option_map (λ f. f.range) o)) (sym c.from_residual.ensures)
    (none_at c.requires.tags.0 c.args.rising.now.items tags c.requires.mirrors c.requires.tags.1 c.args.base c.first_from.ensures.rises (sym c.first_from.ensures.first ∙ c.in_err-entry.was))

pub returns-then-entry-base : goal.returns-then-entry-base
returns-then-entry-base g c =
    other_at c.requires.tags.0 c.args.rising.now.items c.args.slots.now.tags c.requires.mirrors c.requires.tags.1 c.args.base c.first_from.ensures.rises c.in_ok-entry.entry (sym c.first_from.ensures.first ∙ c.in_ok-entry.was) c.if-entry-base.true

pub range_at-range-requires-clause-here : goal.range_at-range-requires-clause-here
range_at-range-requires-clause-here g c =
    let w = first_at c.requires.tags.0 c.args.rising.now.items c.args.slots.now.tags c.requires.mirrors c.requires.tags.1 c.args.base c.first_from.ensures.rises c.in_ok-entry.entry (sym c.first_from.ensures.first ∙ c.in_ok-entry.was) in
    (w.0, w.1, rising_range c.in_ok-entry.entry w.0 w.2)

pub range_at-range-requires-clause-range : goal.range_at-range-requires-clause-range
range_at-range-requires-clause-range g c =
    let w = first_at c.requires.tags.0 c.args.rising.now.items c.args.slots.now.tags c.requires.mirrors c.requires.tags.1 c.args.base c.first_from.ensures.rises c.in_ok-entry.entry (sym c.first_from.ensures.first ∙ c.in_ok-entry.was) in
    subst IsRange (rising_range c.in_ok-entry.entry w.0 w.2) (c.requires.tags.1 c.in_ok-entry.entry.slot w.0 w.1).range

pub returns : goal.returns
returns g c =
    let tags = c.args.slots.now.tags in
    let w = first_at c.requires.tags.0 c.args.rising.now.items tags c.requires.mirrors c.requires.tags.1 c.args.base c.first_from.ensures.rises c.in_ok-entry.entry (sym c.first_from.ensures.first ∙ c.in_ok-entry.was) in
    let range = c.range_at-range.ensures w.0 w.1 in
    (subst (Contains (ranges_by_age tags)) (sym range) (range_is_free tags c.in_ok-entry.entry.slot w.0 w.1), ap (λ h. h.range.base) range ∙ (sym (ap (λ e. e.major) w.2) ∙ c.if-entry-base.false))
