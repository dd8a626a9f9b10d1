use Rattle.std.proofs.Common.{sym, ◌∙◌, subst, Some, arith}
use Rattle.std.specs.Option.{option_map}
use Rattle.deed_core.specs.Extent.{IsRange}
use Rattle.tag_arena.specs.Fits.{IsWith}
use Rattle.tag_arena.specs.FreeTags.{ranges_by_age}
use Rattle.tag_arena.proofs.Ending.{ends_by, has_none, has_unit, last_tag, sum_fits}
use Rattle.tag_arena.proofs.Indexing.{rising_range}
use Rattle.tag_arena.proofs.searches.range_with.Goals as goal

pub returns-in_err-entry : goal.returns-in_err-entry
returns-in_err-entry g c =
    subst (λ o. IsWith c.args.unit (ranges_by_age c.args.slots.now.tags) (option_map (λ f. f.range) o)) (sym c.from_residual.ensures)
    (has_none c.args.unit c.requires.tags.0 c.args.rising.now.items c.args.slots.now.tags c.requires.mirrors c.last_to.ensures.rises c.requires.tags.1 (sym c.last_to.ensures.last ∙ c.in_err-entry.was))

pub overflow_add-entry : goal.overflow_add-entry
overflow_add-entry g c =
    let few = sum_fits c.args.unit c.requires.tags.0 c.args.rising.now.items c.args.slots.now.tags c.requires.mirrors c.last_to.ensures.rises c.requires.tags.1 c.in_ok-entry.entry (sym c.last_to.ensures.last ∙ c.in_ok-entry.was) in
    omega (arith, few)

pub returns-then-entry-unit : goal.returns-then-entry-unit
returns-then-entry-unit g c =
    ends_by c.args.unit c.requires.tags.0 c.args.rising.now.items c.args.slots.now.tags c.requires.mirrors c.last_to.ensures.rises c.requires.tags.1 c.in_ok-entry.entry (sym c.last_to.ensures.last ∙ c.in_ok-entry.was) c.requires.apart c.if-entry-unit.true

pub range_at-range-requires-clause-here : goal.range_at-range-requires-clause-here
range_at-range-requires-clause-here g c =
    let w = last_tag c.args.unit c.requires.tags.0 c.args.rising.now.items c.args.slots.now.tags c.requires.mirrors c.last_to.ensures.rises c.requires.tags.1 c.in_ok-entry.entry (sym c.last_to.ensures.last ∙ c.in_ok-entry.was) in
    (w.0, w.1, rising_range c.in_ok-entry.entry w.0 w.2)

pub range_at-range-requires-clause-range : goal.range_at-range-requires-clause-range
range_at-range-requires-clause-range g c =
    let w = last_tag c.args.unit c.requires.tags.0 c.args.rising.now.items c.args.slots.now.tags c.requires.mirrors c.last_to.ensures.rises c.requires.tags.1 c.in_ok-entry.entry (sym c.last_to.ensures.last ∙ c.in_ok-entry.was) in
    subst IsRange (rising_range c.in_ok-entry.entry w.0 w.2) (c.requires.tags.1 c.in_ok-entry.entry.slot w.0 w.1).range

pub returns : goal.returns
returns g c =
    let tags = c.args.slots.now.tags in
    let found = sym c.last_to.ensures.last ∙ c.in_ok-entry.was in
    let w = last_tag c.args.unit c.requires.tags.0 c.args.rising.now.items tags c.requires.mirrors c.last_to.ensures.rises c.requires.tags.1 c.in_ok-entry.entry found in
    subst (λ h. IsWith c.args.unit (ranges_by_age tags) (Some h)) (sym (c.range_at-range.ensures w.0 w.1))
    (has_unit c.args.unit c.requires.tags.0 c.args.rising.now.items tags c.requires.mirrors c.last_to.ensures.rises c.requires.tags.1 c.in_ok-entry.entry found c.if-entry-unit.false)
