use Rattle.std.proofs.Common.{sym, ap, ◌∙◌, subst}
use Rattle.tag_arena.specs.Choice.{IsInstant}
use Rattle.tag_arena.specs.FreeTags.{ArePowers, ranges_by_age}
use Rattle.tag_arena.specs.Linked.{IsNewestFrom}
use Rattle.tag_arena.proofs.Listing.{Some-injective}
use Rattle.tag_arena.proofs.Newest.{none_listed, is_newest}
use Rattle.tag_arena.proofs.searches.newest.Goals as goal

pub returns-in_default : goal.returns-in_default
returns-in_default g c =
    let tags = c.args.slots.now.tags in
    let powers : ArePowers tags = λ k t here. (c.requires.tags.1 k t here).power in
    let none = subst (IsNewestFrom c.least_list.result tags) c.in_default.is (c.newest_from.ensures tags c.requires.linked powers) in
    none_listed c.args.quantum c.args.units c.least_list.result c.requires.tags.0 tags c.requires.quantum c.requires.tags.1 c.least_list.ensures.least none

pub tag-requires : goal.tag-requires
tag-requires g c =
    let tags = c.args.slots.now.tags in
    let powers : ArePowers tags = λ k t here. (c.requires.tags.1 k t here).power in
    let first = subst (IsNewestFrom c.least_list.result tags) c.in-Some.is (c.newest_from.ensures tags c.requires.linked powers) in
    (first.0, first.1)

pub returns : goal.returns
returns g c =
    let tags = c.args.slots.now.tags in
    let powers : ArePowers tags = λ k t here. (c.requires.tags.1 k t here).power in
    let first = subst (IsNewestFrom c.least_list.result tags) c.in-Some.is (c.newest_from.ensures tags c.requires.linked powers) in
    let newest = is_newest c.args.quantum c.args.units c.least_list.result c.requires.tags.0 tags c.requires.quantum c.requires.tags.1 c.least_list.ensures.least c.least_list.ensures.large c.requires.units c.requires.timed c.in-Some.slot first in
    let same = Some-injective (sym first.1 ∙ sym c.tag.ensures) in
    subst (λ h. IsInstant c.args.quantum c.args.units (ranges_by_age tags) h) (ap (λ u. u.range) same ∙ sym c.range-range.ensures.value) newest
