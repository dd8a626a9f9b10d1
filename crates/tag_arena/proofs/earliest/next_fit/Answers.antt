use Rattle.std.proofs.Common.{None, Some, refl, ap, subst}
use Rattle.tag_arena.specs.FreeTags.{ranges_by_age}
use Rattle.tag_arena.specs.Fits.{base_of, IsEarliest}
use Rattle.tag_arena.proofs.Roving.{past_rover, from_min}
use Rattle.tag_arena.proofs.earliest.next_fit.Goals as goal

pub returns-in-Some-clause-choice : goal.returns-in-Some-clause-choice
returns-in-Some-clause-choice g c =
    let q = c.args.request.now in
    let free = ranges_by_age c.args.slots.now.tags in
    let found = ap base_of c.in-Some.is in
    let past = subst (IsEarliest c.args.quantum q free c.max.result) found c.earliest_fit-past.ensures.least in
    (Some c.in-Some.fit.base, past_rover c.args.quantum q free c.args.rover c.max.result (Some c.in-Some.fit.base) c.max.ensures past, refl)

pub returns-clause-choice : goal.returns-clause-choice
returns-clause-choice g c =
    let q = c.args.request.now in
    let free = ranges_by_age c.args.slots.now.tags in
    let lost = ap base_of c.in_default.is in
    let past = subst (IsEarliest c.args.quantum q free c.max.result) lost c.earliest_fit-past.ensures.least in
    (None, past_rover c.args.quantum q free c.args.rover c.max.result None c.max.ensures past, from_min c.args.quantum q free (base_of c.earliest_fit.result) c.earliest_fit.ensures.least)
