use Rattle.std.proofs.Common.{subst, sym, arith}
use Rattle.tag_arena.proofs.Granting.{rounded_some}
use Rattle.tag_arena.specs.FreeTags.{ranges_by_age}
use Rattle.std.specs.Option.{option_map}
use Rattle.tag_arena.specs.Fits.{IsWith, NoneBelow}
use Rattle.tag_arena.proofs.Lasting.{all_ranges}
use Rattle.tag_arena.proofs.Roving.{by_one, by_none, earliest_here, ends_before}
use Rattle.tag_arena.proofs.earliest.earliest_fit.Goals as goal
use Rattle.tag_arena.proofs.earliest.earliest_fit.Goals.{in-Some+in_default-least_in, in_default}

pub earliest_behind-requires-clause-below : goal.earliest_behind-requires-clause-below
earliest_behind-requires-clause-below g c =
    let free = ranges_by_age c.args.slots.now.tags in
    let all = all_ranges c.requires.tags.0 c.args.slots.now.tags c.requires.tags.1 in
    let some = rounded_some c.args.request.now.size c.args.quantum c.requires.good.size in
    elim c.match-range_with.branch [
      | in-Some+in_default-least_in w ↦
          let last = subst (λ o. IsWith c.args.start free (option_map (λ f. f.range) o)) w.in-Some.is c.range_with.ensures in
          by_one free all c.requires.apart c.args.quantum c.args.request.now c.args.start w.in-Some.found.range some last (λ b s past. w.in_default-least_in.ensures w.in-Some.found.range (sym w.range.ensures) b (s, past))
      | in_default w ↦
          let last = subst (λ o. IsWith c.args.start free (option_map (λ f. f.range) o)) w.in_default.is c.range_with.ensures in
          by_none free all c.requires.apart c.args.quantum c.args.request.now c.args.start some last
    ]

pub returns-in-Some-least_in-clause-least : goal.returns-in-Some-least_in-clause-least
returns-in-Some-least_in-clause-least g c =
    let q = c.args.request.now in
    let free = ranges_by_age c.args.slots.now.tags in
    let all = all_ranges c.requires.tags.0 c.args.slots.now.tags c.requires.tags.1 in
    let some = rounded_some q.size c.args.quantum c.requires.good.size in
    let range = c.in-Some.found.range in
    let last = subst (λ o. IsWith c.args.start free (option_map (λ f. f.range) o)) c.in-Some.is c.range_with.ensures in
    let found = c.in-Some-least_in.ensures range (sym c.range.ensures) in
    let cover = last.1 in
    let below : NoneBelow c.args.quantum q free c.args.start range.range.base = λ r b h lt serves past. (let ends = ends_before free all c.requires.apart r range h last.0 lt in let to = serves.to in omega (arith, ends, to, past, some, cover)) in
    earliest_here free all c.requires.apart c.args.quantum q c.args.start range.range.base range last.0 below (λ r h low lt. omega (arith, low, lt)) c.in-Some-least_in.base found.0.0 found.0.1 (λ b s past. found.1 b (s, past))

pub returns-in-Some-least_in-clause-placed : goal.returns-in-Some-least_in-clause-placed
returns-in-Some-least_in-clause-placed g c =
    let free = ranges_by_age c.args.slots.now.tags in
    let last = subst (λ o. IsWith c.args.start free (option_map (λ f. f.range) o)) c.in-Some.is c.range_with.ensures in
    record {
      among = last.0;
      serves = (c.in-Some-least_in.ensures c.in-Some.found.range (sym c.range.ensures)).0.0;
    }
