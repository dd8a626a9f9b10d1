use Rattle.std.proofs.Common.{Contains, sym, ap, ◌∙◌, subst}
use Rattle.tag_arena.specs.Boundaries.{LiesIn}
use Rattle.tag_arena.specs.Neighbors.{Without}
use Rattle.tag_arena.specs.FreeRanges.{keeps_bases, keeps_sizes}
use Rattle.tag_arena.specs.FreeTags.{ranges_by_age}
use Rattle.tag_arena.specs.declared.orders.Order.TheVariants.{Rising, Sizes}
use Rattle.tag_arena.proofs.Fitting.{tag_of_free}
use Rattle.tag_arena.proofs.Listing.{Some-injective}
use Rattle.tag_arena.proofs.Mirroring.{all_else, kept_take}
use Rattle.tag_arena.proofs.Indexing.{indexed_take, lists_so, ranges_take}
use Rattle.tag_arena.proofs.free_index.FreeIndex.take.Goals as goal

pub unreachable-requires : goal.unreachable-requires
unreachable-requires g c =
    let s = c.self.inside in
    let among = subst (λ l. Contains l c.args.range) (sym (ap (λ v. v.ranges) c.self.view_is)) c.requires.present in
    let w = tag_of_free s.slots.tags c.args.range among in
    subst (LiesIn c.args.range s.slots.tags) c.in_default.is c.slot_of-found.ensures w.0 w.1 w.2 w.3

pub strike-requires-3-clause-power : goal.strike-requires-3-clause-power
strike-requires-3-clause-power g c = (c.self.invariant.tags c.in-Some.slot c.tag-tag.result (sym c.tag-tag.ensures)).power

pub invariant_of-self : goal.invariant_of-self
invariant_of-self g c =
    let s = c.self.inside in
    let x = c.self.invariant in
    let s2 = c.take.new.self in
    let k = c.in-Some.slot in
    let t = c.tag-tag.result in
    let here = sym c.tag-tag.ensures in
    let becomes = c.take.ensures.becomes in
    let count = c.take.ensures.taken in
    let h2 = kept_take (keeps_bases s.policy) Rising s.slots s2 s.room s.rising c.strike.new.self x.rising c.strike.ensures.rest k t here becomes count c.strike.ensures.rises c.strike.ensures.items in
    let h3 = kept_take (keeps_sizes s.policy) Sizes s.slots s2 s.room s.sizes c.strike-2.new.self x.sizes c.strike-2.ensures.rest k t here becomes count c.strike-2.ensures.rises c.strike-2.ensures.items in
    let h4 = lists_so s.policy s.slots s2 s.lists c.strike-3.new.self k t x.lists_meet c.strike-3.ensures.is_kept c.strike-3.ensures.room c.take.ensures.room (λ kept linked. c.strike-3.ensures.linked kept s.slots.tags s2.tags linked x.timed here becomes) in
    indexed_take s.policy s.slots s2 s.rising s.sizes s.lists c.strike.new.self c.strike-2.new.self c.strike-3.new.self s.clock s.room k t x here becomes count c.take.ensures.room h2 (all_else s.rising c.strike.new.self c.strike.ensures.rest).0 h3 h4

pub returns-clause-ranges : goal.returns-clause-ranges
returns-clause-ranges g c =
    let s = c.self.inside in
    let s2 = c.take.new.self in
    let t = c.tag-tag.result in
    let lies = subst (LiesIn c.args.range s.slots.tags) c.in-Some.is c.slot_of-found.ensures in
    let range = ap (λ u. u.range) (Some-injective (c.tag-tag.ensures ∙ lies.1)) ∙ lies.2 in
    subst (λ h. Without c.args.self.now.ranges h (ranges_by_age s2.tags)) range
    (subst (λ l. Without l t.range (ranges_by_age s2.tags)) (ap (λ v. v.ranges) c.self.view_is) (ranges_take s.slots.tags s2.tags c.in-Some.slot t c.self.invariant.timed (sym c.tag-tag.ensures) c.take.ensures.becomes))
