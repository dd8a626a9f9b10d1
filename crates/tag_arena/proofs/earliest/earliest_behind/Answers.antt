use Rattle.std.proofs.Common.{ℕ, IfSome, ◌+◌, ◌*◌, ◌^◌, ◌<◌, ◌≡◌, ◌≤◌, Contains, None, Some, sym, ap, ◌∙◌, subst, arith}
use Rattle.deed_core.specs.Holding.{Holding}
use Rattle.deed_core.specs.Request.{rounding_of}
use Rattle.sorted_rows.specs.Order.{Rises}
use Rattle.sorted_rows.specs.Weights.{first_heavy_from}
use Rattle.deed_core.specs.Extent.{IsRange}
use Rattle.tag_arena.specs.Place.{ServesIn}
use Rattle.tag_arena.specs.FreeTags.{ranges_by_age}
use Rattle.tag_arena.specs.Orders.{rank_of, weight_of}
use Rattle.tag_arena.specs.declared.reaches.Measure.TheVariants.{Minor}
use Rattle.tag_arena.proofs.Indexing.{range_is_free, rising_range}
use Rattle.tag_arena.proofs.Lasting.{all_ranges}
use Rattle.tag_arena.proofs.Weighing.{is_heavy, heavy_grows}
use Rattle.tag_arena.proofs.Roving.{none_with, earliest_here, earliest_none, light_between, light_behind}
use Rattle.std.proofs.lemmas.Bool.{false≢true}
use Rattle.tag_arena.proofs.earliest.earliest_behind.Goals as goal

pub unreachable-requires : goal.unreachable-requires
unreachable-requires g c =
    let items = c.args.rising.now.items in
    let m = c.requires.mirrors in
    let are = c.requires.tags.1 in
    let same = ap (λ s. s.items) c.loop-entry.invariant.kept in
    let rises = subst (Rises rank_of) same c.first_weighing.ensures.rises in
    let from : ℕ = c.loop-entry.from in
    let e = c.in-Some.entry in
    let met = subst (λ l. first_heavy_from rank_of (weight_of Minor) (from * 2 ^ 64 + 0) c.args.units l ≡ Some e) same (sym c.first_weighing.ensures.first ∙ c.in-Some.is) in
    let first = is_heavy rank_of (weight_of Minor) (from * 2 ^ 64 + 0) c.args.units items rises e met in
    let w = m.from e (first.place, first.within, first.here) in
    let valid : IsRange (record { base = e.major; len = e.minor }) = subst IsRange (rising_range e w.0 w.2) (are e.slot w.0 w.1).range in
    false≢true (c.in_default-new.ensures.valid.1 valid)

pub range_at-range-requires-clause-here : goal.range_at-range-requires-clause-here
range_at-range-requires-clause-here g c =
    let q = c.args.request.now in
    let items = c.args.rising.now.items in
    let tags = c.args.slots.now.tags in
    let m = c.requires.mirrors in
    let are = c.requires.tags.1 in
    let same = ap (λ s. s.items) c.loop-entry.invariant.kept in
    let rises = subst (Rises rank_of) same c.first_weighing.ensures.rises in
    let from : ℕ = c.loop-entry.from in
    let e = c.in-Some.entry in
    let met = subst (λ l. first_heavy_from rank_of (weight_of Minor) (from * 2 ^ 64 + 0) c.args.units l ≡ Some e) same (sym c.first_weighing.ensures.first ∙ c.in-Some.is) in
    let first = is_heavy rank_of (weight_of Minor) (from * 2 ^ 64 + 0) c.args.units items rises e met in
    let w = m.from e (first.place, first.within, first.here) in
    (w.0, w.1, rising_range e w.0 w.2)

pub range_at-range-requires-clause-range : goal.range_at-range-requires-clause-range
range_at-range-requires-clause-range g c =
    let q = c.args.request.now in
    let items = c.args.rising.now.items in
    let tags = c.args.slots.now.tags in
    let m = c.requires.mirrors in
    let are = c.requires.tags.1 in
    let same = ap (λ s. s.items) c.loop-entry.invariant.kept in
    let rises = subst (Rises rank_of) same c.first_weighing.ensures.rises in
    let from : ℕ = c.loop-entry.from in
    let e = c.in-Some.entry in
    let met = subst (λ l. first_heavy_from rank_of (weight_of Minor) (from * 2 ^ 64 + 0) c.args.units l ≡ Some e) same (sym c.first_weighing.ensures.first ∙ c.in-Some.is) in
    let first = is_heavy rank_of (weight_of Minor) (from * 2 ^ 64 + 0) c.args.units items rises e met in
    let w = m.from e (first.place, first.within, first.here) in
    subst IsRange (rising_range e w.0 w.2) (c.requires.tags.1 e.slot w.0 w.1).range

pub returns-in-Some-least_in-clause-least : goal.returns-in-Some-least_in-clause-least
returns-in-Some-least_in-clause-least g c =
    let q = c.args.request.now in
    let items = c.args.rising.now.items in
    let tags = c.args.slots.now.tags in
    let m = c.requires.mirrors in
    let are = c.requires.tags.1 in
    let same = ap (λ s. s.items) c.loop-entry.invariant.kept in
    let rises = subst (Rises rank_of) same c.first_weighing.ensures.rises in
    let from : ℕ = c.loop-entry.from in
    let e = c.in-Some.entry in
    let met = subst (λ l. first_heavy_from rank_of (weight_of Minor) (from * 2 ^ 64 + 0) c.args.units l ≡ Some e) same (sym c.first_weighing.ensures.first ∙ c.in-Some.is) in
    let first = is_heavy rank_of (weight_of Minor) (from * 2 ^ 64 + 0) c.args.units items rises e met in
    let w = m.from e (first.place, first.within, first.here) in
    let made : c.in-Some-new.range ≡ record { base = e.major; len = e.minor } = subst (λ o. IfSome o (λ x. x ≡ record { base = e.major; len = e.minor })) c.in-Some-new.is c.new.ensures.value in
    let same_range : w.0.range.range ≡ c.in-Some-new.range = rising_range e w.0 w.2 ∙ sym made in
    let t = w.0 in
    let at = w.1 in
    let is = w.2 in
    let free = ranges_by_age tags in
    let among = range_is_free tags e.slot t at in
    let all = all_ranges c.requires.tags.0 tags are in
    let units = c.requires.units in
    let light : (r : Holding) → Contains free r → from ≤ r.range.base → r.range.base < t.range.range.base → r.range.len < rounding_of c.args.quantum q.size = λ r h low lt. (let short = light_between c.args.units from c.requires.tags.0 items tags m rises are e t first is r h low lt in omega (arith, short, units)) in
    let found = c.in-Some-least_in.ensures t.range same_range in
    let base = c.in-Some-least_in.base in
    let serves = found.0.0 in
    earliest_here free all c.requires.apart c.args.quantum q c.args.start from t.range among c.loop-entry.invariant.below light base serves found.0.1
    (λ b s past. found.1 b (s, past))

pub returns-in-Some-least_in-clause-placed : goal.returns-in-Some-least_in-clause-placed
returns-in-Some-least_in-clause-placed g c =
    let q = c.args.request.now in
    let items = c.args.rising.now.items in
    let tags = c.args.slots.now.tags in
    let m = c.requires.mirrors in
    let are = c.requires.tags.1 in
    let same = ap (λ s. s.items) c.loop-entry.invariant.kept in
    let rises = subst (Rises rank_of) same c.first_weighing.ensures.rises in
    let from : ℕ = c.loop-entry.from in
    let e = c.in-Some.entry in
    let met = subst (λ l. first_heavy_from rank_of (weight_of Minor) (from * 2 ^ 64 + 0) c.args.units l ≡ Some e) same (sym c.first_weighing.ensures.first ∙ c.in-Some.is) in
    let first = is_heavy rank_of (weight_of Minor) (from * 2 ^ 64 + 0) c.args.units items rises e met in
    let w = m.from e (first.place, first.within, first.here) in
    let made : c.in-Some-new.range ≡ record { base = e.major; len = e.minor } = subst (λ o. IfSome o (λ x. x ≡ record { base = e.major; len = e.minor })) c.in-Some-new.is c.new.ensures.value in
    let same_range : w.0.range.range ≡ c.in-Some-new.range = rising_range e w.0 w.2 ∙ sym made in
    let range = c.range_at-range.ensures w.0 w.1 in
    let least_in = c.in-Some-least_in.ensures w.0.range same_range in
    record {
      among = subst (Contains (ranges_by_age tags)) (sym range) (range_is_free tags e.slot w.0 w.1);
      serves = subst (λ h. ServesIn c.args.quantum q h c.in-Some-least_in.base) (sym range) least_in.0.0;
    }

pub loop-entry-smaller : goal.loop-entry-smaller
loop-entry-smaller g c =
    let q = c.args.request.now in
    let items = c.args.rising.now.items in
    let tags = c.args.slots.now.tags in
    let m = c.requires.mirrors in
    let are = c.requires.tags.1 in
    let same = ap (λ s. s.items) c.loop-entry.invariant.kept in
    let rises = subst (Rises rank_of) same c.first_weighing.ensures.rises in
    let from : ℕ = c.loop-entry.from in
    let e = c.in-Some.entry in
    let met = subst (λ l. first_heavy_from rank_of (weight_of Minor) (from * 2 ^ 64 + 0) c.args.units l ≡ Some e) same (sym c.first_weighing.ensures.first ∙ c.in-Some.is) in
    let first = is_heavy rank_of (weight_of Minor) (from * 2 ^ 64 + 0) c.args.units items rises e met in
    let w = m.from e (first.place, first.within, first.here) in
    let made : c.in-Some-new.range ≡ record { base = e.major; len = e.minor } = subst (λ o. IfSome o (λ x. x ≡ record { base = e.major; len = e.minor })) c.in-Some-new.is c.new.ensures.value in
    let same_range : w.0.range.range ≡ c.in-Some-new.range = rising_range e w.0 w.2 ∙ sym made in
    let t = w.0 in
    let at = w.1 in
    let is = w.2 in
    let free = ranges_by_age tags in
    let among = range_is_free tags e.slot t at in
    let all = all_ranges c.requires.tags.0 tags are in
    let units = c.requires.units in
    let light : (r : Holding) → Contains free r → from ≤ r.range.base → r.range.base < t.range.range.base → r.range.len < rounding_of c.args.quantum q.size = λ r h low lt. (let short = light_between c.args.units from c.requires.tags.0 items tags m rises are e t first is r h low lt in omega (arith, short, units)) in
    let base = c.base-from.ensures.value ∙ sym (ap (λ x. x.base) same_range) in
    let rank = ap rank_of is in
    let top = (are e.slot t at).range.below in
    let next : ℕ = (c.base-from.result + 1) * 2 ^ 64 + 0 in
    heavy_grows rank_of (weight_of Minor) (from * 2 ^ 64 + 0) c.args.units items rises e next first (omega (arith, base, rank, top))

pub loop-entry-preserved : goal.loop-entry-preserved
loop-entry-preserved g c =
    let q = c.args.request.now in
    let items = c.args.rising.now.items in
    let tags = c.args.slots.now.tags in
    let m = c.requires.mirrors in
    let are = c.requires.tags.1 in
    let same = ap (λ s. s.items) c.loop-entry.invariant.kept in
    let rises = subst (Rises rank_of) same c.first_weighing.ensures.rises in
    let from : ℕ = c.loop-entry.from in
    let e = c.in-Some.entry in
    let met = subst (λ l. first_heavy_from rank_of (weight_of Minor) (from * 2 ^ 64 + 0) c.args.units l ≡ Some e) same (sym c.first_weighing.ensures.first ∙ c.in-Some.is) in
    let first = is_heavy rank_of (weight_of Minor) (from * 2 ^ 64 + 0) c.args.units items rises e met in
    let w = m.from e (first.place, first.within, first.here) in
    let made : c.in-Some-new.range ≡ record { base = e.major; len = e.minor } = subst (λ o. IfSome o (λ x. x ≡ record { base = e.major; len = e.minor })) c.in-Some-new.is c.new.ensures.value in
    let same_range : w.0.range.range ≡ c.in-Some-new.range = rising_range e w.0 w.2 ∙ sym made in
    let t = w.0 in
    let at = w.1 in
    let is = w.2 in
    let free = ranges_by_age tags in
    let among = range_is_free tags e.slot t at in
    let all = all_ranges c.requires.tags.0 tags are in
    let units = c.requires.units in
    let light : (r : Holding) → Contains free r → from ≤ r.range.base → r.range.base < t.range.range.base → r.range.len < rounding_of c.args.quantum q.size = λ r h low lt. (let short = light_between c.args.units from c.requires.tags.0 items tags m rises are e t first is r h low lt in omega (arith, short, units)) in
    let base = c.base-from.ensures.value ∙ sym (ap (λ x. x.base) same_range) in
    record {
      kept = c.first_weighing.ensures.unchanged ∙ c.loop-entry.invariant.kept;
      below = none_with free all c.requires.apart c.args.quantum q c.args.start from t.range among c.loop-entry.invariant.below light
          (λ b s past. c.in_default-least_in.ensures t.range same_range b (s, past))
          (c.base-from.result + 1) (omega (arith, base));
    }

pub returns-clause-least : goal.returns-clause-least
returns-clause-least g c =
    let items = c.args.rising.now.items in
    let tags = c.args.slots.now.tags in
    let from : ℕ = c.loop-entry.from in
    let units = c.requires.units in
    let same = ap (λ s. s.items) c.loop-entry.invariant.kept in
    let rises = subst (Rises rank_of) same c.first_weighing.ensures.rises in
    let none = subst (λ l. first_heavy_from rank_of (weight_of Minor) (from * 2 ^ 64 + 0) c.args.units l ≡ None) same (sym c.first_weighing.ensures.first ∙ c.in_default.is) in
    earliest_none (ranges_by_age tags) (all_ranges c.requires.tags.0 tags c.requires.tags.1) c.requires.apart c.args.quantum c.args.request.now c.args.start from c.loop-entry.invariant.below
    (λ r h low. let short = light_behind c.args.units from c.requires.tags.0 items tags c.requires.mirrors rises c.requires.tags.1 none r h low in omega (arith, short, units))
