use Rattle.std.proofs.Common.{Contains, ◌≡◌, ℕ, ◌+◌, ◌*◌, ◌^◌, ◌<◌, ◌≤◌, Some, sym, ap, ◌∙◌, subst, arith}
use Rattle.sorted_rows.specs.Order.{place_below}
use Rattle.deed_core.specs.Extent.{IsRange}
use Rattle.tag_arena.specs.Place.{ServesIn}
use Rattle.tag_arena.specs.FreeTags.{FreeTag, tag_at, ranges_by_age}
use Rattle.tag_arena.specs.Orders.{rank_of}
use Rattle.tag_arena.proofs.Indexing.{range_is_free, sizes_range}
use Rattle.tag_arena.proofs.Searching.{is_first, place_grows}
use Rattle.tag_arena.proofs.Fitting.{served_first, served_more, is_best, none_serves}
use Rattle.tag_arena.proofs.searches.best_by_length.Goals as goal

pub loop-entry-init : goal.loop-entry-init
loop-entry-init g c = served_first c.args.quantum c.args.request.now c.args.slots.now.tags c.args.units c.requires.units

pub range_at-range-requires-clause-here : goal.range_at-range-requires-clause-here
range_at-range-requires-clause-here g c =
    let q = c.args.request.now in
    let items = c.args.sizes.now.items in
    let tags = c.args.slots.now.tags in
    let m = c.requires.mirrors in
    let rises = c.first_from.ensures.rises in
    let key : ℕ = c.loop-entry.major * 2 ^ 64 + c.loop-entry.minor in
    let e = c.in-Some.entry in
    let first = is_first rank_of key items rises e (sym c.first_from.ensures.first ∙ c.in-Some.is) in
    let w = m.from e (place_below rank_of key items, first.within, first.here) in
    (w.0, w.1, sizes_range e w.0 w.2)

pub range_at-range-requires-clause-range : goal.range_at-range-requires-clause-range
range_at-range-requires-clause-range g c =
    let q = c.args.request.now in
    let items = c.args.sizes.now.items in
    let tags = c.args.slots.now.tags in
    let m = c.requires.mirrors in
    let rises = c.first_from.ensures.rises in
    let key : ℕ = c.loop-entry.major * 2 ^ 64 + c.loop-entry.minor in
    let e = c.in-Some.entry in
    let first = is_first rank_of key items rises e (sym c.first_from.ensures.first ∙ c.in-Some.is) in
    let w = m.from e (place_below rank_of key items, first.within, first.here) in
    subst IsRange (sizes_range e w.0 w.2) (c.requires.tags.1 e.slot w.0 w.1).range

pub returns-in-Some-least_in-clause-choice : goal.returns-in-Some-least_in-clause-choice
returns-in-Some-least_in-clause-choice g c =
    let q = c.args.request.now in
    let items = c.args.sizes.now.items in
    let tags = c.args.slots.now.tags in
    let m = c.requires.mirrors in
    let rises = c.first_from.ensures.rises in
    let key : ℕ = c.loop-entry.major * 2 ^ 64 + c.loop-entry.minor in
    let e = c.in-Some.entry in
    let first = is_first rank_of key items rises e (sym c.first_from.ensures.first ∙ c.in-Some.is) in
    let w = m.from e (place_below rank_of key items, first.within, first.here) in
    let range = c.range_at-range.ensures w.0 w.1 in
    let same_range : w.0.range.range ≡ c.range.result = sym (c.range.ensures ∙ ap (λ h. h.range) range) in
    let t = w.0 in
    let at = w.1 in
    let is = w.2 in
    let found = c.in-Some-least_in.ensures t.range same_range in
    let serves = found.0.0 in
    let least : (b : ℕ) → ServesIn c.args.quantum q t.range b → c.in-Some-least_in.base ≤ b = λ b s. found.1 b (s, omega arith) in
    let below : (k : ℕ) (u : FreeTag) → tag_at tags k ≡ Some u → u.range.range.base < 2 ^ 64 = λ k u here. let r = (c.requires.tags.1 k u here).range.below in omega (arith, r) in
    (t.range, is_best c.args.quantum q items tags m rises key e t first at is c.in-Some-least_in.base below c.loop-entry.invariant serves least)

pub returns-in-Some-least_in-clause-placed : goal.returns-in-Some-least_in-clause-placed
returns-in-Some-least_in-clause-placed g c =
    let q = c.args.request.now in
    let items = c.args.sizes.now.items in
    let tags = c.args.slots.now.tags in
    let m = c.requires.mirrors in
    let rises = c.first_from.ensures.rises in
    let key : ℕ = c.loop-entry.major * 2 ^ 64 + c.loop-entry.minor in
    let e = c.in-Some.entry in
    let first = is_first rank_of key items rises e (sym c.first_from.ensures.first ∙ c.in-Some.is) in
    let w = m.from e (place_below rank_of key items, first.within, first.here) in
    let range = c.range_at-range.ensures w.0 w.1 in
    let same_range : w.0.range.range ≡ c.range.result = sym (c.range.ensures ∙ ap (λ h. h.range) range) in
    let t = w.0 in
    let at = w.1 in
    let is = w.2 in
    let found = c.in-Some-least_in.ensures w.0.range same_range in
    record {
      among = subst (Contains (ranges_by_age tags)) (sym range) (range_is_free tags e.slot t at);
      serves = subst (λ h. ServesIn c.args.quantum q h c.in-Some-least_in.base) (sym range) found.0.0;
    }

pub loop-entry-smaller : goal.loop-entry-smaller
loop-entry-smaller g c =
    let q = c.args.request.now in
    let items = c.args.sizes.now.items in
    let tags = c.args.slots.now.tags in
    let m = c.requires.mirrors in
    let rises = c.first_from.ensures.rises in
    let key : ℕ = c.loop-entry.major * 2 ^ 64 + c.loop-entry.minor in
    let e = c.in-Some.entry in
    let first = is_first rank_of key items rises e (sym c.first_from.ensures.first ∙ c.in-Some.is) in
    let w = m.from e (place_below rank_of key items, first.within, first.here) in
    let range = c.range_at-range.ensures w.0 w.1 in
    let t = w.0 in
    let at = w.1 in
    let is = w.2 in
    let long = c.len-major.ensures.value ∙ ap (λ h. h.range.len) range in
    let base = c.base-minor.ensures.value ∙ ap (λ h. h.range.base) range in
    let rank = ap rank_of is in
    let next : ℕ = c.len-major.result * 2 ^ 64 + (c.base-minor.result + 1) in
    let more : next ≡ rank_of e + 1 = omega (arith, long, base, rank) in
    place_grows rank_of key items rises e next first (omega (arith, more))

pub loop-entry-preserved : goal.loop-entry-preserved
loop-entry-preserved g c =
    let q = c.args.request.now in
    let items = c.args.sizes.now.items in
    let tags = c.args.slots.now.tags in
    let m = c.requires.mirrors in
    let rises = c.first_from.ensures.rises in
    let key : ℕ = c.loop-entry.major * 2 ^ 64 + c.loop-entry.minor in
    let e = c.in-Some.entry in
    let first = is_first rank_of key items rises e (sym c.first_from.ensures.first ∙ c.in-Some.is) in
    let w = m.from e (place_below rank_of key items, first.within, first.here) in
    let range = c.range_at-range.ensures w.0 w.1 in
    let same_range : w.0.range.range ≡ c.range.result = sym (c.range.ensures ∙ ap (λ h. h.range) range) in
    let t = w.0 in
    let at = w.1 in
    let is = w.2 in
    let long = c.len-major.ensures.value ∙ ap (λ h. h.range.len) range in
    let base = c.base-minor.ensures.value ∙ ap (λ h. h.range.base) range in
    let rank = ap rank_of is in
    let next : ℕ = c.len-major.result * 2 ^ 64 + (c.base-minor.result + 1) in
    let more : next ≡ rank_of e + 1 = omega (arith, long, base, rank) in
    let none = λ (b : ℕ) (s : ServesIn c.args.quantum q t.range b). c.in_default-least_in.ensures t.range same_range b (s, omega arith) in
    served_more c.args.quantum q items tags m rises key e t first at is next more c.loop-entry.invariant none

pub returns-clause-choice : goal.returns-clause-choice
returns-clause-choice g c =
    let key : ℕ = c.loop-entry.major * 2 ^ 64 + c.loop-entry.minor in
    none_serves c.args.quantum c.args.request.now c.args.sizes.now.items c.args.slots.now.tags c.requires.mirrors c.first_from.ensures.rises key c.loop-entry.invariant (sym c.first_from.ensures.first ∙ c.in_default.is)
