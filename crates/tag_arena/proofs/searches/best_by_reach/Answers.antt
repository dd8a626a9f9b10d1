use Rattle.std.proofs.Common.{Contains, ◌≡◌, ℕ, ◌+◌, ◌*◌, ◌^◌, ◌<◌, ◌≤◌, Some, None, refl, sym, ap, ◌∙◌, subst, arith}
use Rattle.sorted_rows.specs.Order.{Rises}
use Rattle.sorted_rows.specs.Weights.{first_heavy_from}
use Rattle.deed_core.specs.Extent.{IsRange}
use Rattle.tag_arena.specs.Place.{ServesIn}
use Rattle.tag_arena.specs.FreeTags.{FreeTag, tag_at, ranges_by_age}
use Rattle.tag_arena.specs.Orders.{rank_of, weight_of}
use Rattle.tag_arena.specs.declared.reaches.Measure.TheVariants.{Reach}
use Rattle.tag_arena.proofs.Granting.{rounded_some}
use Rattle.tag_arena.proofs.Indexing.{range_is_free, sizes_range}
use Rattle.tag_arena.proofs.Weighing.{is_heavy, heavy_grows}
use Rattle.tag_arena.proofs.Fitting.{served_first, served_more, is_best}
use Rattle.tag_arena.proofs.Reached.{IsGridOf, served_before, first_there, none_reached}
use Rattle.tag_arena.proofs.searches.best_by_reach.Goals as goal

pub loop-entry-init : goal.loop-entry-init
loop-entry-init d c = record {
  kept = refl;
  served = served_first c.args.quantum c.args.request.now c.args.slots.now.tags c.args.units c.requires.units;
}

pub range_at-range-requires-clause-here : goal.range_at-range-requires-clause-here
range_at-range-requires-clause-here d c =
    let q = c.args.request.now in
    let g = c.of-grid.result in
    let items = c.args.sizes.now.items in
    let tags = c.args.slots.now.tags in
    let m = c.requires.mirrors in
    let are = c.requires.tags.1 in
    let same = ap (λ s. s.items) c.loop-entry.invariant.kept in
    let rises = subst (Rises rank_of) same c.first_weighing.ensures.rises in
    let key : ℕ = c.loop-entry.major * 2 ^ 64 + c.loop-entry.minor in
    let e = c.in-Some.entry in
    let found = subst (λ l. first_heavy_from rank_of (weight_of (Reach g)) key c.args.units l ≡ Some e) same (sym c.first_weighing.ensures.first ∙ c.in-Some.is) in
    let heavy = is_heavy rank_of (weight_of (Reach g)) key c.args.units items rises e found in
    let w = m.from e (heavy.place, heavy.within, heavy.here) in
    (w.0, w.1, sizes_range e w.0 w.2)

pub range_at-range-requires-clause-range : goal.range_at-range-requires-clause-range
range_at-range-requires-clause-range d c =
    let q = c.args.request.now in
    let g = c.of-grid.result in
    let items = c.args.sizes.now.items in
    let tags = c.args.slots.now.tags in
    let m = c.requires.mirrors in
    let are = c.requires.tags.1 in
    let same = ap (λ s. s.items) c.loop-entry.invariant.kept in
    let rises = subst (Rises rank_of) same c.first_weighing.ensures.rises in
    let key : ℕ = c.loop-entry.major * 2 ^ 64 + c.loop-entry.minor in
    let e = c.in-Some.entry in
    let found = subst (λ l. first_heavy_from rank_of (weight_of (Reach g)) key c.args.units l ≡ Some e) same (sym c.first_weighing.ensures.first ∙ c.in-Some.is) in
    let heavy = is_heavy rank_of (weight_of (Reach g)) key c.args.units items rises e found in
    let w = m.from e (heavy.place, heavy.within, heavy.here) in
    subst IsRange (sizes_range e w.0 w.2) (c.requires.tags.1 e.slot w.0 w.1).range

pub returns-in-Some-least_in-clause-choice : goal.returns-in-Some-least_in-clause-choice
returns-in-Some-least_in-clause-choice d c =
    let q = c.args.request.now in
    let g = c.of-grid.result in
    let items = c.args.sizes.now.items in
    let tags = c.args.slots.now.tags in
    let m = c.requires.mirrors in
    let are = c.requires.tags.1 in
    let same = ap (λ s. s.items) c.loop-entry.invariant.kept in
    let rises = subst (Rises rank_of) same c.first_weighing.ensures.rises in
    let key : ℕ = c.loop-entry.major * 2 ^ 64 + c.loop-entry.minor in
    let e = c.in-Some.entry in
    let found = subst (λ l. first_heavy_from rank_of (weight_of (Reach g)) key c.args.units l ≡ Some e) same (sym c.first_weighing.ensures.first ∙ c.in-Some.is) in
    let heavy = is_heavy rank_of (weight_of (Reach g)) key c.args.units items rises e found in
    let w = m.from e (heavy.place, heavy.within, heavy.here) in
    let range = c.range_at-range.ensures w.0 w.1 in
    let same_range : w.0.range.range ≡ c.range.result = sym (c.range.ensures ∙ ap (λ h. h.range) range) in
    let t = w.0 in
    let at = w.1 in
    let is = w.2 in
    let grid : IsGridOf c.args.quantum q g = record {
      on_grid = c.of-grid.ensures.on_grid;
      phase = c.of-grid.ensures.phase;
      nocross = c.of-grid.ensures.nocross;
      some = rounded_some q.size c.args.quantum c.requires.good.size;
      room = c.requires.good.nocross;
    } in
    let before = served_before c.args.quantum q c.args.units g c.requires.units grid items tags m rises c.requires.tags.0 are key c.loop-entry.invariant.served e heavy in
    let first = first_there c.args.quantum q c.args.units g c.requires.units grid items tags m rises c.requires.tags.0 are key c.loop-entry.invariant.served e heavy in
    let least_in = c.in-Some-least_in.ensures t.range same_range in
    let serves = least_in.0.0 in
    let least : (b : ℕ) → ServesIn c.args.quantum q t.range b → c.in-Some-least_in.base ≤ b = λ b s. least_in.1 b (s, omega arith) in
    let below : (k : ℕ) (u : FreeTag) → tag_at tags k ≡ Some u → u.range.range.base < 2 ^ 64 = λ k u here. let r = (are k u here).range.below in omega (arith, r) in
    (t.range, is_best c.args.quantum q items tags m rises (rank_of e) e t first at is c.in-Some-least_in.base below before serves least)

pub returns-in-Some-least_in-clause-placed : goal.returns-in-Some-least_in-clause-placed
returns-in-Some-least_in-clause-placed d c =
    let q = c.args.request.now in
    let g = c.of-grid.result in
    let items = c.args.sizes.now.items in
    let tags = c.args.slots.now.tags in
    let m = c.requires.mirrors in
    let are = c.requires.tags.1 in
    let same = ap (λ s. s.items) c.loop-entry.invariant.kept in
    let rises = subst (Rises rank_of) same c.first_weighing.ensures.rises in
    let key : ℕ = c.loop-entry.major * 2 ^ 64 + c.loop-entry.minor in
    let e = c.in-Some.entry in
    let found = subst (λ l. first_heavy_from rank_of (weight_of (Reach g)) key c.args.units l ≡ Some e) same (sym c.first_weighing.ensures.first ∙ c.in-Some.is) in
    let heavy = is_heavy rank_of (weight_of (Reach g)) key c.args.units items rises e found in
    let w = m.from e (heavy.place, heavy.within, heavy.here) in
    let range = c.range_at-range.ensures w.0 w.1 in
    let same_range : w.0.range.range ≡ c.range.result = sym (c.range.ensures ∙ ap (λ h. h.range) range) in
    record {
      among = subst (Contains (ranges_by_age tags)) (sym range) (range_is_free tags e.slot w.0 w.1);
      serves = subst (λ h. ServesIn c.args.quantum q h c.in-Some-least_in.base) (sym range) (c.in-Some-least_in.ensures w.0.range same_range).0.0;
    }

pub loop-entry-smaller : goal.loop-entry-smaller
loop-entry-smaller d c =
    let q = c.args.request.now in
    let g = c.of-grid.result in
    let items = c.args.sizes.now.items in
    let tags = c.args.slots.now.tags in
    let m = c.requires.mirrors in
    let are = c.requires.tags.1 in
    let same = ap (λ s. s.items) c.loop-entry.invariant.kept in
    let rises = subst (Rises rank_of) same c.first_weighing.ensures.rises in
    let key : ℕ = c.loop-entry.major * 2 ^ 64 + c.loop-entry.minor in
    let e = c.in-Some.entry in
    let found = subst (λ l. first_heavy_from rank_of (weight_of (Reach g)) key c.args.units l ≡ Some e) same (sym c.first_weighing.ensures.first ∙ c.in-Some.is) in
    let heavy = is_heavy rank_of (weight_of (Reach g)) key c.args.units items rises e found in
    let w = m.from e (heavy.place, heavy.within, heavy.here) in
    let range = c.range_at-range.ensures w.0 w.1 in
    let t = w.0 in
    let at = w.1 in
    let is = w.2 in
    let long = c.len-major.ensures.value ∙ ap (λ h. h.range.len) range in
    let base = c.base-minor.ensures.value ∙ ap (λ h. h.range.base) range in
    let rank = ap rank_of is in
    let next : ℕ = c.len-major.result * 2 ^ 64 + (c.base-minor.result + 1) in
    let more : next ≡ rank_of e + 1 = omega (arith, long, base, rank) in
    heavy_grows rank_of (weight_of (Reach g)) key c.args.units items rises e next heavy (omega (arith, more))

pub loop-entry-preserved : goal.loop-entry-preserved
loop-entry-preserved d c =
    let q = c.args.request.now in
    let g = c.of-grid.result in
    let items = c.args.sizes.now.items in
    let tags = c.args.slots.now.tags in
    let m = c.requires.mirrors in
    let are = c.requires.tags.1 in
    let same = ap (λ s. s.items) c.loop-entry.invariant.kept in
    let rises = subst (Rises rank_of) same c.first_weighing.ensures.rises in
    let key : ℕ = c.loop-entry.major * 2 ^ 64 + c.loop-entry.minor in
    let e = c.in-Some.entry in
    let found = subst (λ l. first_heavy_from rank_of (weight_of (Reach g)) key c.args.units l ≡ Some e) same (sym c.first_weighing.ensures.first ∙ c.in-Some.is) in
    let heavy = is_heavy rank_of (weight_of (Reach g)) key c.args.units items rises e found in
    let w = m.from e (heavy.place, heavy.within, heavy.here) in
    let range = c.range_at-range.ensures w.0 w.1 in
    let same_range : w.0.range.range ≡ c.range.result = sym (c.range.ensures ∙ ap (λ h. h.range) range) in
    let t = w.0 in
    let at = w.1 in
    let is = w.2 in
    let grid : IsGridOf c.args.quantum q g = record {
      on_grid = c.of-grid.ensures.on_grid;
      phase = c.of-grid.ensures.phase;
      nocross = c.of-grid.ensures.nocross;
      some = rounded_some q.size c.args.quantum c.requires.good.size;
      room = c.requires.good.nocross;
    } in
    let before = served_before c.args.quantum q c.args.units g c.requires.units grid items tags m rises c.requires.tags.0 are key c.loop-entry.invariant.served e heavy in
    let first = first_there c.args.quantum q c.args.units g c.requires.units grid items tags m rises c.requires.tags.0 are key c.loop-entry.invariant.served e heavy in
    let long = c.len-major.ensures.value ∙ ap (λ h. h.range.len) range in
    let base = c.base-minor.ensures.value ∙ ap (λ h. h.range.base) range in
    let rank = ap rank_of is in
    let next : ℕ = c.len-major.result * 2 ^ 64 + (c.base-minor.result + 1) in
    let more : next ≡ rank_of e + 1 = omega (arith, long, base, rank) in
    let none = λ (b : ℕ) (s : ServesIn c.args.quantum q t.range b). c.in_default-least_in.ensures t.range same_range b (s, omega arith) in
    record {
      kept = c.first_weighing.ensures.unchanged ∙ c.loop-entry.invariant.kept;
      served = served_more c.args.quantum q items tags m rises (rank_of e) e t first at is next more before none;
    }

pub returns-clause-choice : goal.returns-clause-choice
returns-clause-choice d c =
    let q = c.args.request.now in
    let g = c.of-grid.result in
    let items = c.args.sizes.now.items in
    let tags = c.args.slots.now.tags in
    let m = c.requires.mirrors in
    let are = c.requires.tags.1 in
    let same = ap (λ s. s.items) c.loop-entry.invariant.kept in
    let rises = subst (Rises rank_of) same c.first_weighing.ensures.rises in
    let key : ℕ = c.loop-entry.major * 2 ^ 64 + c.loop-entry.minor in
    let grid : IsGridOf c.args.quantum q g = record {
      on_grid = c.of-grid.ensures.on_grid;
      phase = c.of-grid.ensures.phase;
      nocross = c.of-grid.ensures.nocross;
      some = rounded_some q.size c.args.quantum c.requires.good.size;
      room = c.requires.good.nocross;
    } in
    let none = subst (λ l. first_heavy_from rank_of (weight_of (Reach g)) key c.args.units l ≡ None) same (sym c.first_weighing.ensures.first ∙ c.in_default.is) in
    none_reached c.args.quantum q c.args.units g c.requires.units grid items tags m rises c.requires.tags.0 are key c.loop-entry.invariant.served none
