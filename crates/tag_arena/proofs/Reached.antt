-- The best range on a grid by the index of sizes, of which ranges of too small a reach are passed by.
use Rattle.std.proofs.Common.{◌≡◌, ℕ, ◌+◌, ◌-◌, ◌/◌, ◌%◌, ◌^◌, ◌<◌, ◌≤◌, ◌↔◌, min, sym, ap, subst, ◌∙◌, ⊎_elim, List, get_or, Option, None, arith}
use Rattle.std.proofs.lemmas.Bool.{cases_lt}
use Rattle.deed_core.specs.Holding.{Holding}
use Rattle.deed_core.specs.Request.{HasGoodNocross, rounding_of}
use Rattle.deed_core.specs.declared.requests.Request.{Request}
use Rattle.sorted_rows.specs.Order.{Rises}
use Rattle.sorted_rows.specs.Weights.{first_heavy_from}
use Rattle.tag_arena.specs.declared.entries.IndexEntry.{IndexEntry}
use Rattle.tag_arena.specs.declared.orders.Order.TheVariants.{Sizes}
use Rattle.tag_arena.specs.declared.reaches.Measure.TheVariants.{Reach}
use Rattle.tag_arena.specs.FreeTags.{FreeTag, IsTag, AreTags, ranges_by_age}
use Rattle.tag_arena.specs.Orders.{rank_of, weight_of, entry_of, Mirrors}
use Rattle.tag_arena.specs.Place.{OnGrid, Serves, ServesIn}
use Rattle.tag_arena.specs.Reach.{GridState, reach_of}
use Rattle.tag_arena.proofs.Fitting.{Served}
use Rattle.tag_arena.proofs.Indexing.{tag_of_range}
use Rattle.tag_arena.proofs.Listing.{place_of_member}
use Rattle.tag_arena.proofs.Reaching.{serves_within}
use Rattle.tag_arena.proofs.Searching.{IsFirst}
use Rattle.tag_arena.proofs.Weighing.{IsHeavy, none_heavy}

-- the grid of a request
pub record IsGridOf (quantum : ℕ) (q : Request) (g : GridState) : Type 0 where
  pub on_grid : (base : ℕ) → (base % g.align ≡ g.phase) ↔ OnGrid quantum q base
  pub phase : g.phase < g.align
  pub nocross : g.nocross ≡ q.nocross
  pub some : 0 < rounding_of quantum q.size
  pub room : HasGoodNocross quantum q

module _ (quantum : ℕ) (q : Request) (units : ℕ) (g : GridState) (is : units ≡ rounding_of quantum q.size) (grid : IsGridOf quantum q g) where
  -- a range that serves has so great a reach
  serving_reach : (r : Holding) (b : ℕ) → ServesIn quantum q r b → rounding_of quantum q.size ≤ reach_of g r.range.base (r.range.base + r.range.len)
  serving_reach r b s =
      serves_within g r.range.base (r.range.base + r.range.len) b (rounding_of quantum q.size) grid.phase s.from s.to ((grid.on_grid b).1 (record { on_quantum = s.fits.whole; on_phase = s.fits.phase })) grid.some
      (λ o. subst (λ c. rounding_of quantum q.size ≤ c) (sym grid.nocross) (grid.room (λ z. o (grid.nocross ∙ z))).2)
      (λ o. subst (λ c. b / c ≡ (b + rounding_of quantum q.size - 1) / c) (sym grid.nocross) (s.fits.nocross (λ z. o (grid.nocross ∙ z))))

  -- its entry weighs as much
  serving_weight : (clock k : ℕ) (t : FreeTag) → IsTag clock t → (b : ℕ) → ServesIn quantum q t.range b → units ≤ weight_of (Reach g) (entry_of Sizes k t)
  serving_weight clock k t tag b s =
      let low : min t.range.range.base (2 ^ 62) ≡ t.range.range.base = (let h = tag.range.below in omega (arith, h)) in
      let high : min (t.range.range.len + t.range.range.base) (2 ^ 62) ≡ t.range.range.base + t.range.range.len = (let h = tag.range.below in omega (arith, h)) in
      let reach = serving_reach t.range b s in
      rw (low, high) (omega (arith, reach, is))

  module _ (items : List IndexEntry) (tags : List (Option FreeTag)) (m : Mirrors Sizes items tags) (rises : Rises rank_of items) (clock : ℕ) (are : AreTags clock tags) (key : ℕ) (served : Served quantum q items tags m rises key) where
    module _ (e : IndexEntry) (heavy : IsHeavy rank_of (weight_of (Reach g)) key units items rises e) where
      -- none serves that was passed by
      pub served_before : Served quantum q items tags m rises (rank_of e)
      served_before k u here lt b serves =
          ⊎_elim (λ low. served k u here low b serves)
          (λ ge.
          let light = heavy.lighter (entry_of Sizes k u) (m.into k u here) ge lt in
          let weighs = serving_weight clock k u (are k u here) b serves in
          omega (arith, light, weighs))
          (cases_lt (rank_of (entry_of Sizes k u)) key)

      -- so the entry is as if it were the first from its own key on
      pub first_there : IsFirst rank_of (rank_of e) items rises e
      first_there =
          let at = place_of_member rank_of items e heavy.place rises heavy.within heavy.here in
          record {
            within = omega (arith, at, heavy.within);
            here = ap (λ p. get_or items p e) at ∙ heavy.here;
            from = omega arith;
            least = λ x c ge. ge;
          }

    pub none_reached : first_heavy_from rank_of (weight_of (Reach g)) key units items ≡ None → (base : ℕ) → Serves quantum q (ranges_by_age tags) base → ⊥
    none_reached none base serves =
        let w = tag_of_range tags (λ r. ServesIn quantum q r base) serves in
        ⊎_elim (λ low. served w.0 w.1 w.2 low base w.3)
        (λ ge.
        let light = none_heavy rank_of (weight_of (Reach g)) key units items rises none (entry_of Sizes w.0 w.1) (m.into w.0 w.1 w.2) ge in
        let weighs = serving_weight clock w.0 w.1 (are w.0 w.1 w.2) base w.3 in
        omega (arith, light, weighs))
        (cases_lt (rank_of (entry_of Sizes w.0 w.1)) key)
