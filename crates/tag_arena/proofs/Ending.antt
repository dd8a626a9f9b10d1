-- The last entry up to a unit: which range has the unit in it.
use Rattle.std.proofs.Common.{◌≡◌, ℕ, ◌+◌, ◌<◌, ◌≤◌, ◌^◌, ap, ⊎_elim, List, AllPairs, Option, Some, None, arith}
use Rattle.std.proofs.lemmas.Bool.{cases_lt}
use Rattle.std.proofs.lemmas.List.Elements.{All-contains}
use Rattle.deed_core.specs.Extent.{Covers, end_of}
use Rattle.deed_core.specs.Holding.{Apart}
use Rattle.sorted_rows.specs.Order.{Rises, last_to}
use Rattle.tag_arena.specs.declared.entries.IndexEntry.{IndexEntry}
use Rattle.tag_arena.specs.declared.orders.Order.TheVariants.{Rising}
use Rattle.tag_arena.specs.Fits.{IsWith}
use Rattle.tag_arena.specs.FreeTags.{FreeTag, tag_at, ranges_by_age, AreTags}
use Rattle.tag_arena.specs.Orders.{rank_of, entry_of, Mirrors}
use Rattle.tag_arena.proofs.Lasting.{IsLastBy, last_key, none_by, some_by, all_ranges}
use Rattle.tag_arena.proofs.Members.{All-from_members}
use Rattle.tag_arena.proofs.Roving.{ends_before, same_begin}
use Rattle.tag_arena.proofs.Searching.{is_last}

module _ (unit clock : ℕ) (items : List IndexEntry) (tags : List (Option FreeTag)) (m : Mirrors Rising items tags) (rises : Rises rank_of items) (are : AreTags clock tags) where
  module _ (e : IndexEntry) (found : last_to rank_of (last_key unit) items ≡ Some e) where
    -- its tag
    pub last_tag : (t : FreeTag) × (tag_at tags e.slot ≡ Some t) × (e ≡ entry_of Rising e.slot t)
    last_tag = m.from e (is_last rank_of (last_key unit) items rises e found).among

    pub last_range : IsLastBy unit (ranges_by_age tags) (Some last_tag.0.range)
    last_range = some_by unit clock items tags m rises are e last_tag.0 (is_last rank_of (last_key unit) items rises e found) last_tag.1 last_tag.2

    pub sum_is : e.major + e.minor ≡ end_of last_tag.0.range.range
    sum_is = ap (λ (x : IndexEntry). x.major + x.minor) last_tag.2

    pub sum_fits : e.major + e.minor < 2 ^ 64
    sum_fits = let range = (are e.slot last_tag.0 last_tag.1).range in omega (arith, range.below, sum_is)

    -- where its range ends by the unit, no range has the unit in it
    pub ends_by : AllPairs Apart (ranges_by_age tags) → e.major + e.minor ≤ unit → IsWith unit (ranges_by_age tags) None
    ends_by apart short =
        let free = ranges_by_age tags in
        let all = all_ranges clock tags are in
        let here = last_tag.0.range in
        All-from_members (λ r. ¬ Covers r.range unit) free
        (λ r in-r has.
        let low = last_range.2 r in-r has.0 in
        let to = last_range.1 in
        ⊎_elim (λ lt. let before = ends_before free all apart r here in-r last_range.0 lt in omega (arith, before, to, has.1))
        (λ ge. let same = ap (λ h. end_of h.range) (same_begin free all apart r here in-r last_range.0 (omega (arith, low, ge))) in omega (arith, same, sum_is, short, has.1))
        (cases_lt r.range.base here.range.base))

    pub has_unit : unit < e.major + e.minor → IsWith unit (ranges_by_age tags) (Some last_tag.0.range)
    has_unit long = (last_range.0, (last_range.1, omega (arith, long, sum_is)))

  pub has_none : last_to rank_of (last_key unit) items ≡ None → IsWith unit (ranges_by_age tags) None
  has_none none =
      All-from_members (λ r. ¬ Covers r.range unit) (ranges_by_age tags)
      (λ r in-r has. let above = All-contains (λ x. unit < x.range.base) (ranges_by_age tags) r (none_by unit clock items tags m rises are none) in-r in omega (arith, above, has.0))
