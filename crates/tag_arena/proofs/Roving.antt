-- The least address from a start on, by the index of bases.
use Rattle.std.proofs.Common.{◌≡◌, ℕ, ◌+◌, ◌*◌, ◌^◌, ◌<◌, ◌≤◌, max, ap, subst, ⊎_elim, List, All, AllPairs, Contains, Option, None, Some, arith}
use Rattle.std.proofs.lemmas.Bool.{cases_lt}
use Rattle.std.proofs.lemmas.List.Elements.{All-contains}
use Rattle.deed_core.specs.Extent.{Covers, IsRange, end_of}
use Rattle.deed_core.specs.Holding.{Holding, Apart}
use Rattle.deed_core.specs.Request.{rounding_of}
use Rattle.deed_core.specs.declared.requests.Request.{Request}
use Rattle.tag_arena.specs.Place.{IsLeast, Serves, ServesIn}
use Rattle.tag_arena.proofs.Ranges.{apart_or_share, same_where_shared, Any-member, member-Any}
use Rattle.sorted_rows.specs.Order.{Rises}
use Rattle.sorted_rows.specs.Weights.{first_heavy_from}
use Rattle.tag_arena.specs.declared.entries.IndexEntry.{IndexEntry}
use Rattle.tag_arena.specs.declared.orders.Order.TheVariants.{Rising}
use Rattle.tag_arena.specs.declared.reaches.Measure.TheVariants.{Minor}
use Rattle.tag_arena.specs.FreeTags.{FreeTag, ranges_by_age, AreTags}
use Rattle.tag_arena.specs.Orders.{rank_of, weight_of, entry_of, Mirrors}
use Rattle.tag_arena.specs.Fits.{IsEarliest, IsWith, NoneBelow}
use Rattle.tag_arena.proofs.Fitting.{tag_of_free}
use Rattle.tag_arena.proofs.Weighing.{IsHeavy, none_heavy}

-- free ranges that don't overlap
module _ (free : List Holding) (ranges : All (λ r. IsRange r.range) free) (apart : AllPairs Apart free) where
  some_of : (r : Holding) → Contains free r → 0 < r.range.len
  some_of r h = (All-contains (λ x. IsRange x.range) free r ranges h).some

  -- of two the one that begins below ends below
  pub ends_before : (r s : Holding) → Contains free r → Contains free s → r.range.base < s.range.base → end_of r.range ≤ s.range.base
  ends_before r s hr hs lt =
      let pr = some_of r hr in
      let ps = some_of s hs in
      ⊎_elim
      (λ a. ⊎_elim (λ le. le) (λ le. absurd (omega (arith, le, lt, ps))) a)
      (λ sh. let e = same_where_shared free r s sh.0 apart hr hs sh.1 sh.2 in let b = ap (λ x. x.range.base) e in absurd (omega (arith, b, lt)))
      (apart_or_share r s pr ps)

  -- at each base there begins one
  pub same_begin : (r s : Holding) → Contains free r → Contains free s → r.range.base ≡ s.range.base → r ≡ s
  same_begin r s hr hs e =
      let pr = some_of r hr in
      let ps = some_of s hs in
      same_where_shared free r s r.range.base apart hr hs (omega arith, omega (arith, pr)) (omega (arith, e), omega (arith, e, ps))

  module _ (quantum : ℕ) (q : Request) (start : ℕ) where
    -- a range that serves has as many units
    roomy : (r : Holding) (b : ℕ) → ServesIn quantum q r b → r.range.len < rounding_of quantum q.size → ⊥
    roomy r b serves short = let from = serves.from in let to = serves.to in omega (arith, from, to, short)

    -- ranges passed by from `from` on to one
    module _ (from : ℕ) (range : Holding) (among : Contains free range) (below : NoneBelow quantum q free start from) (light : (r : Holding) → Contains free r → from ≤ r.range.base → r.range.base < range.range.base → r.range.len < rounding_of quantum q.size) where
      none_before : NoneBelow quantum q free start range.range.base
      none_before r b h lt serves past =
          ⊎_elim (λ low. below r b h low serves past) (λ high. roomy r b serves (light r h high lt)) (cases_lt r.range.base from)

      pub none_with : ((b : ℕ) → ServesIn quantum q range b → start ≤ b → ⊥) → (next : ℕ) → next ≡ range.range.base + 1 → NoneBelow quantum q free start next
      none_with none next is r b h lt serves past =
          ⊎_elim (λ low. none_before r b h low serves past)
          (λ high. let same = same_begin r range h among (omega (arith, high, lt, is)) in none b (subst (λ x. ServesIn quantum q x b) same serves) past)
          (cases_lt r.range.base range.range.base)

      pub earliest_here : (base : ℕ) → ServesIn quantum q range base → start ≤ base → ((b : ℕ) → ServesIn quantum q range b → start ≤ b → base ≤ b) → IsEarliest quantum q free start (Some base)
      earliest_here base serves past least = (
        (member-Any (λ r. ServesIn quantum q r base) free range among serves, past),
        λ n h.
            let w = h.0 in
            let r = w.1 in
            let among_r = Any-member free w in
            let there : ServesIn quantum q r n = w.4 in
            ⊎_elim (λ low. absurd (none_before r n among_r low there h.1))
            (λ high. ⊎_elim
            (λ over. let e = ends_before range r among among_r over in let to = serves.to in let from_r = there.from in omega (arith, e, to, from_r))
            (λ le. let same = same_begin r range among_r among (omega (arith, high, le)) in least n (subst (λ x. ServesIn quantum q x n) same there) h.1)
            (cases_lt range.range.base r.range.base))
            (cases_lt r.range.base range.range.base),
      )

    pub earliest_none : (from : ℕ) → NoneBelow quantum q free start from → ((r : Holding) → Contains free r → from ≤ r.range.base → r.range.len < rounding_of quantum q.size) → IsEarliest quantum q free start None
    earliest_none from below light n h =
        let w = h.0 in
        let r = w.1 in
        let among_r = Any-member free w in
        let there : ServesIn quantum q r n = w.4 in
        ⊎_elim (λ low. below r n among_r low there h.1) (λ high. roomy r n there (light r among_r high)) (cases_lt r.range.base from)

    -- what begins at the start or below it and serves from there on has the start in it
    reaches_past : 0 < rounding_of quantum q.size → (r : Holding) (b : ℕ) → r.range.base < start + 1 → ServesIn quantum q r b → start ≤ b → Covers r.range start
    reaches_past some r b lt serves past = let to = serves.to in (omega (arith, lt), omega (arith, to, past, some))

    pub by_one : (range : Holding) → 0 < rounding_of quantum q.size → IsWith start free (Some range) → ((b : ℕ) → ServesIn quantum q range b → start ≤ b → ⊥) → NoneBelow quantum q free start (start + 1)
    by_one range some with none r b h lt serves past =
        let same = same_where_shared free r range start apart h with.0 (reaches_past some r b lt serves past) with.1 in
        none b (subst (λ x. ServesIn quantum q x b) same serves) past

    pub by_none : 0 < rounding_of quantum q.size → IsWith start free None → NoneBelow quantum q free start (start + 1)
    by_none some with r b h lt serves past = All-contains (λ x. ¬ Covers x.range start) free r with h (reaches_past some r b lt serves past)

-- what the index passes by
module _ (units from clock : ℕ) (items : List IndexEntry) (tags : List (Option FreeTag)) (m : Mirrors Rising items tags) (rises : Rises rank_of items) (are : AreTags clock tags) where
  pub light_between : (e : IndexEntry) (t : FreeTag) → IsHeavy rank_of (weight_of Minor) (from * 2 ^ 64 + 0) units items rises e → e ≡ entry_of Rising e.slot t → (r : Holding) → Contains (ranges_by_age tags) r → from ≤ r.range.base → r.range.base < t.range.range.base → r.range.len < units
  light_between e t heavy is r h low lt =
      let w = tag_of_free tags r h in
      let rank_e = ap rank_of is in
      let long = ap (λ x. x.range.len) w.3 in
      let base = ap (λ x. x.range.base) w.3 in
      let top = (are w.0 w.1 w.2).range.below in
      let less = heavy.lighter (entry_of Rising w.0 w.1) (m.into w.0 w.1 w.2) (omega (arith, low, base)) (omega (arith, lt, base, top, rank_e)) in
      omega (arith, less, long)

  pub light_behind : first_heavy_from rank_of (weight_of Minor) (from * 2 ^ 64 + 0) units items ≡ None → (r : Holding) → Contains (ranges_by_age tags) r → from ≤ r.range.base → r.range.len < units
  light_behind none r h low =
      let w = tag_of_free tags r h in
      let long = ap (λ x. x.range.len) w.3 in
      let base = ap (λ x. x.range.base) w.3 in
      let less = none_heavy rank_of (weight_of Minor) (from * 2 ^ 64 + 0) units items rises none (entry_of Rising w.0 w.1) (m.into w.0 w.1 w.2) (omega (arith, low, base)) in
      omega (arith, less, long)

-- no address below `min` serves
module _ (quantum : ℕ) (q : Request) (free : List Holding) where
  over_min : (b : ℕ) → Serves quantum q free b → q.min ≤ b
  over_min b serves = let w : ServesIn quantum q serves.1 b = serves.4 in w.fits.min

  pub past_rover : (rover low : ℕ) (o : Option ℕ) → low ≡ max rover q.min → IsEarliest quantum q free low o → IsEarliest quantum q free rover o
  past_rover rover low None is none = λ n h. let m = over_min n h.0 in none n (h.0, omega (arith, m, h.1, is))
  past_rover rover low (Some b) is some = ((some.0.0, (let h = some.0.1 in omega (arith, h, is))), λ n h. let m = over_min n h.0 in some.1 n (h.0, omega (arith, m, h.1, is)))

  pub from_min : (o : Option ℕ) → IsEarliest quantum q free q.min o → IsLeast (Serves quantum q free) o
  from_min None none = λ n h. none n (h, over_min n h)
  from_min (Some b) some = (some.0.0, λ n h. some.1 n (h, over_min n h))
