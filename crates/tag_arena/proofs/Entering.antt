-- An index that has the tags of the first slots, with those of one slot more.
use Rattle.std.proofs.Common.{◌≡◌, ◌≢◌, ℕ, ◌+◌, ◌<◌, ◌≤◌, sym, ap, subst, ◌∙◌, ⊎_elim, List, length, get_or, take, map, HoldsAt, All, AllPairs, Option, None, Some, arith}
use Rattle.std.proofs.lemmas.List.{get_or-take, get_or_past, get_or-map, length-map, length-take}
use Rattle.std.proofs.lemmas.List.Elements.{at_from_Contains}
use Rattle.std.proofs.lemmas.List.Sums.{sum_by_more}
use Rattle.std.proofs.lemmas.Bool.{cases_order}
use Rattle.deed_core.specs.Holding.{Apart}
use Rattle.sorted_rows.specs.Order.{Rises, PutsIn}
use Rattle.tag_arena.specs.declared.entries.IndexEntry.{IndexEntry}
use Rattle.tag_arena.specs.declared.orders.Order.{Order}
use Rattle.tag_arena.specs.FreeTags.{FreeTag, range_of, since_of, tag_at, SlotBecomes, tags_by_age, ranges_by_age, IsTimed, AreTags}
use Rattle.tag_arena.specs.Orders.{rank_of, entry_of, Mirrors}
use Rattle.tag_arena.specs.Slotted.{taken_count}
use Rattle.tag_arena.proofs.Aging.{in_tags_by_age}
use Rattle.tag_arena.proofs.Listing.{None≢Some}
use Rattle.tag_arena.proofs.Mirroring.{absent_entry, mirrors_put}
use Rattle.tag_arena.proofs.Slotting.{one_of, slot_within}

-- of ranges that are apart, two that have units differ in base
pair_differs : (ages : List FreeTag) (i j : ℕ) (u t : FreeTag) → AllPairs Apart (map range_of ages) → i < j → j < length ages → HoldsAt (λ x. x ≡ u) ages i → HoldsAt (λ x. x ≡ t) ages j → 0 < u.range.range.len → 0 < t.range.range.len
    → u.range.range.base ≢ t.range.range.base
pair_differs ages i j u t apart lt within at_i at_j long_u long_t same =
    let h = apart i j u.range lt (omega (arith, within, length-map ages range_of)) in
    let is_u = get_or-map range_of ages i u u.range (omega (arith, lt, within)) ∙ ap range_of (at_i u) in
    let is_t = get_or-map range_of ages j u u.range within ∙ ap range_of (at_j u) in
    let both : Apart u.range t.range = subst (λ x. Apart x t.range) is_u (subst (Apart (get_or (map range_of ages) i u.range)) is_t h) in
    ⊎_elim (λ le. omega (arith, le, same, long_u)) (λ le. omega (arith, le, same, long_t)) both

-- the tags of two slots differ in base
pub tags_differ : (clock : ℕ) (tags : List (Option FreeTag)) → IsTimed tags → AreTags clock tags → AllPairs Apart (ranges_by_age tags) → (j k : ℕ) (u t : FreeTag) → tag_at tags j ≡ Some u → tag_at tags k ≡ Some t → j ≢ k → u.range.range.base ≢ t.range.range.base
tags_differ clock tags timed are apart j k u t at_j at_k ne same =
    let ages = tags_by_age tags in
    let a = at_from_Contains ages u (in_tags_by_age tags j u at_j) in
    let b = at_from_Contains ages t (in_tags_by_age tags k t at_k) in
    let long_u = (are j u at_j).range.some in
    let long_t = (are k t at_k).range.some in
    ⊎_elim
    (λ one. ne (timed j k u t at_j at_k (ap since_of (sym (a.2 u) ∙ (ap (λ p. get_or ages p u) one ∙ b.2 u)))))
    (λ other. ⊎_elim (λ lt. pair_differs ages a.0 b.0 u t apart lt b.1 a.2 b.2 long_u long_t same) (λ lt. pair_differs ages b.0 a.0 t u apart lt a.1 b.2 a.2 long_t long_u (sym same)) other)
    (cases_order a.0 b.0)

-- a tag in one of the first slots
first_tag : (tags : List (Option FreeTag)) (i j : ℕ) (u : FreeTag) → tag_at (take i tags) j ≡ Some u → (j < i) × (tag_at tags j ≡ Some u)
first_tag tags i j u here =
    let lt : j < i = omega (arith, slot_within (take i tags) j u here, length-take i tags) in
    (lt, sym (get_or-take i tags j None lt) ∙ here)

module _ (tags : List (Option FreeTag)) (i : ℕ) where
  -- none lies behind the first slots
  vacant_past : (j : ℕ) → i ≤ j → tag_at (take i tags) j ≡ None
  vacant_past j le = get_or_past (take i tags) j None (omega (arith, le, length-take i tags))

  -- one slot more
  others_kept : (j : ℕ) → j ≢ i → tag_at (take (i + 1) tags) j ≡ tag_at (take i tags) j
  others_kept j ne =
      ⊎_elim (λ same. absurd (ne same))
      (λ other. ⊎_elim (λ lt. get_or-take (i + 1) tags j None (omega (arith, lt)) ∙ sym (get_or-take i tags j None lt))
      (λ past. get_or_past (take (i + 1) tags) j None (omega (arith, past, length-take (i + 1) tags)) ∙ sym (vacant_past j (omega (arith, past)))) other)
      (cases_order j i)

  slot_more : (o : Option FreeTag) → tag_at tags i ≡ o → SlotBecomes (take i tags) (take (i + 1) tags) i o
  slot_more o here = record { changed = get_or-take (i + 1) tags i None (omega arith) ∙ here; others = others_kept }

  count_more : (o : Option FreeTag) → i < length tags → tag_at tags i ≡ o → taken_count (take (i + 1) tags) ≡ taken_count (take i tags) + one_of o
  count_more o lt here = let same = ap one_of here in omega (arith, sum_by_more one_of tags i None lt, same)

-- an index that has the tags of the first slots
module _ (order : Order) (items : List IndexEntry) (tags : List (Option FreeTag)) (i : ℕ) (lt : i < length tags) (m : Mirrors order items (take i tags)) where
  -- it has no entry with the key of the next slot's tag
  pub absent_next : (clock : ℕ) (t : FreeTag) → IsTimed tags → AreTags clock tags → AllPairs Apart (ranges_by_age tags) → tag_at tags i ≡ Some t → All (λ e. rank_of e ≢ rank_of (entry_of order i t)) items
  absent_next clock t timed are apart here =
      absent_entry order items (take i tags) m clock i t (λ j u e. are j u (first_tag tags i j u e).1) (are i t here)
      (λ j u e. let f = first_tag tags i j u e in tags_differ clock tags timed are apart j i u t f.1 here (omega (arith, f.0)))

  -- with that tag it has those of one slot more
  pub mirrors_next : (t : FreeTag) (items2 : List IndexEntry) → tag_at tags i ≡ Some t → Rises rank_of items → PutsIn rank_of (entry_of order i t) items items2 → Mirrors order items2 (take (i + 1) tags)
  mirrors_next t items2 here rises puts =
      let count = count_more tags i (Some t) lt here in
      mirrors_put order items (take i tags) m (take (i + 1) tags) items2 i t (vacant_past tags i i (omega arith)) (slot_more tags i (Some t) here) (omega (arith, count)) rises puts

  -- and so it has where none lies in that
  pub mirrors_past : tag_at tags i ≡ None → Mirrors order items (take (i + 1) tags)
  mirrors_past none =
      let becomes = slot_more tags i None none in
      let count = count_more tags i None lt none in
      record {
        from = λ e h.
            let w = m.from e h in
            let f = first_tag tags i e.slot w.0 w.1 in
            let ne : e.slot ≢ i = omega (arith, f.0) in
            (w.0, becomes.others e.slot ne ∙ w.1, w.2);
        into = λ k t here.
            let ne : k ≢ i = λ same. None≢Some (sym becomes.changed ∙ (ap (tag_at (take (i + 1) tags)) (sym same) ∙ here)) in
            m.into k t (sym (becomes.others k ne) ∙ here);
        count = omega (arith, m.count, count);
      }
