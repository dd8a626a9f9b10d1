-- The index of the free ranges, with one more and one less.
use Rattle.std.proofs.Common.{◌≡◌, ◌≢◌, ℕ, ◌+◌, ◌*◌, ◌^◌, ◌<◌, ◌≤◌, sym, ap, subst, ◌∙◌, ⊎_elim, Bool, List, [], ◌∷◌, ◌++◌, true, length, map, All, Any, Contains, Option, None, Some, arith}
use Rattle.std.proofs.lemmas.List.{get_or-map, length-map, map_push}
use Rattle.std.proofs.lemmas.List.Elements.{All-contains}
use Rattle.std.proofs.lemmas.Option.{slice_get_cases}
use Rattle.deed_core.specs.Extent.{Extent, IsRange}
use Rattle.deed_core.specs.Holding.{Holding}
use Rattle.tag_arena.specs.declared.policies.Policy.{Policy}
use Rattle.tag_arena.specs.Neighbors.{Without}
use Rattle.tag_arena.proofs.SpanLists.{Contains-map, Contains-from_map}
use Rattle.sorted_rows.specs.Order.{Rises, first_from, place_below}
use Rattle.tag_arena.specs.declared.orders.Order.{Order}
use Rattle.tag_arena.specs.declared.orders.Order.TheVariants.{Rising, Sizes}
use Rattle.tag_arena.specs.FreeTags.{FreeTag, range_of, tag_at, SlotBecomes, tags_by_age, ranges_by_age, IsTag, IsTimed, AreTags}
use Rattle.tag_arena.specs.Orders.{rank_of, entry_of, OrderedIndexState, Mirrors, KeepsUp, HasRoomForOne, IsAbsent}
use Rattle.tag_arena.specs.Slotted.{SlotsState, taken_count}
use Rattle.tag_arena.specs.FreeRanges.{MeetsLists, MeetsOrder, IsIndexed, keeps_bases, keeps_sizes}
use Rattle.tag_arena.specs.Linked.{ListsState, IsLinked, lists_room}
use Rattle.tag_arena.specs.declared.entries.IndexEntry.{IndexEntry}
use Rattle.tag_arena.proofs.Listing.{None≢Some, Some-injective, map-remove}
use Rattle.tag_arena.proofs.Members.{All-from_members}
use Rattle.tag_arena.proofs.Aging.{in_tags_by_age, from_tags_by_age, length-tags_by_age, put_cases, timed_put, aged_put, take_cases, timed_take, aged_take}
use Rattle.tag_arena.proofs.Mirroring.{place_for, absent_for}
use Rattle.tag_arena.proofs.Searching.{is_first, none_from}

-- the range of a tag is one of the free ranges
pub range_is_free : (tags : List (Option FreeTag)) (k : ℕ) (t : FreeTag) → tag_at tags k ≡ Some t → Contains (ranges_by_age tags) t.range
range_is_free tags k t here = Contains-map range_of (tags_by_age tags) t (in_tags_by_age tags k t here)

-- the range of a tag, by an entry of it
pub rising_range : (e : IndexEntry) (t : FreeTag) → e ≡ entry_of Rising e.slot t → t.range.range ≡ record { base = e.major; len = e.minor }
rising_range e t is = ap (λ (x : IndexEntry). let range : Extent = record { base = x.major; len = x.minor } in range) (sym is)

pub sizes_range : (e : IndexEntry) (t : FreeTag) → e ≡ entry_of Sizes e.slot t → t.range.range ≡ record { base = e.minor; len = e.major }
sizes_range e t is = ap (λ (x : IndexEntry). let range : Extent = record { base = x.minor; len = x.major } in range) (sym is)

-- each free range is that of a tag
pub tag_of_range : (tags : List (Option FreeTag)) (P : Holding → Type 0) → Any P (ranges_by_age tags) → (k : ℕ) × (t : FreeTag) × (tag_at tags k ≡ Some t) × P t.range
tag_of_range tags P h =
    let w = Contains-from_map range_of (tags_by_age tags) h.1 (h.0, h.2, h.3) in
    let r = from_tags_by_age tags w.0 w.1 in
    (r.0, w.0, r.1, subst P (sym w.2) h.4)

pub taken_below : (tags : List (Option FreeTag)) (room : ℕ) → IsTimed tags → length (ranges_by_age tags) < room → taken_count tags < room
taken_below tags room timed lt = omega (arith, lt, length-tags_by_age tags timed, length-map (tags_by_age tags) range_of)

pub tags_later : (clock : ℕ) (tags : List (Option FreeTag)) → AreTags clock tags → AreTags (clock + 1) tags
tags_later clock tags are k t here = let h = are k t here in record {
  range = h.range;
  since = omega (arith, h.since);
  low = h.low;
  high = h.high;
  power = h.power;
}

module _ (clock k : ℕ) (old new : List (Option FreeTag)) (t : FreeTag) (are : AreTags clock old) where
  -- a tag of a later time than all
  pub newer : t.since ≡ clock + 1 → (j : ℕ) (u : FreeTag) → tag_at old j ≡ Some u → u.since < t.since
  newer now j u here = let h = (are j u here).since in omega (arith, h, now)

-- where no free range begins at the base of one, no tag does
differs : (tags : List (Option FreeTag)) (t : FreeTag) → All (λ r. r.range.base ≢ t.range.range.base) (ranges_by_age tags) → (j : ℕ) (u : FreeTag) → tag_at tags j ≡ Some u → u.range.range.base ≢ t.range.range.base
differs tags t absent j u here = All-contains (λ r. r.range.base ≢ t.range.range.base) (ranges_by_age tags) u.range absent (range_is_free tags j u here)

module _ (policy : Policy) (s s2 : SlotsState) (r z : OrderedIndexState) (l : ListsState) (r2 z2 : OrderedIndexState) (l2 : ListsState) (clock room k : ℕ) (t : FreeTag) (x : IsIndexed policy s r z l clock room) where
  pub indexed_put : tag_at s.tags k ≡ None → SlotBecomes s.tags s2.tags k (Some t) → taken_count s2.tags ≡ taken_count s.tags + 1 → length (ranges_by_age s.tags) < room → s2.room ≡ s.room → IsTag (clock + 1) t → t.since ≡ clock + 1
      → MeetsOrder (keeps_bases policy) Rising s2 room r2 → r2.kept ≡ r.kept → MeetsOrder (keeps_sizes policy) Sizes s2 room z2 → MeetsLists policy s2 l2 → IsIndexed policy s2 r2 z2 l2 (clock + 1) room
  indexed_put vacant becomes count lt same is now hr kept hz hl =
      let later = newer clock k s.tags s2.tags t x.tags now in
      record {
        timed = timed_put s.tags s2.tags k t x.timed vacant becomes later;
        tags = λ j u here. ⊎_elim (λ a. subst (IsTag (clock + 1)) a.1 is) (λ a. tags_later clock s.tags x.tags j u a.1) (put_cases s.tags s2.tags k t becomes j u here);
        few = omega (arith, count, taken_below s.tags room x.timed lt);
        slots_room = omega (arith, x.slots_room, same);
        rising = hr;
        bases_kept = kept ∙ x.bases_kept;
        sizes = hz;
        lists_meet = hl;
      }

  pub indexed_take : tag_at s.tags k ≡ Some t → SlotBecomes s.tags s2.tags k None → taken_count s2.tags + 1 ≡ taken_count s.tags → s2.room ≡ s.room
      → MeetsOrder (keeps_bases policy) Rising s2 room r2 → r2.kept ≡ r.kept → MeetsOrder (keeps_sizes policy) Sizes s2 room z2 → MeetsLists policy s2 l2 → IsIndexed policy s2 r2 z2 l2 clock room
  indexed_take here becomes count same hr kept hz hl = record {
    timed = timed_take s.tags s2.tags k t x.timed here becomes;
    tags = λ j u stays. x.tags j u (take_cases s.tags s2.tags k t becomes j u stays).1;
    few = omega (arith, x.few, count);
    slots_room = omega (arith, x.slots_room, same);
    rising = hr;
    bases_kept = kept ∙ x.bases_kept;
    sizes = hz;
    lists_meet = hl;
  }

-- the power-of-two lists then
module _ (policy : Policy) (s s2 : SlotsState) (l l2 : ListsState) (k : ℕ) (t : FreeTag) (x : MeetsLists policy s l) (kept : l2.kept ≡ l.kept) (same : lists_room l2 ≡ lists_room l) (room : s2.room ≡ s.room) where
  pub lists_so : (l.kept ≡ true → IsLinked l s.tags → IsLinked l2 s2.tags) → MeetsLists policy s2 l2
  lists_so so = record {
    kept_is = kept ∙ x.kept_is;
    linked = λ is. so (sym kept ∙ is) (x.linked (sym kept ∙ is));
    room = λ is. let wide = x.room (sym kept ∙ is) in omega (arith, wide, same, room);
  }

-- free ranges from the oldest to the newest then
module _ (old new : List (Option FreeTag)) (k : ℕ) (t : FreeTag) (timed : IsTimed old) where
  pub ranges_put : tag_at old k ≡ None → SlotBecomes old new k (Some t) → ((j : ℕ) (u : FreeTag) → tag_at old j ≡ Some u → u.since < t.since) → ranges_by_age new ≡ ranges_by_age old ++ t.range ∷ []
  ranges_put vacant becomes later = ap (map range_of) (aged_put old new k t timed vacant becomes later) ∙ map_push range_of (tags_by_age old) t

  pub ranges_take : tag_at old k ≡ Some t → SlotBecomes old new k None → Without (ranges_by_age old) t.range (ranges_by_age new)
  ranges_take here becomes =
      let a = aged_take old new k t timed here becomes in
      (a.0, omega (arith, a.1, length-map (tags_by_age old) range_of), (λ d. get_or-map range_of (tags_by_age old) a.0 t d a.1 ∙ ap range_of (a.2 t)), ap (map range_of) a.3 ∙ map-remove range_of (tags_by_age old) a.0)

-- the order of bases has the tags where the policy asks for it
module _ (policy : Policy) (s : SlotsState) (r z : OrderedIndexState) (l : ListsState) (clock room : ℕ) (x : IsIndexed policy s r z l clock room) where
  pub bases_kept : keeps_bases policy ≡ true → Mirrors Rising r.items s.tags
  bases_kept kept =
      let up = subst (λ b. KeepsUp b r.order r.items s.tags) (x.bases_kept ∙ kept) x.rising.keeps_up in
      subst (λ o. Mirrors o r.items s.tags) x.rising.order_is up

-- where ranges stand in the order by base
module _ (clock : ℕ) (items : List IndexEntry) (tags : List (Option FreeTag)) (m : Mirrors Rising items tags) (are : AreTags clock tags) where
  -- one that begins at a base is found by the base alone
  pub found_at : (base : ℕ) → Rises rank_of items → Any (λ h. h.range.base ≡ base) (ranges_by_age tags)
      → (k : ℕ) × (t : FreeTag) × (tag_at tags k ≡ Some t) × (t.range.range.base ≡ base) × (first_from rank_of (base * 2 ^ 64 + 0) items ≡ Some (entry_of Rising k t))
  found_at base rises present =
      let key : ℕ = base * 2 ^ 64 + 0 in
      let w = tag_of_range tags (λ h. h.range.base ≡ base) present in
      let e0 = entry_of Rising w.0 w.1 in
      let c = m.into w.0 w.1 w.2 in
      ⊎_elim
      (λ found.
      let e = found.0 in
      let first = is_first rank_of key items rises e found.2 in
      let n = m.from e (place_below rank_of key items, first.within, first.here) in
      let rank_e = ap rank_of n.2 in
      let least = first.least e0 c (omega (arith, w.3)) in
      let top = (are w.0 w.1 w.2).range.below in
      let top_e = (are e.slot n.0 n.1).range.below in
      let from = first.from in
      (e.slot, n.0, n.1, omega (arith, from, least, rank_e, w.3, top, top_e), found.2 ∙ ap (λ y. Some y) n.2))
      (λ none. let below = none_from rank_of key items rises none.1 e0 c in absurd (omega (arith, below, w.3)))
      (slice_get_cases items (place_below rank_of key items)).1

  -- the first entry from a base on is that of a free range
  pub first_at : (base : ℕ) → Rises rank_of items → (e : IndexEntry) → first_from rank_of (base * 2 ^ 64 + 0) items ≡ Some e
      → (t : FreeTag) × (tag_at tags e.slot ≡ Some t) × (e ≡ entry_of Rising e.slot t)
  first_at base rises e found =
      let first = is_first rank_of (base * 2 ^ 64 + 0) items rises e found in
      m.from e (place_below rank_of (base * 2 ^ 64 + 0) items, first.within, first.here)

  -- where there is none, or another base, no free range begins there
  pub none_at : (base : ℕ) → Rises rank_of items → first_from rank_of (base * 2 ^ 64 + 0) items ≡ None → All (λ h. h.range.base ≢ base) (ranges_by_age tags)
  none_at base rises none =
      All-from_members (λ h. h.range.base ≢ base) (ranges_by_age tags)
      (λ h in-h is.
      let w = found_at base rises (in-h.0, h, in-h.1, in-h.2, is) in
      None≢Some (sym none ∙ w.4))

  pub other_at : (base : ℕ) → Rises rank_of items → (e : IndexEntry) → first_from rank_of (base * 2 ^ 64 + 0) items ≡ Some e → e.major ≢ base → All (λ h. h.range.base ≢ base) (ranges_by_age tags)
  other_at base rises e found other =
      All-from_members (λ h. h.range.base ≢ base) (ranges_by_age tags)
      (λ h in-h is.
      let w = found_at base rises (in-h.0, h, in-h.1, in-h.2, is) in
      other (ap (λ x. x.major) (Some-injective (sym found ∙ w.4)) ∙ w.3))

-- what a kept index asks before a range is put in
module _ (asked : Bool) (order : Order) (s : SlotsState) (room : ℕ) (i : OrderedIndexState) (is : MeetsOrder asked order s room i) where
  pub place_in : IsTimed s.tags → length (ranges_by_age s.tags) < room → HasRoomForOne i.kept i.items i.room
  place_in timed lt =
      place_for i.kept i.order i.items i.room s.tags is.keeps_up
      (λ kept. let wide = is.holds (is.asked_is kept) in omega (arith, wide, taken_below s.tags room timed lt))

  pub absent_in : (clock k : ℕ) (t : FreeTag) → AreTags clock s.tags → IsTag (clock + 1) t → All (λ r. r.range.base ≢ t.range.range.base) (ranges_by_age s.tags) → IsAbsent i.kept i.items (rank_of (entry_of i.order k t))
  absent_in clock k t are new absent = absent_for i.kept i.order i.items s.tags (clock + 1) k t is.keeps_up (tags_later clock s.tags are) new (differs s.tags t absent)

-- the tag of a range that becomes free
pub new_tag : (clock p len : ℕ) (deed : Holding) (made : FreeTag) → made ≡ record { range = deed; since = clock + 1; power = p } → IsRange deed.range → len ≡ deed.range.len → 2 ^ p ≤ len → len < 2 * 2 ^ p → p < 64 → IsTag (clock + 1) made
new_tag clock p len deed made is range same low high few =
    subst (IsTag (clock + 1)) (sym is) (record {
      range = range;
      since = omega arith;
      low = omega (arith, low, same);
      high = omega (arith, high, same);
      power = few;
    })
