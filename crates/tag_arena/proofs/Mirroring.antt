-- Indexes that have the tags of the slots.
use Rattle.std.proofs.Common.{◌≡◌, ◌≢◌, ℕ, ◌+◌, ◌<◌, refl, sym, ap, subst, ◌∙◌, ⊎_elim, Bool, true, false, List, length, insert, remove, All, Contains, Option, None, Some, arith}
use Rattle.std.proofs.lemmas.List.{get_or_default}
use Rattle.std.proofs.lemmas.List.Edits.{length-insert, length-remove}
use Rattle.tag_arena.proofs.Members.{All-from_members, Contains-remove, remove_kept, remove_pairs}
use Rattle.sorted_rows.specs.Order.{Rises, PutsIn, TakesOut, place_below}
use Rattle.tag_arena.specs.declared.entries.IndexEntry.{IndexEntry}
use Rattle.tag_arena.specs.declared.orders.Order.{Order}
use Rattle.tag_arena.specs.declared.orders.Order.TheVariants.{Rising, Sizes}
use Rattle.tag_arena.specs.FreeTags.{FreeTag, tag_at, SlotBecomes, IsTag, AreTags}
use Rattle.tag_arena.specs.Orders.{rank_of, entry_of, OrderedIndexState, Mirrors, KeepsUp, IsAbsent, HasRoomForOne, PutsEntry, TakesEntry}
use Rattle.tag_arena.specs.Slotted.{SlotsState, taken_count}
use Rattle.tag_arena.specs.FreeRanges.{MeetsOrder}
use Rattle.tag_arena.proofs.Listing.{Some-injective, Contains-inserted, Contains-insert, Contains-insert_cases, rank_at_place, place_of_member}
use Rattle.tag_arena.proofs.Aging.{put_cases, put_kept, take_cases}

-- an entry names its slot
pub slot_is : (order : Order) (k : ℕ) (t : FreeTag) → (entry_of order k t).slot ≡ k
slot_is Rising k t = refl
slot_is Sizes k t = refl

-- two tags that differ in base differ in every order
pub ranks_differ : (order : Order) (clock j k : ℕ) (u t : FreeTag) → IsTag clock u → IsTag clock t → u.range.range.base ≢ t.range.range.base → rank_of (entry_of order j u) ≢ rank_of (entry_of order k t)
ranks_differ Rising clock j k u t hu ht base e = let a = hu.range.below in let b = ht.range.below in omega (arith, a, b, base, e)
ranks_differ Sizes clock j k u t hu ht base e = let a = hu.range.below in let b = ht.range.below in omega (arith, a, b, base, e)

module _ (order : Order) (items : List IndexEntry) (tags : List (Option FreeTag)) (m : Mirrors order items tags) where
  -- no entry has the key of a tag that differs from all
  pub absent_entry : (clock k : ℕ) (t : FreeTag) → AreTags clock tags → IsTag clock t → ((j : ℕ) (u : FreeTag) → tag_at tags j ≡ Some u → u.range.range.base ≢ t.range.range.base) → All (λ e. rank_of e ≢ rank_of (entry_of order k t)) items
  absent_entry clock k t are is differs =
      All-from_members (λ e. rank_of e ≢ rank_of (entry_of order k t)) items
      (λ e h. let w = m.from e h in
      subst (λ x. rank_of x ≢ rank_of (entry_of order k t)) (sym w.2) (ranks_differ order clock e.slot k w.0 t (are e.slot w.0 w.1) is (differs e.slot w.0 w.1)))

  -- one more
  pub mirrors_put : (new : List (Option FreeTag)) (items2 : List IndexEntry) (k : ℕ) (t : FreeTag) → tag_at tags k ≡ None → SlotBecomes tags new k (Some t)
      → taken_count new ≡ taken_count tags + 1 → Rises rank_of items → PutsIn rank_of (entry_of order k t) items items2 → Mirrors order items2 new
  mirrors_put new items2 k t vacant becomes count rises puts =
      let e0 = entry_of order k t in
      let p = place_below rank_of (rank_of e0) items in
      let into_new : (e : IndexEntry) → Contains (insert items p e0) e → Contains items2 e = λ e h. subst (λ l. Contains l e) (sym puts) h in
      record {
        from = λ e h.
            ⊎_elim
            (λ is. let at : e.slot ≡ k = sym (ap (λ x. x.slot) is) ∙ slot_is order k t in
            (t, ap (tag_at new) at ∙ becomes.changed, sym is ∙ ap (λ j. entry_of order j t) (sym at)))
            (λ old. let w = m.from e old in (w.0, put_kept tags new k t vacant becomes e.slot w.0 w.1, w.2))
            (Contains-insert_cases items p e0 e (subst (λ l. Contains l e) puts h));
        into = λ j u at.
            ⊎_elim
            (λ a. let same : e0 ≡ entry_of order j u = ap (λ i. entry_of order i t) (sym a.0) ∙ ap (entry_of order j) a.1 in
            into_new (entry_of order j u) (subst (Contains (insert items p e0)) same (Contains-inserted items p e0)))
            (λ a. into_new (entry_of order j u) (Contains-insert items p e0 (entry_of order j u) (m.into j u a.1)))
            (put_cases tags new k t becomes j u at);
        count =
            let n = length-insert items p e0 (rank_at_place rank_of (rank_of e0) items rises).within in
            let l = ap length puts in
            omega (arith, n, l, m.count, count);
      }

  -- one less
  pub mirrors_take : (new : List (Option FreeTag)) (items2 : List IndexEntry) (k : ℕ) (t : FreeTag) → tag_at tags k ≡ Some t → SlotBecomes tags new k None → taken_count new + 1 ≡ taken_count tags → Rises rank_of items
      → TakesOut rank_of (rank_of (entry_of order k t)) items items2 → ((j : ℕ) (u : FreeTag) → tag_at new j ≡ Some u → (j ≢ k) × (tag_at tags j ≡ Some u)) → Mirrors order items2 new
  mirrors_take new items2 k t here becomes count rises takes cases =
      let e0 = entry_of order k t in
      let c = m.into k t here in
      let q = c.0 in
      let at = place_of_member rank_of items e0 q rises c.1 c.2 in
      let out : items2 ≡ remove items q = takes ∙ ap (remove items) at in
      record {
        from = λ e h.
            let gone = subst (λ l. Contains l e) out h in
            let w = m.from e (remove_kept items q e gone) in
            let one = ap rank_of (get_or_default items q e e0 c.1 ∙ c.2) in
            let ne : e.slot ≢ k = λ same.
            let u_is : w.0 ≡ t = Some-injective (sym w.1 ∙ (ap (tag_at tags) same ∙ here)) in
            let e_is : e ≡ e0 = w.2 ∙ (ap (λ j. entry_of order j w.0) same ∙ ap (entry_of order k) u_is) in
            let r = ap rank_of e_is in
            ⊎_elim (λ a. omega (arith, a, one, r)) (λ a. omega (arith, a, one, r)) (remove_pairs (λ x y. rank_of x < rank_of y) items q e e rises c.1 gone) in
            (w.0, becomes.others e.slot ne ∙ w.1, w.2);
        into = λ j u stays.
            let a = cases j u stays in
            subst (λ l. Contains l (entry_of order j u)) (sym out)
            (Contains-remove items q (entry_of order j u) (m.into j u a.1)
            (λ is. let same = sym (get_or_default items q (entry_of order j u) e0 c.1 ∙ c.2) ∙ is in
            a.0 (sym (slot_is order j u) ∙ (sym (ap (λ x. x.slot) same) ∙ slot_is order k t))));
        count =
            let n = length-remove items q c.1 in
            let l = ap length out in
            omega (arith, n, l, m.count, count);
      }

-- the same for an index that may not be kept
pub place_for : (kept : Bool) (order : Order) (items : List IndexEntry) (room : ℕ) (tags : List (Option FreeTag)) → KeepsUp kept order items tags → (kept ≡ true → taken_count tags < room) → HasRoomForOne kept items room
place_for true order items room tags h few = let lt = few refl in omega (arith, h.count, lt)
place_for false order items room tags h few = tt

pub absent_for : (kept : Bool) (order : Order) (items : List IndexEntry) (tags : List (Option FreeTag)) (clock k : ℕ) (t : FreeTag) → KeepsUp kept order items tags → AreTags clock tags → IsTag clock t
    → ((j : ℕ) (u : FreeTag) → tag_at tags j ≡ Some u → u.range.range.base ≢ t.range.range.base) → IsAbsent kept items (rank_of (entry_of order k t))
absent_for true order items tags clock k t h are is differs = absent_entry order items tags h clock k t are is differs
absent_for false order items tags clock k t h are is differs = tt

put_for : (kept : Bool) (order : Order) (items items2 : List IndexEntry) (tags new : List (Option FreeTag)) (k : ℕ) (t : FreeTag) → KeepsUp kept order items tags → tag_at tags k ≡ None → SlotBecomes tags new k (Some t)
    → taken_count new ≡ taken_count tags + 1 → Rises rank_of items → PutsEntry kept (entry_of order k t) items items2 → KeepsUp kept order items2 new
put_for true order items items2 tags new k t h vacant becomes count rises puts = mirrors_put order items tags h new items2 k t vacant becomes count rises puts
put_for false order items items2 tags new k t h vacant becomes count rises puts = puts ∙ h

take_for : (kept : Bool) (order : Order) (items items2 : List IndexEntry) (tags new : List (Option FreeTag)) (k : ℕ) (t : FreeTag) → KeepsUp kept order items tags → tag_at tags k ≡ Some t → SlotBecomes tags new k None
    → taken_count new + 1 ≡ taken_count tags → Rises rank_of items → TakesEntry kept (rank_of (entry_of order k t)) items items2 → ((j : ℕ) (u : FreeTag) → tag_at new j ≡ Some u → (j ≢ k) × (tag_at tags j ≡ Some u)) → KeepsUp kept order items2 new
take_for true order items items2 tags new k t h here becomes count rises takes cases = mirrors_take order items tags h new items2 k t here becomes count rises takes cases
take_for false order items items2 tags new k t h here becomes count rises takes cases = takes ∙ h

-- with other entries all else is the same
pub all_else : (i i2 : OrderedIndexState) → i2 ≡ record i { items = i2.items } → (i2.kept ≡ i.kept) × (i2.order ≡ i.order) × (i2.room ≡ i.room)
all_else i i2 rest = (ap (λ x. x.kept) rest, ap (λ x. x.order) rest, ap (λ x. x.room) rest)

-- an index of an order, with one more and one less
module _ (asked : Bool) (order : Order) (old new : SlotsState) (room : ℕ) (i i2 : OrderedIndexState) (is : MeetsOrder asked order old room i) (rest : i2 ≡ record i { items = i2.items }) where
  kept_so : KeepsUp i.kept i.order i2.items new.tags → MeetsOrder asked order new room i2
  kept_so h = record {
    order_is = ap (λ x. x.order) rest ∙ is.order_is;
    asked_is = λ kept. is.asked_is (sym (ap (λ x. x.kept) rest) ∙ kept);
    holds = λ asks. let wide = is.holds asks in omega (arith, wide, ap (λ x. x.room) rest);
    keeps_up = subst (λ x. KeepsUp x.kept x.order i2.items new.tags) (sym rest) h;
  }

  pub kept_put : (k : ℕ) (t : FreeTag) → tag_at old.tags k ≡ None → SlotBecomes old.tags new.tags k (Some t) → taken_count new.tags ≡ taken_count old.tags + 1
      → Rises rank_of i.items → PutsEntry i.kept (entry_of i.order k t) i.items i2.items → MeetsOrder asked order new room i2
  kept_put k t vacant becomes count rises puts = kept_so (put_for i.kept i.order i.items i2.items old.tags new.tags k t is.keeps_up vacant becomes count rises puts)

  pub kept_take : (k : ℕ) (t : FreeTag) → tag_at old.tags k ≡ Some t → SlotBecomes old.tags new.tags k None → taken_count new.tags + 1 ≡ taken_count old.tags → Rises rank_of i.items
      → TakesEntry i.kept (rank_of (entry_of i.order k t)) i.items i2.items → MeetsOrder asked order new room i2
  kept_take k t here becomes count rises takes = kept_so (take_for i.kept i.order i.items i2.items old.tags new.tags k t is.keeps_up here becomes count rises takes (λ j u e. take_cases old.tags new.tags k t becomes j u e))
