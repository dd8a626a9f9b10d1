-- Slots that are filled and emptied.
use Rattle.std.proofs.Common.{◌≡◌, ◌≢◌, ⊎_elim, ℕ, ◌+◌, ◌^◌, ◌<◌, ◌≤◌, refl, sym, ap, subst, ◌∙◌, List, [], ◌∷◌, ◌++◌, length, get_or, set, All, AllPairs, Contains, Option, None, Some, is_some, cond, vec_len, vec_capacity, sum_by, arith}
use Rattle.std.proofs.lemmas.List.{get_or-set_same, get_or-set_other, get_or_append_left, get_or_push, get_or_default, get_or_past, length_push, length-set, set-set, set-get_or}
use Rattle.std.proofs.lemmas.Bool.{cases_order}
use Rattle.std.proofs.lemmas.List.Elements.{All-push, All-set, All-contains, Contains-push}
use Rattle.std.proofs.lemmas.List.Sums.{sum_by-set, sum_by_push, sum_by-le, get_or-le-sum_by}
use Rattle.std.specs.Global.{Vec}
use Rattle.deed_core.specs.Holding.{Holding}
use Rattle.tag_arena.proofs.Members.{All-from_members, AllPairs-append, Contains-cases, Contains-nil}
use Rattle.tag_arena.specs.FreeTags.{FreeTag, tag_at, SlotBecomes}
use Rattle.tag_arena.specs.Slotted.{taken_count, slot_units, IsSlotted, AreCounted}
use Rattle.tag_arena.proofs.Listing.{None≢Some, Some-injective, AllPairs-one}

abbrev pub one_of : Option FreeTag → ℕ
one_of o = cond (is_some o) 1 0

-- the slots but the last
pub taken_last : (slots rest : List (Option FreeTag)) (o : Option FreeTag) → slots ≡ rest ++ o ∷ [] → taken_count slots ≡ taken_count rest + one_of o
taken_last slots rest o is = ap taken_count is ∙ sum_by_push one_of rest o

-- a tag lies in a slot that there is
pub slot_within : (tags : List (Option FreeTag)) (k : ℕ) (t : FreeTag) → tag_at tags k ≡ Some t → k < length tags
slot_within tags k t here = grind (arith, get_or_past, None≢Some {x = t})

module _ (old : List (Option FreeTag)) (k : ℕ) (o : Option FreeTag) (lt : k < length old) where
  pub slot_set : SlotBecomes old (set old k o) k o
  slot_set = record {
    changed = get_or-set_same old k o None lt;
    others = λ j ne. get_or-set_other old k j o None ne;
  }

  pub taken_set : taken_count (set old k o) + cond (is_some (tag_at old k)) 1 0 ≡ taken_count old + cond (is_some o) 1 0
  taken_set = sum_by-set one_of old k o None lt

-- a vacant slot that is filled
module _ (slots : Vec (Option FreeTag)) (vacant rest : Vec ℕ) (room k : ℕ) (t : FreeTag) (s : IsSlotted slots vacant room) (popped : vacant.items ≡ rest.items ++ k ∷ []) where
  pub vacant_last : (k < length slots.items) × (tag_at slots.items k ≡ None)
  vacant_last = All-contains (λ j. (j < length slots.items) × (tag_at slots.items j ≡ None)) vacant.items k s.empty (subst (λ l. Contains l k) (sym popped) (Contains-push rest.items k))

  pub filled : vec_len rest + 1 ≡ vec_len vacant → (capacity : vec_capacity vacant ≡ vec_capacity rest) → (new : Vec (Option FreeTag)) → new.items ≡ set slots.items k (Some t) → vec_capacity new ≡ vec_capacity slots → IsSlotted new rest room
  filled len capacity new is same =
      let lt = vacant_last.0 in
      let long = ap length is ∙ length-set slots.items k (Some t) in
      let count = taken_set slots.items k (Some t) lt in
      let was = ap one_of vacant_last.1 in
      let apart : AllPairs (λ j i. j ≢ i) (rest.items ++ k ∷ []) = subst (AllPairs (λ j i. j ≢ i)) popped s.apart in
      let now = ap taken_count is in
      record {
        empty = λ p d below.
            let inside : p < length (rest.items ++ k ∷ []) = omega (arith, below, length_push rest.items k) in
            let e = get_or_append_left rest.items (k ∷ []) d p below in
            let h = subst (All (λ j. (j < length slots.items) × (tag_at slots.items j ≡ None))) popped s.empty p d inside in
            let at = subst (λ j. (j < length slots.items) × (tag_at slots.items j ≡ None)) e h in
            let other : get_or rest.items p d ≢ k = λ same_slot. apart p (length rest.items) d below (omega (arith, length_push rest.items k)) (e ∙ (same_slot ∙ sym (get_or_push rest.items k d (length rest.items) refl))) in
            (omega (arith, at.0, long), ap (λ l. tag_at l (get_or rest.items p d)) is ∙ (get_or-set_other slots.items k (get_or rest.items p d) (Some t) None other ∙ at.1));
        apart = λ i j d less within.
            let h = apart i j d less (omega (arith, within, length_push rest.items k)) in
            λ same_slot. h (get_or_append_left rest.items (k ∷ []) d i (omega (arith, less, within)) ∙ (same_slot ∙ sym (get_or_append_left rest.items (k ∷ []) d j within)));
        counted = omega (arith, s.counted, long, count, was, now, len);
        within = omega (arith, s.within, long);
        slots_hold = omega (arith, s.slots_hold, same);
        vacant_holds = omega (arith, s.vacant_holds, capacity);
      }

-- where none is vacant, a slot that is added
pub grown : (slots new : Vec (Option FreeTag)) (vacant rest : Vec ℕ) (room : ℕ) (t : FreeTag) → IsSlotted slots vacant room → vec_len vacant ≡ 0 → vec_len rest ≡ 0 → vec_capacity rest ≡ vec_capacity vacant → taken_count slots.items < room
    → new.items ≡ slots.items ++ Some t ∷ [] → vec_len new ≡ vec_len slots + 1 → vec_capacity new ≡ vec_capacity slots → IsSlotted new rest room
grown slots new vacant rest room t s none left capacity more is len same =
    let count = taken_last new.items slots.items (Some t) is in
    record {
      empty = λ p d below. absurd (omega (arith, below, left));
      apart = λ i j d less within. absurd (omega (arith, less, within, left));
      counted = omega (arith, s.counted, none, left, count, len);
      within = omega (arith, s.counted, none, more, len);
      slots_hold = omega (arith, s.slots_hold, same);
      vacant_holds = omega (arith, s.vacant_holds, capacity);
    }

pub slot_pushed : (old : List (Option FreeTag)) (o : Option FreeTag) (k : ℕ) → length old ≡ k → SlotBecomes old (old ++ o ∷ []) k o
slot_pushed old o k at = record {
  changed = get_or_push old o None k at;
  others = λ j ne. ⊎_elim
      (λ e. absurd (ne e))
      (λ apart. ⊎_elim
      (λ less. get_or_append_left old (o ∷ []) None j (omega arith))
      (λ past. get_or_past (old ++ o ∷ []) j None (omega (arith, length_push old o)) ∙ sym (get_or_past old j None (omega arith)))
      apart)
      (cases_order j k);
}

-- where a slot is taken, there is room for one more vacant slot
pub room_beside : (slots : Vec (Option FreeTag)) (vacant : Vec ℕ) (room k : ℕ) (t : FreeTag) → IsSlotted slots vacant room → tag_at slots.items k ≡ Some t → vec_len vacant < vec_capacity vacant
room_beside slots vacant room k t s here =
    let count = taken_set slots.items k None (slot_within slots.items k t here) in
    let was = ap one_of here in
    omega (arith, count, was, s.counted, s.within, s.vacant_holds)

-- a slot that is emptied
module _ (slots new : Vec (Option FreeTag)) (vacant more : Vec ℕ) (room k : ℕ) (t : FreeTag) (s : IsSlotted slots vacant room) (here : tag_at slots.items k ≡ Some t) (is : new.items ≡ set slots.items k None) (pushed : more.items ≡ vacant.items ++ k ∷ []) where
  pub one_taken : taken_count new.items + 1 ≡ taken_count slots.items
  one_taken =
      let count = taken_set slots.items k None (slot_within slots.items k t here) in
      let was = ap one_of here in
      let now = ap taken_count is in
      omega (arith, count, was, now)

  pub emptied : vec_len more ≡ vec_len vacant + 1 → vec_capacity more ≡ vec_capacity vacant → vec_capacity new ≡ vec_capacity slots → IsSlotted new more room
  emptied len capacity same =
      let lt = slot_within slots.items k t here in
      let long = ap length is ∙ length-set slots.items k None in
      let old = λ (j : ℕ) (h : Contains vacant.items j). All-contains (λ j. (j < length slots.items) × (tag_at slots.items j ≡ None)) vacant.items j s.empty h in
      let other : (j : ℕ) → Contains vacant.items j → j ≢ k = λ j h e. None≢Some (sym (old j h).1 ∙ (ap (tag_at slots.items) e ∙ here)) in
      record {
        empty = subst (All (λ j. (j < length new.items) × (tag_at new.items j ≡ None))) (sym pushed)
            (All-push (λ j. (j < length new.items) × (tag_at new.items j ≡ None)) vacant.items k
            (All-from_members (λ j. (j < length new.items) × (tag_at new.items j ≡ None)) vacant.items
            (λ j h. (omega (arith, (old j h).0, long), ap (λ l. tag_at l j) is ∙ (get_or-set_other slots.items k j None None (other j h) ∙ (old j h).1))))
            (omega (arith, lt, long), ap (λ l. tag_at l k) is ∙ get_or-set_same slots.items k None None lt));
        apart = subst (AllPairs (λ j i. j ≢ i)) (sym pushed)
            (AllPairs-append (λ j i. j ≢ i) vacant.items (k ∷ []) s.apart (AllPairs-one (λ j i. j ≢ i) k)
            (λ j i in_vacant in_one. ⊎_elim (λ e. subst (λ x. j ≢ x) e (other j in_vacant)) (λ none. absurd (Contains-nil i none)) (Contains-cases k i [] in_one)));
        counted = omega (arith, s.counted, long, one_taken, len);
        within = omega (arith, s.within, long);
        slots_hold = omega (arith, s.slots_hold, same);
        vacant_holds = omega (arith, s.vacant_holds, capacity);
      }

-- a slot whose deed was taken out and put back
pub set_back : (tags : List (Option FreeTag)) (k : ℕ) (o p : Option FreeTag) → p ≡ tag_at tags k → set (set tags k o) k p ≡ tags
set_back tags k o p is = set-set tags k o p ∙ (ap (set tags k) is ∙ set-get_or tags k None)

-- slots in which the same lies
pub slotted_same : (slots new : Vec (Option FreeTag)) (vacant : Vec ℕ) (room : ℕ) → IsSlotted slots vacant room → new.items ≡ slots.items → vec_capacity new ≡ vec_capacity slots → IsSlotted new vacant room
slotted_same slots new vacant room s is same =
    let long = ap length is in
    let count = ap taken_count is in
    record {
      empty = subst (λ l. All (λ k. (k < length l) × (tag_at l k ≡ None)) vacant.items) (sym is) s.empty;
      apart = s.apart;
      counted = omega (arith, s.counted, long, count);
      within = omega (arith, s.within, long);
      slots_hold = omega (arith, s.slots_hold, same);
      vacant_holds = s.vacant_holds;
    }

-- a tag, by what it was made of
pub tag_is : (made t : FreeTag) (range : Holding) (since power : ℕ) → made ≡ record { range = range; since = since; power = power } → range ≡ t.range → since ≡ t.since → power ≡ t.power → made ≡ t
tag_is made t range since power is range_is since_is power_is =
    is ∙ (ap (λ (h : Holding). record { range = h; since = since; power = power }) range_is
    ∙ (ap (λ (n : ℕ). record { range = t.range; since = n; power = power }) since_is
    ∙ ap (λ (n : ℕ). record { range = t.range; since = t.since; power = n }) power_is))

-- what was taken out of a slot is what lay there
pub taken_is : (tags : List (Option FreeTag)) (k : ℕ) (t u : FreeTag) (o d : Option FreeTag) → tag_at tags k ≡ Some t → o ≡ Some u → o ≡ d → d ≡ get_or tags k d → u ≡ t
taken_is tags k t u o d here is read at = Some-injective (sym is ∙ (read ∙ (at ∙ (get_or_default tags k d None (slot_within tags k t here) ∙ here))))

-- the units of slots, after a change
module _ (old new : List (Option FreeTag)) (k units after : ℕ) (c : AreCounted old units) where
  pub counted_set : (o : Option FreeTag) → k < length old → slot_units o ≤ 2 ^ 62 → new ≡ set old k o → after + slot_units (tag_at old k) ≡ units + slot_units o → AreCounted new after
  counted_set o lt here is sums = record {
    small = subst (All (λ p. slot_units p ≤ 2 ^ 62)) (sym is) (All-set (λ p. slot_units p ≤ 2 ^ 62) old k o here c.small);
    sum = omega (arith, sum_by-set slot_units old k o None lt, ap (sum_by slot_units) is, c.sum, sums);
  }

  pub counted_push : (o : Option FreeTag) → slot_units o ≤ 2 ^ 62 → new ≡ old ++ o ∷ [] → after ≡ units + slot_units o → AreCounted new after
  counted_push o here is sums = record {
    small = subst (All (λ p. slot_units p ≤ 2 ^ 62)) (sym is) (All-push (λ p. slot_units p ≤ 2 ^ 62) old o c.small here);
    sum = omega (arith, sum_by_push slot_units old o, ap (sum_by slot_units) is, c.sum, sums);
  }

  pub counted_same : new ≡ old → after ≡ units → AreCounted new after
  counted_same is same = record {
    small = subst (All (λ p. slot_units p ≤ 2 ^ 62)) (sym is) c.small;
    sum = omega (arith, ap (sum_by slot_units) is, c.sum, same);
  }

-- a slot's units are counted, and there is room to count one more's
pub one_counted : (slots : List (Option FreeTag)) (k units : ℕ) (t : FreeTag) → AreCounted slots units → tag_at slots k ≡ Some t → t.range.range.len ≤ units
one_counted slots k units t c here = omega (arith, get_or-le-sum_by slot_units slots k None (slot_within slots k t here), ap slot_units here, c.sum)

pub room_counted : (slots : List (Option FreeTag)) (units : ℕ) → AreCounted slots units → length slots < 2 ^ 64 → units < 2 ^ 126
room_counted slots units c few = omega (arith, sum_by-le slot_units (2 ^ 62) slots c.small, c.sum)
