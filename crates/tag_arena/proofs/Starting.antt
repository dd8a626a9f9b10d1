-- An index with nothing in it, and one with more room.
use Rattle.std.proofs.Common.{◌≡◌, ℕ, ◌≤◌, refl, sym, ap, subst, ◌∙◌, Bool, true, false, List, [], Option, arith}
use Rattle.tag_arena.specs.declared.policies.Policy.{Policy}
use Rattle.tag_arena.proofs.Members.{Contains-nil}
use Rattle.tag_arena.specs.declared.orders.Order.{Order}
use Rattle.tag_arena.specs.declared.orders.Order.TheVariants.{Rising, Sizes}
use Rattle.tag_arena.specs.FreeTags.{FreeTag, tags_by_age, ranges_by_age, IsTimed, AreTags}
use Rattle.tag_arena.specs.Orders.{OrderedIndexState, Mirrors, KeepsUp}
use Rattle.tag_arena.specs.Slotted.{SlotsState, taken_count}
use Rattle.tag_arena.specs.FreeRanges.{MeetsLists, MeetsOrder, IsIndexed, keeps_bases, keeps_sizes}
use Rattle.tag_arena.specs.Linked.{ListsState, IsLinked, lists_room}
use Rattle.tag_arena.proofs.Listing.{None≢Some}

pub ranges_none : ranges_by_age [] ≡ []
unfolding tags_by_age
ranges_none = refl

mirrors_none : (order : Order) → Mirrors order [] []
mirrors_none order = record {
  from = λ e h. absurd (Contains-nil e h);
  into = λ k t here. absurd (None≢Some here);
  count = refl;
}

keeps_none : (kept : Bool) (order : Order) → KeepsUp kept order [] []
keeps_none true order = mirrors_none order
keeps_none false order = refl

pub kept_none : (asked : Bool) (order : Order) (s : SlotsState) (i : OrderedIndexState) → s.tags ≡ [] → i.order ≡ order → (i.kept ≡ true → asked ≡ true) → i.items ≡ [] → MeetsOrder asked order s 0 i
kept_none asked order s i none is kept items = record {
  order_is = is;
  asked_is = kept;
  holds = λ asks. omega arith;
  keeps_up = subst (KeepsUp i.kept i.order i.items) (sym none) (subst (λ es. KeepsUp i.kept i.order es []) (sym items) (keeps_none i.kept i.order));
}

pub timed_none : (tags : List (Option FreeTag)) → tags ≡ [] → IsTimed tags
timed_none tags none = subst IsTimed (sym none) (λ j k t u e f same. absurd (None≢Some e))

pub tags_none : (clock : ℕ) (tags : List (Option FreeTag)) → tags ≡ [] → AreTags clock tags
tags_none clock tags none = subst (AreTags clock) (sym none) (λ k t here. absurd (None≢Some here))

-- with more room it is kept as before
pub kept_as : (i i2 : OrderedIndexState) → i2 ≡ record i { room = i2.room } → i2.kept ≡ i.kept
kept_as i i2 rest = ap (λ x. x.kept) rest

-- more room
module _ (asked : Bool) (order : Order) (s s2 : SlotsState) (room : ℕ) (i i2 : OrderedIndexState) (is : MeetsOrder asked order s room i) (same : s2.tags ≡ s.tags) (rest : i2 ≡ record i { room = i2.room }) where
  pub kept_wide : (wanted : ℕ) → (asked ≡ true → wanted ≤ i2.room) → MeetsOrder asked order s2 wanted i2
  kept_wide wanted wide = record {
    order_is = ap (λ x. x.order) rest ∙ is.order_is;
    asked_is = λ kept. is.asked_is (sym (ap (λ x. x.kept) rest) ∙ kept);
    holds = wide;
    keeps_up = subst (KeepsUp i2.kept i2.order i2.items) (sym same) (subst (λ x. KeepsUp x.kept x.order x.items s.tags) (sym rest) is.keeps_up);
  }

  pub kept_grown : i.room ≤ i2.room → MeetsOrder asked order s2 room i2
  kept_grown le = kept_wide room (λ asks. let wide = is.holds asks in omega (arith, wide, le))

-- lists with room for more slots
module _ (policy : Policy) (s s2 : SlotsState) (l l2 : ListsState) (x : MeetsLists policy s l) (same : s2.tags ≡ s.tags) (kept : l2.kept ≡ l.kept) (linked : (tags : List (Option FreeTag)) → IsLinked l tags → IsLinked l2 tags) where
  pub lists_wide : (l.kept ≡ true → s2.room ≤ lists_room l2) → MeetsLists policy s2 l2
  lists_wide wide = record {
    kept_is = kept ∙ x.kept_is;
    linked = λ is. linked s2.tags (subst (IsLinked l) (sym same) (x.linked (sym kept ∙ is)));
    room = λ is. wide (sym kept ∙ is);
  }

module _ (policy : Policy) (s s2 : SlotsState) (r z : OrderedIndexState) (l : ListsState) (r2 z2 : OrderedIndexState) (l2 : ListsState) (clock room wanted : ℕ) (x : IsIndexed policy s r z l clock room) where
  pub indexed_same : s2.tags ≡ s.tags → room ≤ wanted → wanted ≤ s2.room → MeetsOrder (keeps_bases policy) Rising s2 wanted r2 → r2.kept ≡ r.kept → MeetsOrder (keeps_sizes policy) Sizes s2 wanted z2 → MeetsLists policy s2 l2 → IsIndexed policy s2 r2 z2 l2 clock wanted
  indexed_same same more le hr kept hz hl = record {
    timed = subst IsTimed (sym same) x.timed;
    tags = subst (AreTags clock) (sym same) x.tags;
    few = omega (arith, x.few, more, ap taken_count same);
    slots_room = le;
    rising = hr;
    bases_kept = kept ∙ x.bases_kept;
    sizes = hz;
    lists_meet = hl;
  }
