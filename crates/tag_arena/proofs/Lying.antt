-- The slot in which a range lies, by an order; and ranges that are looked for in each slot.
use Rattle.std.proofs.Common.{Bool, true, false, not, ◌&&◌, eqb, eq-eqb, ◌≡◌, ◌≢◌, ℕ, ◌+◌, ◌*◌, ◌^◌, ◌<◌, sym, ap, ◌∙◌, List, length, get_or, set, Contains, Option, None, Some, arith}
use Rattle.std.proofs.lemmas.List.{get_or_default, get_or-set_same, set-get_or}
use Rattle.deed_core.specs.Holding.{Holding}
use Rattle.sorted_rows.specs.Order.{Rises, first_from, place_below}
use Rattle.tag_arena.specs.declared.entries.IndexEntry.{IndexEntry}
use Rattle.tag_arena.specs.declared.orders.Order.{Order}
use Rattle.tag_arena.specs.declared.orders.Order.TheVariants.{Rising, Sizes}
use Rattle.tag_arena.specs.Boundaries.{LiesIn}
use Rattle.tag_arena.specs.FreeTags.{FreeTag, range_of, tag_at}
use Rattle.tag_arena.specs.Orders.{rank_of, entry_of, Mirrors}
use Rattle.tag_arena.proofs.Listing.{None≢Some, Some-injective, place_of_member}
use Rattle.tag_arena.proofs.Mirroring.{slot_is}
use Rattle.tag_arena.proofs.Searching.{is_first, none_from}
use Rattle.tag_arena.proofs.Slotting.{slot_within}

-- a member with the key is what is found
pub first_is : {X : Type 0} (rank : X → ℕ) (key : ℕ) (xs : List X) → Rises rank xs → (e x : X) → first_from rank key xs ≡ Some e → Contains xs x → rank x ≡ key → e ≡ x
first_is rank key xs rises e x found c is =
    let first = is_first rank key xs rises e found in
    let at : place_below rank key xs ≡ c.0 = ap (λ n. place_below rank n xs) (sym is) ∙ place_of_member rank xs x c.0 rises c.1 c.2 in
    sym first.here ∙ (ap (λ n. get_or xs n e) at ∙ (get_or_default xs c.0 e x c.1 ∙ c.2))

-- ranges that a test told apart
pub told_apart : (h r : Holding) → true ≡ not (eqb h.root r.root && (eqb h.range.base r.range.base && eqb h.range.len r.range.len)) → h ≢ r
told_apart h r differ same =
    let root = eq-eqb h.root r.root (ap (λ (x : Holding). x.root) same) in
    let base = eq-eqb h.range.base r.range.base (ap (λ (x : Holding). x.range.base) same) in
    let len = eq-eqb h.range.len r.range.len (ap (λ (x : Holding). x.range.len) same) in
    let all : not (eqb h.root r.root && (eqb h.range.base r.range.base && eqb h.range.len r.range.len)) ≡ false =
    ap (λ (b : Bool). not (b && (eqb h.range.base r.range.base && eqb h.range.len r.range.len))) root
    ∙ (ap (λ (b : Bool). not (true && (b && eqb h.range.len r.range.len))) base ∙ ap (λ (b : Bool). not (true && (true && b))) len) in
    let no : true ≡ false = differ ∙ all in
    cc

-- the key of a range
pub sizes_keyed : (r : Holding) (len base : ℕ) → len ≡ r.range.len → base ≡ r.range.base → (k : ℕ) (t : FreeTag) → range_of t ≡ r → rank_of (entry_of Sizes k t) ≡ len * 2 ^ 64 + base
sizes_keyed r len base len_is base_is k t same =
    let long = ap (λ (h : Holding). h.range.len) same in
    let from = ap (λ (h : Holding). h.range.base) same in
    omega (arith, long, from, len_is, base_is)

pub rising_keyed : (r : Holding) (len base : ℕ) → len ≡ r.range.len → base ≡ r.range.base → (k : ℕ) (t : FreeTag) → range_of t ≡ r → rank_of (entry_of Rising k t) ≡ base * 2 ^ 64 + len
rising_keyed r len base len_is base_is k t same =
    let long = ap (λ (h : Holding). h.range.len) same in
    let from = ap (λ (h : Holding). h.range.base) same in
    omega (arith, long, from, len_is, base_is)

module _ (order : Order) (items : List IndexEntry) (tags : List (Option FreeTag)) (m : Mirrors order items tags) (rises : Rises rank_of items) (key : ℕ) where
  -- an entry that is found is that of a tag
  pub found_tag : (e : IndexEntry) → first_from rank_of key items ≡ Some e → (t : FreeTag) × (tag_at tags e.slot ≡ Some t)
  found_tag e found =
      let first = is_first rank_of key items rises e found in
      let w = m.from e (place_below rank_of key items, first.within, first.here) in
      (w.0, w.1)

  module _ (r : Holding) (keyed : (k : ℕ) (t : FreeTag) → range_of t ≡ r → rank_of (entry_of order k t) ≡ key) where
    -- where nothing is found the range lies nowhere
    pub none_lies : first_from rank_of key items ≡ None → LiesIn r tags None
    none_lies none k t here same =
        let below = none_from rank_of key items rises none (entry_of order k t) (m.into k t here) in
        omega (arith, below, keyed k t same)

    -- nor where another range is found
    pub other_lies : (e : IndexEntry) (u : FreeTag) → first_from rank_of key items ≡ Some e → Some u ≡ tag_at tags e.slot → u.range ≢ r → LiesIn r tags None
    other_lies e u found read differs k t here same =
        let is = first_is rank_of key items rises e (entry_of order k t) found (m.into k t here) (keyed k t same) in
        let slot = ap (λ x. x.slot) is ∙ slot_is order k t in
        let one : u ≡ t = Some-injective (read ∙ (ap (tag_at tags) slot ∙ here)) in
        differs (ap range_of one ∙ same)

-- a slot whose deed was taken out has none
pub none_taken : (tags : List (Option FreeTag)) (k : ℕ) (t u : FreeTag) (o r d : Option FreeTag) → tag_at tags k ≡ Some t → o ≡ None → r ≡ Some u → r ≡ d → d ≡ get_or (set tags k o) k d → ⊥
none_taken tags k t u o r d here out is read at = None≢Some (sym out ∙ (sym (get_or-set_same tags k o d (slot_within tags k t here)) ∙ (sym at ∙ (sym read ∙ is))))

-- a slot in which the same was written
pub same_slot : (tags : List (Option FreeTag)) (k : ℕ) (o now : Option FreeTag) → k < length tags → o ≡ now → now ≡ get_or tags k now → set tags k o ≡ tags
same_slot tags k o now lt is at = ap (set tags k) (is ∙ (at ∙ get_or_default tags k now None lt)) ∙ set-get_or tags k None
