-- The best range by the index of sizes.
use Rattle.std.proofs.Common.{◌≡◌, ℕ, ◌+◌, ◌*◌, ◌^◌, ◌<◌, ◌≤◌, sym, ap, subst, ◌∙◌, inl, inr, ⊎_elim, List, get_or, Contains, Option, None, Some, arith}
use Rattle.std.proofs.lemmas.List.{get_or_default}
use Rattle.std.proofs.lemmas.Bool.{cases_lt}
use Rattle.deed_core.specs.Holding.{Holding}
use Rattle.deed_core.specs.Request.{rounding_of}
use Rattle.deed_core.specs.declared.requests.Request.{Request}
use Rattle.tag_arena.specs.Place.{Serves, ServesIn}
use Rattle.tag_arena.specs.Choice.{IsBest}
use Rattle.tag_arena.proofs.SpanLists.{Contains-from_map}
use Rattle.sorted_rows.specs.Order.{Rises, first_from}
use Rattle.tag_arena.specs.declared.entries.IndexEntry.{IndexEntry}
use Rattle.tag_arena.specs.declared.orders.Order.TheVariants.{Sizes}
use Rattle.tag_arena.specs.FreeTags.{FreeTag, range_of, tag_at, tags_by_age, ranges_by_age}
use Rattle.tag_arena.specs.Orders.{rank_of, entry_of, Mirrors}
use Rattle.tag_arena.proofs.Listing.{Some-injective}
use Rattle.tag_arena.proofs.Aging.{from_tags_by_age}
use Rattle.tag_arena.proofs.Indexing.{range_is_free, tag_of_range}
use Rattle.tag_arena.proofs.Searching.{IsFirst, none_from}

-- the tag of a free range
pub tag_of_free : (tags : List (Option FreeTag)) (r : Holding) → Contains (ranges_by_age tags) r → (k : ℕ) × (t : FreeTag) × (tag_at tags k ≡ Some t) × (t.range ≡ r)
tag_of_free tags r h =
    let w = Contains-from_map range_of (tags_by_age tags) r h in
    let f = from_tags_by_age tags w.0 w.1 in
    (f.0, w.0, f.1, w.2)

-- members of a rising list with one rank
pub same_member : {X : Type 0} (rank : X → ℕ) (xs : List X) (x y : X) → Rises rank xs → Contains xs x → Contains xs y → rank x ≡ rank y → x ≡ y
same_member rank xs x y rises c d same =
    let at_x = ap rank c.2 in
    let at_y = ap rank (get_or_default xs d.0 x y d.1 ∙ d.2) in
    ⊎_elim
    (λ lt. let h = rises c.0 d.0 x lt d.1 in absurd (omega (arith, h, at_x, at_y, same)))
    (λ ge. ⊎_elim (λ lt. let h = rises d.0 c.0 x lt c.1 in absurd (omega (arith, h, at_x, at_y, same)))
    (λ le. let one : d.0 ≡ c.0 = omega (arith, ge, le) in sym c.2 ∙ (sym (ap (λ k. get_or xs k x) one) ∙ (get_or_default xs d.0 x y d.1 ∙ d.2))) (cases_lt d.0 c.0))
    (cases_lt c.0 d.0)

-- at the key of the least length none is passed
pub served_first : (quantum : ℕ) (q : Request) (tags : List (Option FreeTag)) (units : ℕ) → units ≡ rounding_of quantum q.size → (k : ℕ) (t : FreeTag) → tag_at tags k ≡ Some t → rank_of (entry_of Sizes k t) < units * 2 ^ 64 + 0 → (b : ℕ) → ServesIn quantum q t.range b → ⊥
served_first quantum q tags units is k t here below b serves =
    let from = serves.from in
    let to = serves.to in
    omega (arith, is, below, from, to)

module _ (quantum : ℕ) (q : Request) (items : List IndexEntry) (tags : List (Option FreeTag)) (m : Mirrors Sizes items tags) (rises : Rises rank_of items) where
  -- no range below a key serves
  abbrev pub Served : ℕ → Type 0
  Served key = (k : ℕ) (t : FreeTag) → tag_at tags k ≡ Some t → rank_of (entry_of Sizes k t) < key → (b : ℕ) → ServesIn quantum q t.range b → ⊥

  -- two tags of one rank are one
  same_tag : (k j : ℕ) (t u : FreeTag) → tag_at tags k ≡ Some t → tag_at tags j ≡ Some u → rank_of (entry_of Sizes k t) ≡ rank_of (entry_of Sizes j u) → t ≡ u
  same_tag k j t u at_k at_j same =
      let one = same_member rank_of items (entry_of Sizes k t) (entry_of Sizes j u) rises (m.into k t at_k) (m.into j u at_j) same in
      Some-injective (sym at_k ∙ (ap (λ e. tag_at tags e.slot) one ∙ at_j))

  module _ (key : ℕ) (e : IndexEntry) (t : FreeTag) (first : IsFirst rank_of key items rises e) (at : tag_at tags e.slot ≡ Some t) (is : e ≡ entry_of Sizes e.slot t) where
    pub served_more : (next : ℕ) → next ≡ rank_of e + 1 → Served key → ((b : ℕ) → ServesIn quantum q t.range b → ⊥) → Served next
    served_more next more served none k u here below b serves =
        ⊎_elim (λ lt. served k u here lt b serves)
        (λ ge. let h = first.least (entry_of Sizes k u) (m.into k u here) ge in
        let rank_e = ap rank_of is in
        let u_is = same_tag k e.slot u t here at (omega (arith, h, below, more, rank_e)) in
        none b (subst (λ x. ServesIn quantum q x.range b) u_is serves))
        (cases_lt (rank_of (entry_of Sizes k u)) key)

    pub is_best : (base : ℕ) → ((k : ℕ) (u : FreeTag) → tag_at tags k ≡ Some u → u.range.range.base < 2 ^ 64) → Served key → ServesIn quantum q t.range base → ((b : ℕ) → ServesIn quantum q t.range b → base ≤ b) → IsBest quantum q (ranges_by_age tags) t.range base
    is_best base below served serves least = record {
      among = range_is_free tags e.slot t at;
      serves = serves;
      least = λ r b free there.
          let w = tag_of_free tags r free in
          let u = w.1 in
          let in_u = subst (λ x. ServesIn quantum q x b) (sym w.3) there in
          let r_len = ap (λ x. x.range.len) w.3 in
          let r_base = ap (λ x. x.range.base) w.3 in
          ⊎_elim (λ lt. absurd (served w.0 u w.2 lt b in_u))
          (λ ge.
          let h = first.least (entry_of Sizes w.0 u) (m.into w.0 u w.2) ge in
          let rank_e = ap rank_of is in
          let low = below w.0 u w.2 in
          let mine = below e.slot t at in
          ⊎_elim (λ shorter. inl (omega (arith, shorter, r_len)))
          (λ long.
          let len_is : t.range.range.len ≡ u.range.range.len = omega (arith, long, h, rank_e, low, mine) in
          inr (
            len_is ∙ r_len,
            ⊎_elim (λ lower. inl (omega (arith, lower, r_base)))
                (λ higher.
                let base_is : t.range.range.base ≡ u.range.range.base = omega (arith, higher, h, rank_e, len_is) in
                let t_is = same_tag e.slot w.0 t u at w.2 (omega (arith, len_is, base_is)) in
                inr (base_is ∙ r_base, least b (subst (λ x. ServesIn quantum q x.range b) (sym t_is) in_u)))
                (cases_lt t.range.range.base u.range.range.base),
          ))
          (cases_lt t.range.range.len u.range.range.len))
          (cases_lt (rank_of (entry_of Sizes w.0 u)) key);
    }

  pub none_serves : (key : ℕ) → Served key → first_from rank_of key items ≡ None → (base : ℕ) → Serves quantum q (ranges_by_age tags) base → ⊥
  none_serves key served none base serves =
      let w = tag_of_range tags (λ r. ServesIn quantum q r base) serves in
      served w.0 w.1 w.2 (none_from rank_of key items rises none (entry_of Sizes w.0 w.1) (m.into w.0 w.1 w.2)) base w.3
