-- Calls on spans, by their entries.
use Rattle.std.proofs.Common.{◌≡◌, ◌≢◌, ℕ, ◌+◌, ◌-◌, ◌<◌, ◌≤◌, sym, ap, subst, ◌∙◌, ⊎_elim, List, [], ◌∷◌, ◌++◌, map, length, get_or, insert, remove, All, Any, Contains, HoldsAt, None, Some, arith}
use Rattle.std.proofs.lemmas.List.{map-append, get_or_default}
use Rattle.std.proofs.lemmas.List.Elements.{All-contains}
use Rattle.deed_core.specs.Covering.{units_held}
use Rattle.deed_core.specs.Extent.{IsRange, end_of}
use Rattle.deed_core.specs.Holding.{Holding}
use Rattle.deed_core.specs.Tag.{Tag}
use Rattle.tag_arena.proofs.Members.{All-from_members, Contains-nil, remove_kept}
use Rattle.tag_arena.proofs.Ranges.{member-Any, same_where_shared}
use Rattle.tag_arena.proofs.SpanLists.{Contains-map, Contains-from_map}
use Rattle.sorted_rows.specs.Order.{Rises, PutsIn, TakesOut, StandsAtKey, first_from, place_below}
use Rattle.sorted_rows.proofs.PlaceLemmas.{rises_insert}
use Rattle.tag_arena.specs.declared.span_entries.SpanEntry.{SpanEntry}
use Rattle.tag_arena.specs.Spanned.{end_rank, tag_of, entries_by_coming, holdings_of, AreSpans, AreDisjoint, IsFirstPast, WithoutSpan}
use Rattle.tag_arena.proofs.Listing.{Contains-insert_cases, place_of_member, rank_at_place}
use Rattle.tag_arena.proofs.Searching.{is_first, none_from}
use Rattle.tag_arena.proofs.Coming.{by_none, in_tags, from_tags, timed_put, coming_put, coming_take, without_map, units_more, units_less}

abbrev pub tags_of : List SpanEntry → List Tag
tags_of items = map tag_of (entries_by_coming items)

-- nothing
pub none_are : (items : List SpanEntry) → items ≡ [] → AreSpans items 0 0
none_are items is =
    let none : tags_of items ≡ [] = ap tags_of is ∙ ap (map tag_of) by_none in
    let no : (x : SpanEntry) → Contains items x → ⊥ = λ x h. Contains-nil x (subst (λ xs. Contains xs x) is h) in
    record {
      timed = λ x y in-x in-y same. absurd (no x in-x);
      past = λ x in-x. absurd (no x in-x);
      counted = sym (ap (λ (ts : List Tag). units_held (holdings_of ts)) none);
      bound = omega arith;
    }

-- an end that no segment has no entry has
pub absent_end : (items : List SpanEntry) (n m : ℕ) → n ≡ m → All (λ t. end_of t.holding.range ≢ m) (tags_of items) → All (λ x. end_rank x ≢ n) items
absent_end items n m same absent =
    All-from_members (λ x. end_rank x ≢ n) items
    (λ x h e. All-contains (λ t. end_of t.holding.range ≢ m) (tags_of items) (tag_of x) absent (in_tags items x h) (e ∙ same))

-- one more
module _ (old new : List SpanEntry) (clock units : ℕ) (e : SpanEntry) (rises : Rises end_rank old) (are : AreSpans old clock units) (is : PutsIn end_rank e old new) (since : e.since ≡ clock + 1) (absent : All (λ x. end_rank x ≢ end_rank e) old) where
  abbrev place : ℕ
  place = place_below end_rank (end_rank e) old

  rises_put : Rises end_rank (insert old place e)
  rises_put = rises_insert end_rank old place e rises (rank_at_place end_rank (end_rank e) old rises) absent

  newer : (x : SpanEntry) → Contains old x → x.since < e.since
  newer x h = let p = are.past x h in omega (arith, p, since)

  pub items_put : tags_of new ≡ tags_of old ++ tag_of e ∷ []
  items_put = ap tags_of is ∙ (ap (map tag_of) (coming_put old rises are.timed place e newer rises_put) ∙ map-append tag_of (entries_by_coming old) (e ∷ []))

  pub are_put : IsRange e.span.range → AreSpans new (clock + 1) (units + e.span.range.len)
  are_put range =
      let long = range.below in
      let more = ap (λ (ts : List Tag). units_held (holdings_of ts)) items_put in
      record {
        timed = subst (λ xs. (x y : SpanEntry) → Contains xs x → Contains xs y → x.since ≡ y.since → x ≡ y) (sym is) (timed_put old rises are.timed place e newer);
        past = λ x h. ⊎_elim (λ a. let s = ap (λ (y : SpanEntry). y.since) a in omega (arith, s, since)) (λ a. let p = are.past x a in omega (arith, p)) (Contains-insert_cases old place e x (subst (λ xs. Contains xs x) is h));
        counted = omega (arith, more, are.counted, units_more (tags_of old) (tag_of e));
        bound = omega (arith, are.bound, long);
      }

-- spans that share an end
pub same_end : (spans : List Holding) → AreDisjoint spans → (r s : Holding) → Contains spans r → Contains spans s → end_of r.range ≡ end_of s.range → r ≡ s
same_end spans dis r s in-r in-s e =
    let pr = (All-contains (λ x. IsRange x.range) spans r dis.ranges in-r).some in
    let ps = (All-contains (λ x. IsRange x.range) spans s dis.ranges in-s).some in
    same_where_shared spans r s (end_of r.range - 1) dis.apart in-r in-s (omega (arith, pr), omega (arith, pr)) (omega (arith, e, ps), omega (arith, e, pr))

-- the entry of a span
pub entry_there : (items : List SpanEntry) (span : Holding) (n : ℕ) → n ≡ end_of span.range → Contains (holdings_of (tags_of items)) span → Any (λ x. end_rank x ≡ n) items
entry_there items span n is h =
    let t = Contains-from_map (λ (t : Tag). t.holding) (tags_of items) span h in
    let x = from_tags items t.0 t.1 in
    let same : (x.0).span ≡ span = ap (λ (t : Tag). t.holding) x.2 ∙ t.2 in
    member-Any (λ x. end_rank x ≡ n) items x.0 x.1 (ap (λ (h : Holding). end_of h.range) same ∙ sym is)

-- one less
module _ (old new : List SpanEntry) (clock units key : ℕ) (e : SpanEntry) (rises : Rises end_rank old) (are : AreSpans old clock units) (there : Any (λ x. end_rank x ≡ key) old) (is : TakesOut end_rank key old new) (value : StandsAtKey end_rank key e old) where
  abbrev at : ℕ
  at = place_below end_rank key old

  at_is : at ≡ there.0
  at_is = ap (λ n. place_below end_rank n old) (sym there.4) ∙ place_of_member end_rank old there.1 there.0 rises there.2 there.3

  within : at < length old
  within = let h = there.2 in omega (arith, h, at_is)

  here : get_or old at e ≡ e
  here = value e

  pub e_there : Contains old e
  e_there = (at, within, here)

  pub key_is : end_rank e ≡ key
  key_is =
      let one : get_or old at there.1 ≡ there.1 = ap (λ k. get_or old k there.1) at_is ∙ there.3 in
      let two : get_or old at there.1 ≡ e = get_or_default old at there.1 e within ∙ here in
      ap end_rank (sym two ∙ one) ∙ there.4

  out : (q : ℕ) × (q < length (entries_by_coming old)) × HoldsAt (λ x. x ≡ e) (entries_by_coming old) q × (entries_by_coming (remove old at) ≡ remove (entries_by_coming old) q)
  out = coming_take old rises are.timed at e within here

  new_is : entries_by_coming new ≡ remove (entries_by_coming old) out.0
  new_is = ap entries_by_coming is ∙ out.3

  pub items_take : WithoutSpan (tags_of old) (tag_of e) (tags_of new)
  items_take =
      let w = without_map tag_of (entries_by_coming old) (entries_by_coming new) e out.0 out.1 out.2 new_is in
      (out.0, w.0, w.1, w.2)

  counts : units_held (holdings_of (tags_of new)) + e.span.range.len ≡ units
  counts =
      let w = items_take in
      let less = units_less (tags_of old) (tag_of e) w.0 w.1 w.2 in
      let n = ap (λ (ts : List Tag). units_held (holdings_of ts)) w.3 in
      omega (arith, less, n, are.counted)

  pub fits_take : e.span.range.len ≤ units
  fits_take = omega (arith, counts)

  pub are_take : AreSpans new clock (units - e.span.range.len)
  are_take =
      let kept : (x : SpanEntry) → Contains new x → Contains old x = λ x h. remove_kept old (place_below end_rank key old) x (subst (λ xs. Contains xs x) is h) in
      record {
        timed = λ x y in-x in-y same. are.timed x y (kept x in-x) (kept y in-y) same;
        past = λ x h. are.past x (kept x h);
        counted = omega (arith, counts);
        bound = omega (arith, are.bound);
      }

  pub span_take : AreDisjoint (holdings_of (tags_of old)) → (span : Holding) → Contains (holdings_of (tags_of old)) span → key ≡ end_of span.range → e.span ≡ span
  span_take dis span in-span k =
      same_end (holdings_of (tags_of old)) dis e.span span (Contains-map (λ (t : Tag). t.holding) (tags_of old) (tag_of e) (in_tags old e e_there)) in-span (key_is ∙ k)

-- the first that ends past a unit
module _ (items : List SpanEntry) (unit : ℕ) (rises : Rises end_rank items) where
  pub first_some : (e : SpanEntry) → first_from end_rank (unit + 1) items ≡ Some e → IsFirstPast unit (tags_of items) (Some (tag_of e))
  first_some e found =
      let first = is_first end_rank (unit + 1) items rises e found in
      let from = first.from in (
        in_tags items e (place_below end_rank (unit + 1) items, first.within, first.here),
        omega (arith, from),
        λ t in-t past.
            let x = from_tags items t in-t in
            let same = ap (λ (w : Tag). end_of w.holding.range) x.2 in
            let least = first.least x.0 x.1 (omega (arith, same, past)) in
            omega (arith, least, same),
      )

  pub first_none : first_from end_rank (unit + 1) items ≡ None → IsFirstPast unit (tags_of items) None
  first_none none =
      All-from_members (λ t. end_of t.holding.range ≤ unit) (tags_of items)
      (λ t in-t.
      let x = from_tags items t in-t in
      let same = ap (λ (w : Tag). end_of w.holding.range) x.2 in
      let below = none_from end_rank (unit + 1) items rises none x.0 x.1 in
      omega (arith, below, same))
