-- What the first span that ends past a unit says of the others.
use Rattle.std.proofs.Common.{◌≡◌, ℕ, ◌<◌, ◌≤◌, ap, subst, ⊎_elim, List, All, Contains, None, Some, arith}
use Rattle.std.proofs.lemmas.Bool.{cases_lt}
use Rattle.std.proofs.lemmas.List.Elements.{All-contains}
use Rattle.deed_core.specs.Extent.{Extent, IsRange, Covers, Overlap, end_of}
use Rattle.deed_core.specs.Holding.{Holding}
use Rattle.deed_core.specs.Tag.{Tag}
use Rattle.tag_arena.proofs.Members.{All-from_members}
use Rattle.tag_arena.proofs.Ranges.{same_where_shared}
use Rattle.tag_arena.proofs.SpanLists.{Contains-map, Contains-from_map}
use Rattle.tag_arena.specs.Spanned.{holdings_of, AreDisjoint, IsFirstPast, IsLowestFree}
use Rattle.tag_arena.proofs.Roving.{ends_before}
use Rattle.tag_arena.proofs.Spanning.{same_end}

module _ (tags : List Tag) (unit : ℕ) where
  pub none_past : IsFirstPast unit tags None → (s : Holding) → Contains (holdings_of tags) s → end_of s.range ≤ unit
  none_past none s h =
      let t = Contains-from_map (λ (t : Tag). t.holding) tags s h in
      let le = All-contains (λ t. end_of t.holding.range ≤ unit) tags t.0 none t.1 in
      let e = ap (λ (x : Holding). end_of x.range) t.2 in
      omega (arith, le, e)

  module _ (h : Tag) (first : IsFirstPast unit tags (Some h)) where
    pub first_held : Contains (holdings_of tags) h.holding
    first_held = Contains-map (λ (t : Tag). t.holding) tags h first.0

    pub first_ends : (s : Holding) → Contains (holdings_of tags) s → unit < end_of s.range → end_of h.holding.range ≤ end_of s.range
    first_ends s in-s past =
        let t = Contains-from_map (λ (t : Tag). t.holding) tags s in-s in
        let e = ap (λ (x : Holding). end_of x.range) t.2 in
        let le = first.2 t.0 t.1 (omega (arith, past, e)) in
        omega (arith, le, e)

    module _ (dis : AreDisjoint (holdings_of tags)) where
      -- no other that ends past the unit begins below it
      pub first_begins : (s : Holding) → Contains (holdings_of tags) s → unit < end_of s.range → h.holding.range.base ≤ s.range.base
      first_begins s in-s past =
          let ends = first_ends s in-s past in
          ⊎_elim
          (λ lt. let before = ends_before (holdings_of tags) dis.ranges dis.apart s h.holding in-s first_held lt in let some = (All-contains (λ x. IsRange x.range) (holdings_of tags) h.holding dis.ranges first_held).some in omega (arith, before, ends, some))
          (λ ge. ge) (cases_lt s.range.base h.holding.range.base)

      pub no_cover : unit < h.holding.range.base → All (λ s. ¬ Covers s.range unit) (holdings_of tags)
      no_cover lt = All-from_members (λ s. ¬ Covers s.range unit) (holdings_of tags) (λ s in-s c. let b = first_begins s in-s c.1 in omega (arith, b, lt, c.0))

      pub no_overlap : (e : Extent) → unit ≡ e.base → end_of e ≤ h.holding.range.base → All (λ s. ¬ Overlap s.range e) (holdings_of tags)
      no_overlap e is le = All-from_members (λ s. ¬ Overlap s.range e) (holdings_of tags) (λ s in-s c. let b = first_begins s in-s (omega (arith, c.1, is)) in omega (arith, b, le, c.0))

      pub is_first : (s : Holding) → Contains (holdings_of tags) s → s.range.base ≡ unit → h.holding ≡ s
      is_first s in-s is =
          let some = (All-contains (λ x. IsRange x.range) (holdings_of tags) s dis.ranges in-s).some in
          let b = first_begins s in-s (omega (arith, some, is)) in
          let past = first.1 in
          same_where_shared (holdings_of tags) h.holding s unit dis.apart first_held in-s (omega (arith, b, is), past) (omega (arith, is), omega (arith, is, some))

      -- the lowest that is free
      module _ (free : List Holding) (passed : (s : Holding) → Contains (holdings_of tags) s → end_of s.range ≤ unit → Contains free s → ⊥) where
        pub lowest_here : Contains free h.holding → IsLowestFree (holdings_of tags) free (Some h.holding)
        lowest_here is = (
          first_held,
          is,
          λ s in-s in-free. ⊎_elim (λ past. first_begins s in-s past) (λ le. absurd (passed s in-s le in-free)) (cases_lt unit (end_of s.range)),
        )

        pub passed_more : (Contains free h.holding → ⊥) → (s : Holding) → Contains (holdings_of tags) s → end_of s.range ≤ end_of h.holding.range → Contains free s → ⊥
        passed_more not s in-s le in-free =
            ⊎_elim
            (λ past. let ends = first_ends s in-s past in let same = same_end (holdings_of tags) dis s h.holding in-s first_held (omega (arith, le, ends)) in not (subst (Contains free) same in-free))
            (λ low. passed s in-s low in-free) (cases_lt unit (end_of s.range))

  pub no_cover_at_all : IsFirstPast unit tags None → All (λ s. ¬ Covers s.range unit) (holdings_of tags)
  no_cover_at_all none = All-from_members (λ s. ¬ Covers s.range unit) (holdings_of tags) (λ s in-s c. let le = none_past none s in-s in omega (arith, le, c.1))

  pub no_overlap_at_all : (e : Extent) → unit ≡ e.base → IsFirstPast unit tags None → All (λ s. ¬ Overlap s.range e) (holdings_of tags)
  no_overlap_at_all e is none = All-from_members (λ s. ¬ Overlap s.range e) (holdings_of tags) (λ s in-s c. let le = none_past none s in-s in omega (arith, le, is, c.1))

  pub none_lowest : (free : List Holding) → ((s : Holding) → Contains (holdings_of tags) s → end_of s.range ≤ unit → Contains free s → ⊥) → IsFirstPast unit tags None → IsLowestFree (holdings_of tags) free None
  none_lowest free passed none = All-from_members (λ s. Contains free s → ⊥) (holdings_of tags) (λ s in-s. passed s in-s (none_past none s in-s))
