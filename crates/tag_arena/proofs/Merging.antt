-- A freed range with its free neighbors is a longest run.
use Rattle.std.proofs.Common.{◌≡◌, ◌≢◌, ◌⊎◌, ℕ, ◌+◌, ◌-◌, ◌<◌, ◌≤◌, Bool, true, false, not, sym, subst, ap, ◌∙◌, inl, inr, ⊎_elim, List, get_or, remove, Contains, All, AllPairs, filter, Option, Some, None, arith}
use Rattle.std.proofs.lemmas.Bool.{cases_lt, cases_order, cases_eq, cases_Bool}
use Rattle.std.proofs.lemmas.List.Elements.{All-contains}
use Rattle.std.proofs.lemmas.List.Quantifiers.{all_pairs_remove}
use Rattle.std.specs.Option.{option_map_or}
use Rattle.std.specs.Ordering.{nat_cmp}
use Rattle.std.specs.FinMap as map
use Rattle.std.specs.FinMap.{FinMap, get}
use Rattle.deed_core.specs.Extent.{Covers, end_of}
use Rattle.deed_core.specs.Holding.{Holding, Apart}
use Rattle.tag_arena.specs.Neighbors.{Without, TakesLeft, TakesRight}
use Rattle.tag_arena.specs.Layout.{Layout, Holds, IsPartOf, IsAllocated, IsEdgedRun, IsWhole}
use Rattle.tag_arena.specs.Calls.{surrounds}
use Rattle.tag_arena.proofs.Members.{remove_kept, Contains-remove, remove_pairs, filter_remove, filter_whole}
use Rattle.tag_arena.proofs.Ranges.{not_both, same_where_shared, surrounds-true, true-surrounds, get_less, get_gone, was_allocated, freed_cases, Any-member, member-Any, holds_part}

-- what is left when a member of a list of ranges that don't overlap is taken out shares no unit with it
pub none_left : (old new : List Holding) (r x : Holding) (u : ℕ) → AllPairs Apart old → Without old r new → Contains new x → Covers x.range u → Covers r.range u → ⊥
none_left old new r x u apart w in-x cx cr =
    let there : Contains (remove old w.0) x = subst (λ (ys : List Holding). Contains ys x) w.3 in-x in
    let pair = remove_pairs Apart old w.0 r x apart w.1 there in
    let at : get_or old w.0 r ≡ r = w.2 r in
    ⊎_elim (λ h. not_both x r u (subst (Apart x) at h) cx cr) (λ h. not_both r x u (subst (λ (y : Holding). Apart y x) at h) cr cx) pair

pub without_member : (old new : List Holding) (r : Holding) → Without old r new → Contains old r
without_member old new r w = (w.0, w.1, w.2 r)

pub without_kept : (old new : List Holding) (r x : Holding) → Without old r new → Contains new x → Contains old x
without_kept old new r x w in-x = remove_kept old w.0 x (subst (λ (ys : List Holding). Contains ys x) w.3 in-x)

pub without_apart : (old new : List Holding) (r : Holding) → Without old r new → AllPairs Apart old → AllPairs Apart new
without_apart old new r w apart = subst (AllPairs Apart) (sym w.3) (all_pairs_remove Apart old w.0 w.1 apart)

pub without_filter : (p : Holding → Bool) (old new : List Holding) (r : Holding) → Without old r new → p r ≡ false → filter p old ≡ filter p new
without_filter p old new r w fails = filter_remove p old w.0 w.1 (λ d. ap p (w.2 d) ∙ fails) ∙ ap (filter p) (sym w.3)

module _ (a : Layout) (whole : IsWhole a) (piece : Holding) (at : get a.allocated piece.range.base ≡ Some piece) (s : Holding) (in-s : Contains a.spans s) (hs : IsPartOf s piece) where
  abbrev base : ℕ
  base = piece.range.base

  abbrev len : ℕ
  len = piece.range.len

  positive : 0 < len
  positive = (whole.tags_inside base piece at).1

  taken : (u : ℕ) → Covers piece.range u → IsAllocated a.allocated u
  taken u c = (base, piece, at, c)

  -- a free range that shares a unit with the span lies in it
  free_in_span : (r : Holding) (u : ℕ) → Contains a.free r → Covers r.range u → Covers s.range u → IsPartOf s r
  free_in_span r u in-r cr cs =
      let t = (whole.runs r in-r).run.inside in
      let ht : IsPartOf t.1 r = t.4 in
      let same : t.1 ≡ s = same_where_shared a.spans t.1 s u whole.spans_apart (Any-member a.spans t) in-s (omega (arith, ht.from, ht.to, cr), omega (arith, ht.from, ht.to, cr)) cs in
      subst (λ (y : Holding). IsPartOf y r) same ht

  -- a free range lies before or after the freed one
  beside : (r : Holding) → Contains a.free r → (r.range.base + r.range.len ≤ base) ⊎ (base + len ≤ r.range.base)
  beside r in-r =
      let run = (whole.runs r in-r).run in
      let some : 0 < r.range.len = run.some in
      elim (cases_lt base (r.range.base + r.range.len)) [
        | inr le ↦ inl le
        | inl lt ↦ elim (cases_lt r.range.base (base + len)) [
          | inr le ↦ inr le
          | inl lt2 ↦ elim (cases_lt r.range.base base) [
            | inl below ↦ absurd (run.free base (omega arith, lt) (taken base (omega (arith, positive), omega (arith, positive))))
            | inr above ↦ absurd (run.free r.range.base (omega arith, omega arith) (taken r.range.base (above, lt2)))
          ]
        ]
      ]

  -- the units from low to base are free, and mid has no range among them
  pub record IsLeft (low : ℕ) (mid : List Holding) : Type 0 where
    pub below : low ≤ base
    pub from : s.range.base ≤ low
    pub free : (u : ℕ) → low ≤ u → u < base → IsAllocated a.allocated u → ⊥
    pub edge : (low ≡ s.range.base) ⊎ IsAllocated a.allocated (low - 1)
    pub kept : (x : Holding) → Contains mid x → Contains a.free x
    pub others : (x : Holding) → Contains a.free x → base ≤ x.range.base → Contains mid x
    pub clear : (x : Holding) (u : ℕ) → Contains mid x → Covers x.range u → low ≤ u → u < base → ⊥
    pub apart : AllPairs Apart mid
    pub same : (p : Holding → Bool) → ((x : Holding) → low ≤ x.range.base → x.range.base + x.range.len ≤ base → p x ≡ false) → filter p a.free ≡ filter p mid

  abbrev pub low_of : Option Holding → ℕ
  low_of o = option_map_or (λ r. r.range.base) o base

  edge_before : (base ≡ s.range.base) ⊎ All (λ r. r.range.base + r.range.len ≢ base) a.free → (base ≡ s.range.base) ⊎ IsAllocated a.allocated (base - 1)
  edge_before (inl e) = inl e
  edge_before (inr none) =
      elim (cases_eq base s.range.base) [
        | inl e ↦ inl e
        | inr ne ↦
            elim (whole.covered s (base - 1) in-s (omega (arith, hs.from), omega (arith, hs.from, hs.to))) [
              | inr al ↦ inr al
              | inl f ↦
                  let c : Covers f.1.range (base - 1) = f.4 in
                  let ends : f.1.range.base + f.1.range.len ≡ base = ⊎_elim (λ le. omega (arith, c, le, hs.from)) (λ le. omega (arith, c, le, hs.from)) (beside f.1 (Any-member a.free f)) in
                  absurd (All-contains (λ r. r.range.base + r.range.len ≢ base) a.free f.1 none (Any-member a.free f) ends)
            ]
      ]

  pub left_of : (o : Option Holding) (mid : List Holding) → TakesLeft s.range.base base a.free o mid → IsLeft (low_of o) mid
  left_of None mid takes = record {
    below = omega arith;
    from = hs.from;
    free = λ u low high al. omega (arith, low, high);
    edge = edge_before takes.1;
    kept = λ x in-x. subst (λ (ys : List Holding). Contains ys x) takes.0 in-x;
    others = λ x in-x le. subst (λ (ys : List Holding). Contains ys x) (sym takes.0) in-x;
    clear = λ x u in-x cx low high. omega (arith, low, high);
    apart = subst (AllPairs Apart) (sym takes.0) whole.free_apart;
    same = λ p fails. ap (filter p) (sym takes.0);
  }
  left_of (Some r) mid takes =
      let in-r = without_member a.free mid r takes.2 in
      let old = whole.runs r in-r in
      let some : 0 < r.range.len = old.run.some in
      let inside = free_in_span r (base - 1) in-r (omega (arith, takes.1), omega (arith, takes.1)) (omega (arith, takes.0), omega (arith, takes.0, hs.to)) in
      record {
        below = omega (arith, takes.1);
        from = inside.from;
        free = λ u low high al. old.run.free u (low, omega (arith, high, takes.1)) al;
        edge = old.low s in-s (holds_part s r inside);
        kept = λ x in-x. without_kept a.free mid r x takes.2 in-x;
        others = λ x in-x le. subst (λ (ys : List Holding). Contains ys x) (sym takes.2.3)
            (Contains-remove a.free takes.2.0 x in-x (λ e. let same : r ≡ x = sym (takes.2.2 x) ∙ e in let bases : r.range.base ≡ x.range.base = ap (λ (y : Holding). y.range.base) same in omega (arith, le, takes.1)));
        clear = λ x u in-x cx low high. none_left a.free mid r x u whole.free_apart takes.2 in-x cx (low, omega (arith, high, takes.1));
        apart = without_apart a.free mid r takes.2 whole.free_apart;
        same = λ p fails. without_filter p a.free mid r takes.2 (fails r (omega arith) (omega (arith, takes.1)));
      }

  -- the units from the freed range's end to high are free, and new has no range among them
  pub record IsRight (high : ℕ) (mid new : List Holding) : Type 0 where
    pub above : base + len ≤ high
    pub to : high ≤ s.range.base + s.range.len
    pub free : (u : ℕ) → base + len ≤ u → u < high → IsAllocated a.allocated u → ⊥
    pub edge : (high ≡ s.range.base + s.range.len) ⊎ IsAllocated a.allocated high
    pub kept : (x : Holding) → Contains new x → Contains mid x
    pub clear : (x : Holding) (u : ℕ) → Contains new x → Covers x.range u → base + len ≤ u → u < high → ⊥
    pub same : (p : Holding → Bool) → ((x : Holding) → base + len ≤ x.range.base → x.range.base + x.range.len ≤ high → p x ≡ false) → filter p mid ≡ filter p new

  module _ (low : ℕ) (mid : List Holding) (left : IsLeft low mid) where
    abbrev pub high_of : Option Holding → ℕ
    high_of o = option_map_or (λ r. r.range.base + r.range.len) o (base + len)

    edge_after : (base + len ≡ s.range.base + s.range.len) ⊎ All (λ r. r.range.base ≢ base + len) mid → (base + len ≡ s.range.base + s.range.len) ⊎ IsAllocated a.allocated (base + len)
    edge_after (inl e) = inl e
    edge_after (inr none) =
        elim (cases_eq (base + len) (s.range.base + s.range.len)) [
          | inl e ↦ inl e
          | inr ne ↦
              elim (whole.covered s (base + len) in-s (omega (arith, hs.from), omega (arith, hs.to))) [
                | inr al ↦ inr al
                | inl f ↦
                    let c : Covers f.1.range (base + len) = f.4 in
                    let after : base + len ≤ f.1.range.base = ⊎_elim (λ le. absurd (omega (arith, c, le, positive))) (λ le. le) (beside f.1 (Any-member a.free f)) in
                    let begins : f.1.range.base ≡ base + len = omega (arith, c, after) in
                    absurd (All-contains (λ r. r.range.base ≢ base + len) mid f.1 none (left.others f.1 (Any-member a.free f) (omega arith)) begins)
              ]
        ]

    pub right_of : (o : Option Holding) (new : List Holding) → TakesRight (base + len) (s.range.base + s.range.len) mid o new → IsRight (high_of o) mid new
    right_of None new takes = record {
      above = omega arith;
      to = hs.to;
      free = λ u low high al. omega (arith, low, high);
      edge = edge_after takes.1;
      kept = λ x in-x. subst (λ (ys : List Holding). Contains ys x) takes.0 in-x;
      clear = λ x u in-x cx low high. omega (arith, low, high);
      same = λ p fails. ap (filter p) (sym takes.0);
    }
    right_of (Some r) new takes =
        let in-mid = without_member mid new r takes.2 in
        let in-r = left.kept r in-mid in
        let old = whole.runs r in-r in
        let some : 0 < r.range.len = old.run.some in
        let inside = free_in_span r (base + len) in-r (omega (arith, takes.1), omega (arith, takes.1)) (omega (arith, hs.from), takes.0) in
        record {
          above = omega (arith, takes.1);
          to = inside.to;
          free = λ u low high al. old.run.free u (omega (arith, low, takes.1), high) al;
          edge = old.high s in-s (holds_part s r inside);
          kept = λ x in-x. without_kept mid new r x takes.2 in-x;
          clear = λ x u in-x cx low high. none_left mid new r x u left.apart takes.2 in-x cx (omega (arith, low, takes.1), high);
          same = λ p fails. without_filter p mid new r takes.2 (fails r (omega (arith, takes.1)) (omega arith));
        }

    module _ (high : ℕ) (new : List Holding) (right : IsRight high mid new) (merged : Holding) (root_is : merged.root ≡ piece.root) (base_is : merged.range.base ≡ low) (end_is : end_of merged.range ≡ high) where
      abbrev tags : FinMap nat_cmp Holding
      tags = map.remove a.allocated base

      abbrev outside : Holding → Bool
      outside x = not (surrounds merged x)

      bounds : (merged.range.base ≤ base) × (base + len ≤ merged.range.base + merged.range.len) × (merged.range.base ≡ low) × (merged.range.base + merged.range.len ≡ high)
      bounds = (omega (arith, left.below, base_is), omega (arith, right.above, end_is), base_is, end_is)

      -- no unit of the freed range is in another tag
      freed_unit : (u : ℕ) → Covers piece.range u → IsAllocated tags u → ⊥
      freed_unit u c al =
          elim (cases_order al.0 base) [
            | inl e ↦ let gone : get tags base ≡ Some al.1 = ap (get tags) (sym e) ∙ al.2 in let none = get_gone a.allocated base piece in absurd cc
            | inr (inl lt) ↦ omega (arith, whole.tags_apart al.0 base al.1 piece (sym (get_less a.allocated base piece al.0 (omega arith)) ∙ al.2) at lt, c, al.3)
            | inr (inr gt) ↦ (let was = sym (get_less a.allocated base piece al.0 (omega arith)) ∙ al.2 in omega (arith, whole.tags_apart base al.0 piece al.1 at was gt, (whole.tags_inside al.0 al.1 was).0, c, al.3))
          ]

      merged_free : (u : ℕ) → Covers merged.range u → IsAllocated tags u → ⊥
      merged_free u c al =
          elim (cases_lt u base) [
            | inl lt ↦ left.free u (omega (arith, c, bounds)) lt (was_allocated a.allocated base piece u al)
            | inr ge ↦ elim (cases_lt u (base + len)) [
              | inl lt ↦ freed_unit u (ge, lt) al
              | inr past ↦ right.free u past (omega (arith, c, bounds)) (was_allocated a.allocated base piece u al)
            ]
          ]

      merged_inside : IsPartOf s merged
      merged_inside = record { root = root_is ∙ hs.root; from = omega (arith, left.from, bounds); to = omega (arith, right.to, bounds) }

      pub merged_holds : IsPartOf merged piece
      merged_holds = record { root = sym root_is; from = omega (arith, bounds); to = omega (arith, bounds) }

      span_is : (t : Holding) → Contains a.spans t → Holds t merged → t ≡ s
      span_is t in-t ht = same_where_shared a.spans t s base whole.spans_apart in-t in-s (omega (arith, ht.from, bounds), omega (arith, ht.to, bounds, positive)) (omega (arith, hs.from), omega (arith, hs.to, positive))

      low_edge : (low ≡ s.range.base) ⊎ IsAllocated tags (low - 1)
      low_edge =
          elim (cases_eq low s.range.base) [
            | inl e ↦ inl e
            | inr ne ↦
                ⊎_elim inl
                (λ al. ⊎_elim (λ (c : Covers piece.range (low - 1)). absurd (omega (arith, c, left.below, left.from))) inr (freed_cases a.allocated base piece (low - 1) at al))
                left.edge
          ]

      high_edge : (high ≡ s.range.base + s.range.len) ⊎ IsAllocated tags high
      high_edge =
          ⊎_elim inl
          (λ al. ⊎_elim (λ (c : Covers piece.range high). absurd (omega (arith, c, right.above))) inr (freed_cases a.allocated base piece high at al))
          right.edge

      pub merged_edged : IsEdgedRun a.spans tags merged
      merged_edged = record {
        run = record {
          some = omega (arith, bounds, positive);
          inside = member-Any (λ (t : Holding). IsPartOf t merged) a.spans s in-s merged_inside;
          free = merged_free;
        };
        low = λ t in-t ht. let e : s.range.base ≡ t.range.base = ap (λ (y : Holding). y.range.base) (sym (span_is t in-t ht)) in ⊎_elim (λ f. inl (base_is ∙ f ∙ e)) (λ al. inr (subst (λ (k : ℕ). IsAllocated tags (k - 1)) (sym base_is) al)) low_edge;
        high = λ t in-t ht.
            let e : s.range.base + s.range.len ≡ t.range.base + t.range.len = ap (λ (y : Holding). y.range.base + y.range.len) (sym (span_is t in-t ht)) in
            ⊎_elim (λ f. inl (end_is ∙ f ∙ e)) (λ al. inr (subst (IsAllocated tags) (sym end_is) al)) high_edge;
      }

      -- what is left isn't held by the merged range
      all_outside : (x : Holding) → Contains new x → outside x ≡ true
      all_outside x in-x =
          elim (cases_Bool (surrounds merged x)) [
            | inr f ↦ ap not f
            | inl t ↦
                let h = surrounds-true merged x t in
                let in-free = left.kept x (right.kept x in-x) in
                let some : 0 < x.range.len = (whole.runs x in-free).run.some in
                elim (cases_lt x.range.base base) [
                  | inl lt ↦ absurd (left.clear x x.range.base (right.kept x in-x) (omega arith, omega arith) (omega (arith, h.from, bounds)) lt)
                  | inr ge ↦ elim (cases_lt x.range.base (base + len)) [
                    | inl lt ↦ absurd ((whole.runs x in-free).run.free x.range.base (omega arith, omega arith) (taken x.range.base (ge, lt)))
                    | inr past ↦ absurd (right.clear x x.range.base in-x (omega arith, omega arith) past (omega (arith, h.to, bounds)))
                  ]
                ]
          ]

      held_false : (x : Holding) → low ≤ x.range.base → x.range.base + x.range.len ≤ high → outside x ≡ false
      held_false x from to = ap not (true-surrounds merged x (record { from = omega (arith, bounds, from); to = omega (arith, bounds, to) }))

      pub others_are : filter outside a.free ≡ new
      others_are =
          left.same outside (λ x from to. held_false x from (omega (arith, to, bounds)))
          ∙ right.same outside (λ x from to. held_false x (omega (arith, from, bounds)) to)
          ∙ filter_whole outside new all_outside
