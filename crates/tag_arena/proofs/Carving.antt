-- A carve keeps a layout whole.
use Rattle.std.proofs.Common.{◌≡◌, ◌⊎◌, ℕ, ◌+◌, ◌-◌, ◌<◌, ◌≤◌, Bool, true, false, not, nat_lt, refl, sym, subst, ap, ◌∙◌, inl, inr, ⊎_elim, List, ◌++◌, Contains, AllPairs, Any, filter, Option, Some, None, arith}
use Rattle.std.proofs.lemmas.Bool.{not-false, cases_lt, cases_eq}
use Rattle.std.proofs.lemmas.List.Elements.{Contains-append_left, Contains-append_right, Contains-append_cases}
use Rattle.std.proofs.lemmas.List.Kept.{AllPairs-filter}
use Rattle.std.specs.Ordering.{nat_cmp}
use Rattle.std.specs.FinMap.{FinMap, get, insert}
use Rattle.deed_core.specs.Extent.{Covers, end_of}
use Rattle.deed_core.specs.Holding.{Holding, Apart}
use Rattle.tag_arena.specs.Layout.{Layout, Holds, IsPartOf, IsAllocated, IsEdgedRun, IsWhole}
use Rattle.tag_arena.specs.Calls.{part, rest_between, surrounds, rests}
use Rattle.tag_arena.proofs.Members.{Contains-filter, Contains-from_filter, AllPairs-append, AllPairs-optional}
use Rattle.tag_arena.proofs.Ranges.{apart_or_share, same_where_shared, surrounds-true, true-surrounds, between_is, between_has, get_same, get_other, new_allocated, still_allocated, allocated_cases, Any-member, member-Any, holds_part}

module _ (a : Layout) (whole : IsWhole a) (r piece : Holding) (among : Contains a.free r) (held : IsPartOf r piece) (some : 0 < piece.range.len) where
  abbrev base : ℕ
  base = piece.range.base

  abbrev len : ℕ
  len = piece.range.len

  abbrev outside : Holding → Bool
  outside x = not (surrounds x piece)

  abbrev low_rest : Holding
  low_rest = part r r.range.base (base - r.range.base)

  abbrev high_rest : Holding
  high_rest = part r (base + len) (r.range.base + r.range.len - (base + len))

  span : Any (λ s. IsPartOf s r) a.spans
  span = (whole.runs r among).run.inside

  free_unit : (u : ℕ) → Covers r.range u → IsAllocated a.allocated u → ⊥
  free_unit = (whole.runs r among).run.free

  none_here : (o : Option Holding) → get a.allocated base ≡ o → get a.allocated base ≡ None
  none_here None e = e
  none_here (Some t) e =
      let there = whole.tags_inside base t e in
      let at : t.range.base ≡ base = there.0 in
      let positive : 0 < t.range.len = there.1 in
      absurd (free_unit base (omega (arith, held.from), omega (arith, held.to)) (base, t, e, (omega arith, omega arith)))

  pub no_tag : get a.allocated base ≡ None
  no_tag = none_here (get a.allocated base) refl

  -- the other free ranges share no unit with r
  other_apart : (x : Holding) → Contains a.free x → outside x ≡ true → (u : ℕ) → Covers x.range u → Covers r.range u → ⊥
  other_apart x in-x out u cx cr =
      let same : x ≡ r = same_where_shared a.free x r u whole.free_apart in-x among cx cr in
      let yes' : surrounds x piece ≡ true = ap (λ y. surrounds y piece) same ∙ true-surrounds r piece (holds_part r piece held) in
      let bad : not true ≡ true = ap not (sym yes') ∙ out in
      cc

  abbrev pub new_free : List Holding
  new_free = filter outside a.free ++ rests r piece

  -- a new free range is another old one, the low rest or the high rest
  pub new_cases : (x : Holding) → Contains new_free x → (Contains a.free x × (outside x ≡ true)) ⊎ (((r.range.base < base) × (x ≡ low_rest)) ⊎ ((base + len < r.range.base + r.range.len) × (x ≡ high_rest)))
  new_cases x h =
      ⊎_elim (λ l. inl (Contains-from_filter outside a.free x l))
      (λ rest. inr (⊎_elim (λ l. inl (between_is r r.range.base base x l)) (λ g. inr (between_is r (base + len) (r.range.base + r.range.len) x g)) (Contains-append_cases (rest_between r r.range.base base) (rest_between r (base + len) (r.range.base + r.range.len)) x rest)))
      (Contains-append_cases (filter outside a.free) _ x h)

  abbrev pub tags : FinMap nat_cmp Holding
  tags = insert a.allocated base piece

  abbrev still : (u : ℕ) → IsAllocated a.allocated u → IsAllocated tags u
  still u = still_allocated a.allocated base piece u no_tag

  -- no unit of a part of r outside the carve is allocated
  rest_free : (u : ℕ) → Covers r.range u → (Covers piece.range u → ⊥) → IsAllocated tags u → ⊥
  rest_free u c out al = ⊎_elim out (free_unit u c) (allocated_cases a.allocated base piece u al)

  other_run : (x : Holding) → Contains a.free x → outside x ≡ true → IsEdgedRun a.spans tags x
  other_run x in-x out =
      let old = whole.runs x in-x in
      record {
        run = record {
          some = old.run.some;
          inside = old.run.inside;
          free = λ u cx al. ⊎_elim (λ c. other_apart x in-x out u cx (omega (arith, c, held.from), omega (arith, c, held.to))) (old.run.free u cx) (allocated_cases a.allocated base piece u al);
        };
        low = λ s in-s h. ⊎_elim inl (λ al. inr (still _ al)) (old.low s in-s h);
        high = λ s in-s h. ⊎_elim inl (λ al. inr (still _ al)) (old.high s in-s h);
      }

  -- a span that shares a unit with r holds it
  span_of : (s : Holding) (u : ℕ) → Contains a.spans s → Covers s.range u → Covers r.range u → Holds s r
  span_of s u in-s cs cr =
      let h : IsPartOf span.1 r = span.4 in
      let same : span.1 ≡ s = same_where_shared a.spans span.1 s u whole.spans_apart (Any-member a.spans span) in-s (omega (arith, h.from, h.to, cr), omega (arith, h.from, h.to, cr)) cs in
      subst (λ x. Holds x r) same (holds_part span.1 r h)

  low_run : r.range.base < base → IsEdgedRun a.spans tags low_rest
  low_run lt =
      let h : IsPartOf span.1 r = span.4 in
      record {
        run = record {
          some = omega arith;
          inside = member-Any (λ s. IsPartOf s low_rest) a.spans span.1 (Any-member a.spans span) (record { root = h.root; from = h.from; to = omega (arith, h.to, held.to) });
          free = λ u cx. rest_free u (omega (arith, cx), omega (arith, cx, held.to)) (λ c. omega (arith, cx, c));
        };
        low = λ s in-s hs. ⊎_elim inl (λ al. inr (still _ al))
            ((whole.runs r among).low s in-s (span_of s r.range.base in-s (hs.from, omega (arith, hs.to)) (omega arith, omega (arith, held.to))));
        high = λ s in-s hs. inr (let e : base ≡ r.range.base + (base - r.range.base) = omega arith in subst (IsAllocated tags) e (new_allocated a.allocated base piece base (omega arith, omega arith)));
      }

  high_run : base + len < r.range.base + r.range.len → IsEdgedRun a.spans tags high_rest
  high_run lt =
      let h : IsPartOf span.1 r = span.4 in
      let whole_end : r.range.base + r.range.len ≡ base + len + (r.range.base + r.range.len - (base + len)) = omega arith in
      record {
        run = record {
          some = omega arith;
          inside = member-Any (λ s. IsPartOf s high_rest) a.spans span.1 (Any-member a.spans span) (record { root = h.root; from = omega (arith, h.from, held.from); to = omega (arith, h.to) });
          free = λ u cx. rest_free u (omega (arith, cx, held.from), omega (arith, cx)) (λ c. omega (arith, cx, c));
        };
        low = λ s in-s hs. inr (new_allocated a.allocated base piece (base + len - 1) (omega arith, omega arith));
        high = λ s in-s hs.
            let old = (whole.runs r among).high s in-s (span_of s (base + len) in-s (hs.from, omega (arith, hs.to)) (omega (arith, held.from), lt)) in
            ⊎_elim (λ e. inl (sym whole_end ∙ e)) (λ al. inr (subst (IsAllocated tags) whole_end (still _ al))) old;
      }

  new_run : (x : Holding) → Contains new_free x → IsEdgedRun a.spans tags x
  new_run x h =
      ⊎_elim (λ old. other_run x old.0 old.1)
      (λ rest. ⊎_elim (λ l. subst (IsEdgedRun a.spans tags) (sym l.1) (low_run l.0)) (λ g. subst (IsEdgedRun a.spans tags) (sym g.1) (high_run g.0)) rest)
      (new_cases x h)

  -- what stands at the carve's base is the carve
  at_base : (b : ℕ) (t : Holding) → get tags b ≡ Some t → b ≡ base → t ≡ piece
  at_base b t at e = let both : Some t ≡ Some piece = sym at ∙ ap (get tags) e ∙ get_same a.allocated base piece in cc

  new_tags_inside : (b : ℕ) (t : Holding) → get tags b ≡ Some t → (t.range.base ≡ b) × (0 < t.range.len) × Any (λ s. IsPartOf s t) a.spans
  new_tags_inside b t at =
      elim (cases_eq b base) [
        | inl e ↦
            let h : IsPartOf span.1 r = span.4 in
            subst (λ (x : Holding). (x.range.base ≡ b) × (0 < x.range.len) × Any (λ s. IsPartOf s x) a.spans) (sym (at_base b t at e))
            (sym e, some, member-Any (λ s. IsPartOf s piece) a.spans span.1 (Any-member a.spans span) (record { root = held.root ∙ h.root; from = omega (arith, h.from, held.from); to = omega (arith, h.to, held.to) }))
        | inr ne ↦ whole.tags_inside b t (sym (get_other a.allocated base piece b ne) ∙ at)
      ]

  -- an old tag lies wholly before or after the carve
  old_apart : (b : ℕ) (t : Holding) → get a.allocated b ≡ Some t → Apart t piece
  old_apart b t at =
      ⊎_elim (λ apart. apart)
      (λ shared. absurd (let c = shared.2 in let ct = shared.1 in free_unit shared.0 (omega (arith, c, held.from), omega (arith, c, held.to)) (b, t, at, ct)))
      (apart_or_share t piece (whole.tags_inside b t at).1 some)

  new_tags_apart : (b c : ℕ) (t w : Holding) → get tags b ≡ Some t → get tags c ≡ Some w → b < c → end_of t.range ≤ c
  new_tags_apart b c t w at-b at-c lt =
      elim (cases_eq b base) [
        | inl e ↦
            let old = sym (get_other a.allocated base piece c (omega arith)) ∙ at-c in
            let there = whole.tags_inside c w old in
            let above : end_of piece.range ≤ c = ⊎_elim (λ le. absurd (omega (arith, le, there.0, there.1))) (λ le. omega (arith, le, there.0)) (old_apart c w old) in
            subst (λ (x : Holding). end_of x.range ≤ c) (sym (at_base b t at-b e)) above
        | inr ne ↦
            let old = sym (get_other a.allocated base piece b ne) ∙ at-b in
            let there = whole.tags_inside b t old in
            elim (cases_eq c base) [
              | inl e ↦ ⊎_elim (λ le. omega (arith, le)) (λ le. absurd (omega (arith, le, there.0, some))) (old_apart b t old)
              | inr ne2 ↦ whole.tags_apart b c t w old (sym (get_other a.allocated base piece c ne2) ∙ at-c) lt
            ]
      ]

  covered_here : (u : ℕ) → Covers r.range u → Any (λ x. Covers x.range u) new_free ⊎ IsAllocated tags u
  covered_here u c =
      elim (cases_lt u base) [
        | inl lt ↦
            inl (member-Any (λ x. Covers x.range u) new_free low_rest
            (Contains-append_right (filter outside a.free) _ _ (Contains-append_left (rest_between r r.range.base base) (rest_between r (base + len) (r.range.base + r.range.len)) _ (between_has r r.range.base base (omega (arith, c)))))
            (omega (arith, c), omega (arith, c)))
        | inr ge ↦ elim (cases_lt u (base + len)) [
          | inl lt ↦ inr (new_allocated a.allocated base piece u (ge, lt))
          | inr past ↦
              inl (member-Any (λ x. Covers x.range u) new_free high_rest
              (Contains-append_right (filter outside a.free) _ _ (Contains-append_right (rest_between r r.range.base base) (rest_between r (base + len) (r.range.base + r.range.len)) _ (between_has r (base + len) (r.range.base + r.range.len) (omega (arith, c)))))
              (past, omega (arith, c)))
        ]
      ]

  covered_by : (x : Holding) (u : ℕ) → Contains a.free x → Covers x.range u → (b : Bool) → outside x ≡ b → Any (λ x. Covers x.range u) new_free ⊎ IsAllocated tags u
  covered_by x u in-x c true out = inl (member-Any (λ x. Covers x.range u) new_free x (Contains-append_left (filter outside a.free) _ x (Contains-filter outside a.free x in-x out)) c)
  covered_by x u in-x c false out =
      let h : Holds x piece = surrounds-true x piece (not-false (surrounds x piece) out) in
      let same : x ≡ r = same_where_shared a.free x r base whole.free_apart in-x among (omega (arith, h.from), omega (arith, h.to)) (omega (arith, held.from), omega (arith, held.to)) in
      covered_here u (subst (λ y. Covers y.range u) same c)

  new_covered : (s : Holding) (u : ℕ) → Contains a.spans s → Covers s.range u → Any (λ x. Covers x.range u) new_free ⊎ IsAllocated tags u
  new_covered s u in-s cs =
      ⊎_elim (λ f. covered_by f.1 u (Any-member a.free f) f.4 (outside f.1) refl) (λ al. inr (still u al)) (whole.covered s u in-s cs)

  -- another free range doesn't overlap a part of r
  apart_from_part : (x p : Holding) → Contains a.free x → outside x ≡ true → 0 < p.range.len → ((u : ℕ) → Covers p.range u → Covers r.range u) → Apart x p
  apart_from_part x p in-x out some' inside =
      ⊎_elim (λ apart. apart) (λ shared. absurd (other_apart x in-x out shared.0 shared.1 (inside shared.0 shared.2)))
      (apart_or_share x p (whole.runs x in-x).run.some some')

  rest_apart : (x y : Holding) → Contains (filter outside a.free) x → Contains (rests r piece) y → Apart x y
  rest_apart x y hx hy =
      let old = Contains-from_filter outside a.free x hx in
      ⊎_elim
      (λ l. let b = between_is r r.range.base base y l in
      subst (Apart x) (sym b.1) (apart_from_part x low_rest old.0 old.1 (omega (arith, b.0)) (λ u c. (omega (arith, c), omega (arith, c, b.0, held.to)))))
      (λ g. let b = between_is r (base + len) (r.range.base + r.range.len) y g in
      subst (Apart x) (sym b.1) (apart_from_part x high_rest old.0 old.1 (omega (arith, b.0)) (λ u c. (omega (arith, c, held.from), omega (arith, c, b.0)))))
      (Contains-append_cases (rest_between r r.range.base base) (rest_between r (base + len) (r.range.base + r.range.len)) y hy)

  rests_apart : (x y : Holding) → Contains (rest_between r r.range.base base) x → Contains (rest_between r (base + len) (r.range.base + r.range.len)) y → Apart x y
  rests_apart x y hx hy =
      let l = between_is r r.range.base base x hx in
      let g = between_is r (base + len) (r.range.base + r.range.len) y hy in
      rw (l.1, g.1) (inl (omega (arith, l.0, g.0)))

  new_apart : AllPairs Apart new_free
  new_apart =
      AllPairs-append Apart (filter outside a.free) (rests r piece)
      (AllPairs-filter Apart outside a.free whole.free_apart)
      (AllPairs-append Apart (rest_between r r.range.base base) (rest_between r (base + len) (r.range.base + r.range.len))
      (AllPairs-optional Apart (nat_lt r.range.base base) low_rest)
      (AllPairs-optional Apart (nat_lt (base + len) (r.range.base + r.range.len)) high_rest) rests_apart)
      rest_apart

  pub whole_after_carve : IsWhole (record a { free = new_free; allocated = tags })
  whole_after_carve = record {
    spans_apart = whole.spans_apart;
    free_apart = new_apart;
    runs = new_run;
    tags_inside = new_tags_inside;
    tags_apart = new_tags_apart;
    covered = new_covered;
  }
