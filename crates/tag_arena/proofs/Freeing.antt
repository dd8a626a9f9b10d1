-- A free keeps a layout whole.
use Rattle.std.proofs.Common.{◌≡◌, ◌⊎◌, ℕ, ◌+◌, ◌-◌, ◌<◌, Bool, true, false, not, refl, sym, subst, ap, ◌∙◌, inl, inr, ⊎_elim, List, [], ◌∷◌, ◌++◌, Contains, AllPairs, Any, filter, Some, arith}
use Rattle.std.proofs.lemmas.Bool.{not-false, cases_lt, cases_eq}
use Rattle.std.proofs.lemmas.List.Elements.{Contains-append_left, Contains-push, Contains-push_cases}
use Rattle.std.proofs.lemmas.List.Kept.{AllPairs-filter}
use Rattle.std.specs.Ordering.{nat_cmp}
use Rattle.std.specs.FinMap.{FinMap, get, remove}
use Rattle.deed_core.specs.Extent.{Covers}
use Rattle.deed_core.specs.Holding.{Holding, Apart}
use Rattle.tag_arena.specs.Layout.{Layout, Holds, IsPartOf, IsAllocated, IsRun, IsEdgedRun, IsLongestRun, IsWhole}
use Rattle.tag_arena.specs.Calls.{surrounds}
use Rattle.tag_arena.proofs.Members.{Contains-filter, Contains-from_filter, Contains-cases, Contains-nil, AllPairs-append}
use Rattle.tag_arena.proofs.Ranges.{apart_or_share, same_where_shared, surrounds-true, true-surrounds, get_less, get_gone, was_allocated, freed_cases, Any-member, member-Any, holds_part}

pub not_true : (b : Bool) → not b ≡ true → b ≡ true → ⊥
not_true true e f = cc
not_true false e f = cc

module _ (spans : List Holding) (apart : AllPairs Apart spans) (m : FinMap nat_cmp Holding) (e : Holding) (edged : IsEdgedRun spans m e) where
  -- a run that shares a unit with an edged run lies in it
  pub absorbs : (x : Holding) (u : ℕ) → IsRun spans m x → Covers e.range u → Covers x.range u → IsPartOf e x
  absorbs x u run ce cx =
      let s = edged.run.inside in
      let hs : IsPartOf s.1 e = s.4 in
      let t = run.inside in
      let ht : IsPartOf t.1 x = t.4 in
      let same : t.1 ≡ s.1 = same_where_shared spans t.1 s.1 u apart (Any-member spans t) (Any-member spans s) (omega (arith, ht.from, ht.to, cx), omega (arith, ht.from, ht.to, cx)) (omega (arith, hs.from, hs.to, ce), omega (arith, hs.from, hs.to, ce)) in
      let inside : IsPartOf s.1 x = subst (λ (y : Holding). IsPartOf y x) same ht in
      record {
        root = inside.root ∙ sym hs.root;
        from = elim (cases_lt x.range.base e.range.base) [
          | inr le ↦ le
          | inl lt ↦ absurd (⊎_elim (λ edge. omega (arith, edge, inside.from)) (λ al. run.free (e.range.base - 1) (omega arith, omega (arith, ce, cx)) al) (edged.low s.1 (Any-member spans s) (holds_part s.1 e hs)))
        ];
        to = elim (cases_lt (e.range.base + e.range.len) (x.range.base + x.range.len)) [
          | inr le ↦ le
          | inl lt ↦ absurd (⊎_elim (λ edge. omega (arith, edge, inside.to)) (λ al. run.free (e.range.base + e.range.len) (omega (arith, ce, cx), lt) al) (edged.high s.1 (Any-member spans s) (holds_part s.1 e hs)))
        ];
      }

  -- so it is a longest run
  pub longest_edged : IsLongestRun spans m e
  longest_edged = record {
    run = edged.run;
    longest = λ s run h.
        let some : 0 < e.range.len = edged.run.some in
        let back : IsPartOf e s = absorbs s e.range.base run (omega arith, omega arith) (h.from, omega (arith, h.to)) in
        let base : s.range.base ≡ e.range.base = omega (arith, h.from, back.from) in
        let len : s.range.len ≡ e.range.len = omega (arith, h.to, back.to, h.from, back.from) in
        λ i. record { root = back.root i; range = record { base = base i; len = len i } };
  }

module _ (a : Layout) (whole : IsWhole a) (base : ℕ) (piece : Holding) (at : get a.allocated base ≡ Some piece) (merged : Holding) (edged : IsEdgedRun a.spans (remove a.allocated base) merged) (held : IsPartOf merged piece) where
  abbrev pub tags : FinMap nat_cmp Holding
  tags = remove a.allocated base

  abbrev outside : Holding → Bool
  outside x = not (surrounds merged x)

  abbrev pub new_free : List Holding
  new_free = filter outside a.free ++ merged ∷ []

  was : (u : ℕ) → IsAllocated tags u → IsAllocated a.allocated u
  was u = was_allocated a.allocated base piece u

  -- an old free range is still a run
  still_run : (x : Holding) → Contains a.free x → IsRun a.spans tags x
  still_run x in-x =
      let old = (whole.runs x in-x).run in
      record { some = old.some; inside = old.inside; free = λ u c al. old.free u c (was u al) }

  -- one that the merged range doesn't hold shares no unit with it
  none_shared : (x : Holding) → Contains a.free x → outside x ≡ true → (u : ℕ) → Covers merged.range u → Covers x.range u → ⊥
  none_shared x in-x out u cm cx =
      let h = absorbs a.spans whole.spans_apart tags merged edged x u (still_run x in-x) cm cx in
      not_true (surrounds merged x) out (true-surrounds merged x (holds_part merged x h))

  -- an edge of an old free range stays one
  low_edge : (x s : Holding) → Contains a.free x → outside x ≡ true → Contains a.spans s → Holds s x → (x.range.base ≡ s.range.base) ⊎ IsAllocated tags (x.range.base - 1)
  low_edge x s in-x out in-s hs =
      let some : 0 < x.range.len = (whole.runs x in-x).run.some in
      elim (cases_eq x.range.base s.range.base) [
        | inl e ↦ inl e
        | inr ne ↦
            elim ((whole.runs x in-x).low s in-s hs) [
              | inl e ↦ inl e
              | inr al ↦ elim (freed_cases a.allocated base piece (x.range.base - 1) at al) [
                | inr al2 ↦ inr al2
                | inl c ↦
                    let t = edged.run.inside in
                    let ht : IsPartOf t.1 merged = t.4 in
                    let same : t.1 ≡ s = same_where_shared a.spans t.1 s (x.range.base - 1) whole.spans_apart (Any-member a.spans t) in-s (omega (arith, ht.from, held.from, c), omega (arith, ht.to, held.to, c)) (omega (arith, hs.from), omega (arith, hs.from, hs.to)) in
                    let hm : Holds s merged = subst (λ (y : Holding). Holds y merged) same (holds_part t.1 merged ht) in
                    elim (cases_lt x.range.base (merged.range.base + merged.range.len)) [
                      | inl lt ↦ absurd (none_shared x in-x out x.range.base (omega (arith, held.from, c), lt) (omega arith, omega arith))
                      | inr ge ↦
                          let touch : merged.range.base + merged.range.len ≡ x.range.base = omega (arith, held.from, held.to, c) in
                          absurd (⊎_elim (λ edge. omega (arith, edge, hs.to)) (λ al. (still_run x in-x).free x.range.base (omega arith, omega arith) (subst (IsAllocated tags) touch al)) (edged.high s in-s hm))
                    ]
              ]
            ]
      ]

  high_edge : (x s : Holding) → Contains a.free x → outside x ≡ true → Contains a.spans s → Holds s x → (x.range.base + x.range.len ≡ s.range.base + s.range.len) ⊎ IsAllocated tags (x.range.base + x.range.len)
  high_edge x s in-x out in-s hs =
      let some : 0 < x.range.len = (whole.runs x in-x).run.some in
      let end : ℕ = x.range.base + x.range.len in
      elim (cases_eq (x.range.base + x.range.len) (s.range.base + s.range.len)) [
        | inl e ↦ inl e
        | inr ne ↦
            elim ((whole.runs x in-x).high s in-s hs) [
              | inl e ↦ inl e
              | inr al ↦ elim (freed_cases a.allocated base piece (x.range.base + x.range.len) at al) [
                | inr al2 ↦ inr al2
                | inl c ↦
                    let t = edged.run.inside in
                    let ht : IsPartOf t.1 merged = t.4 in
                    let same : t.1 ≡ s = same_where_shared a.spans t.1 s (x.range.base + x.range.len) whole.spans_apart (Any-member a.spans t) in-s (omega (arith, ht.from, held.from, c), omega (arith, ht.to, held.to, c)) (omega (arith, hs.from), omega (arith, hs.from, hs.to)) in
                    let hm : Holds s merged = subst (λ (y : Holding). Holds y merged) same (holds_part t.1 merged ht) in
                    elim (cases_lt merged.range.base (x.range.base + x.range.len)) [
                      | inl lt ↦ absurd (none_shared x in-x out (x.range.base + x.range.len - 1) (omega arith, omega (arith, held.to, c)) (omega arith, omega arith))
                      | inr ge ↦
                          let touch : merged.range.base - 1 ≡ x.range.base + x.range.len - 1 = omega (arith, held.from, held.to, c) in
                          absurd (⊎_elim (λ edge. omega (arith, edge, hs.from, held.from, c)) (λ al. (still_run x in-x).free (x.range.base + x.range.len - 1) (omega arith, omega arith) (subst (IsAllocated tags) touch al)) (edged.low s in-s hm))
                    ]
              ]
            ]
      ]

  pub new_cases : (x : Holding) → Contains new_free x → (Contains a.free x × (outside x ≡ true)) ⊎ (merged ≡ x)
  new_cases x h = ⊎_elim (λ l. inl (Contains-from_filter outside a.free x l)) inr (Contains-push_cases (filter outside a.free) merged x h)

  new_run : (x : Holding) → Contains new_free x → IsEdgedRun a.spans tags x
  new_run x h =
      ⊎_elim
      (λ old. record { run = still_run x old.0; low = λ s in-s hs. low_edge x s old.0 old.1 in-s hs; high = λ s in-s hs. high_edge x s old.0 old.1 in-s hs })
      (λ same. subst (IsEdgedRun a.spans tags) same edged)
      (new_cases x h)

  pub in_old : (b : ℕ) (l : Holding) → get tags b ≡ Some l → get a.allocated b ≡ Some l
  in_old b l h =
      elim (cases_eq b base) [
        | inl e ↦ absurd (let some : get tags base ≡ Some l = ap (get tags) (sym e) ∙ h in let none = get_gone a.allocated base piece in cc)
        | inr ne ↦ sym (get_less a.allocated base piece b ne) ∙ h
      ]

  cases_of : (x : Holding) (b : Bool) → outside x ≡ b → (outside x ≡ true) ⊎ Holds merged x
  cases_of x true e = inl e
  cases_of x false e = inr (surrounds-true merged x (not-false (surrounds merged x) e))

  covered_here : (u : ℕ) → Covers merged.range u → Any (λ x. Covers x.range u) new_free ⊎ IsAllocated tags u
  covered_here u c = inl (member-Any (λ x. Covers x.range u) new_free merged (Contains-push (filter outside a.free) merged) c)

  covered_by : (x : Holding) (u : ℕ) → Contains a.free x → Covers x.range u → Any (λ x. Covers x.range u) new_free ⊎ IsAllocated tags u
  covered_by x u in-x c =
      ⊎_elim
      (λ out. inl (member-Any (λ x. Covers x.range u) new_free x (Contains-append_left (filter outside a.free) (merged ∷ []) x (Contains-filter outside a.free x in-x out)) c))
      (λ (h : Holds merged x). covered_here u (omega (arith, h.from, c), omega (arith, h.to, c)))
      (cases_of x (outside x) refl)

  new_covered : (s : Holding) (u : ℕ) → Contains a.spans s → Covers s.range u → Any (λ x. Covers x.range u) new_free ⊎ IsAllocated tags u
  new_covered s u in-s cs =
      ⊎_elim
      (λ (f : Any (λ r. Covers r.range u) a.free). covered_by f.1 u (Any-member a.free f) f.4)
      (λ al. ⊎_elim (λ c. covered_here u (omega (arith, held.from, c), omega (arith, held.to, c))) inr (freed_cases a.allocated base piece u at al))
      (whole.covered s u in-s cs)

  one_apart : AllPairs Apart (merged ∷ [])
  one_apart i j d lt below = absurd (omega (arith, below))

  merged_apart : (x y : Holding) → Contains (filter outside a.free) x → Contains (merged ∷ []) y → Apart x y
  merged_apart x y hx hy =
      let old = Contains-from_filter outside a.free x hx in
      let same : merged ≡ y = ⊎_elim (λ e. e) (λ later. absurd (Contains-nil y later)) (Contains-cases merged y [] hy) in
      subst (Apart x) same
      (⊎_elim (λ apart. apart) (λ shared. absurd (none_shared x old.0 old.1 shared.0 shared.2 shared.1))
      (apart_or_share x merged (whole.runs x old.0).run.some edged.run.some))

  pub whole_after_free : IsWhole (record a { free = new_free; allocated = tags })
  whole_after_free = record {
    spans_apart = whole.spans_apart;
    free_apart = AllPairs-append Apart (filter outside a.free) (merged ∷ []) (AllPairs-filter Apart outside a.free whole.free_apart) one_apart merged_apart;
    runs = new_run;
    tags_inside = λ b l h. whole.tags_inside b l (in_old b l h);
    tags_apart = λ b c t w hb hc lt. whole.tags_apart b c t w (in_old b t hb) (in_old c w hc) lt;
    covered = new_covered;
  }
