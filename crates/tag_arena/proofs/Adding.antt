-- A span that is added keeps a layout whole, and an empty layout is whole.
use Rattle.std.proofs.Common.{◌≡◌, ◌⊎◌, ℕ, ◌+◌, ◌<◌, sym, subst, ap, ◌∙◌, inl, inr, ⊎_elim, List, [], ◌∷◌, ◌++◌, get_or, Contains, AllPairs, Any, Some, None, arith}
use Rattle.std.proofs.lemmas.List.Elements.{Contains-get_or, Contains-append_left, Contains-push, Contains-push_cases}
use Rattle.std.proofs.lemmas.List.Quantifiers.{all_pairs_push}
use Rattle.std.specs.Ordering.{nat_cmp}
use Rattle.std.specs.FinMap as finmap
use Rattle.std.specs.FinMap.{get-empty}
use Rattle.deed_core.specs.Extent.{Extent, Covers}
use Rattle.deed_core.specs.Holding.{Holding, Apart}
use Rattle.tag_arena.specs.Layout.{Layout, Holds, IsPartOf, IsAllocated, IsEdgedRun, IsWhole}
use Rattle.tag_arena.proofs.Members.{Contains-nil}
use Rattle.tag_arena.proofs.Ranges.{apart_or_share, not_both, Any-member, member-Any}

-- a list that was given room, and then one item more
pub pushed : {X : Type 0} (old grown now : List X) (x y : X) → now ≡ grown ++ x ∷ [] → grown ≡ old → x ≡ y → now ≡ old ++ y ∷ []
pushed old grown now x y push grow same = push ∙ ap (λ z. grown ++ z ∷ []) same ∙ ap (λ xs. xs ++ y ∷ []) grow

-- the range of what is held, told of what was held before
pub same_range : (e : Extent) (h held : Holding) → e ≡ held.range → h ≡ held → e ≡ h.range
same_range e h held range same = range ∙ sym (ap (λ (x : Holding). x.range) same)

pub not_there : (b : ℕ) (t : Holding) → finmap.get (finmap.empty {X = Holding} {R = nat_cmp}) b ≡ Some t → ⊥
not_there b t at = let none : finmap.get (finmap.empty {X = Holding} {R = nat_cmp}) b ≡ None = get-empty nat_cmp b in let both : Some t ≡ None = sym at ∙ none in cc

no_pairs : AllPairs Apart []
no_pairs i j d lt below = absurd (omega (arith, below))

pub whole_empty : IsWhole (record { spans = []; free = []; allocated = finmap.empty })
whole_empty = record {
  spans_apart = no_pairs;
  free_apart = no_pairs;
  runs = λ r h. absurd (Contains-nil r h);
  tags_inside = λ b t h. absurd (not_there b t h);
  tags_apart = λ b c t w h k lt. absurd (not_there b t h);
  covered = λ s u h cs. absurd (Contains-nil s h);
}

module _ (a : Layout) (whole : IsWhole a) (r : Holding) (some : 0 < r.range.len) (apart : (s : Holding) → Contains a.spans s → Apart s r)
    (spans : List Holding) (old_span : (s : Holding) → Contains a.spans s → Contains spans s) (new_in : Contains spans r) (span_cases : (s : Holding) → Contains spans s → Contains a.spans s ⊎ (r ≡ s)) (spans_apart : AllPairs Apart spans) where
  abbrev new_free : List Holding
  new_free = a.free ++ r ∷ []

  in_more : (P : Holding → Type 0) → Any P a.spans → Any P spans
  in_more P h = member-Any P spans h.1 (old_span h.1 (Any-member a.spans h)) h.4

  -- no unit of the new span is allocated, nor in an old free range
  not_allocated : (u : ℕ) → Covers r.range u → IsAllocated a.allocated u → ⊥
  not_allocated u c al =
      let t = (whole.tags_inside al.0 al.1 al.2).2 in
      let h : IsPartOf t.1 al.1 = t.4 in
      let ca = al.3 in
      not_both t.1 r u (apart t.1 (Any-member a.spans t)) (omega (arith, h.from, ca), omega (arith, h.to, ca)) c

  pub free_apart_from : (x : Holding) → Contains a.free x → Apart x r
  free_apart_from x in-x =
      let run = (whole.runs x in-x).run in
      let h : IsPartOf run.inside.1 x = run.inside.4 in
      ⊎_elim (λ e. e)
      (λ shared. absurd (let c = shared.1 in not_both run.inside.1 r shared.0 (apart run.inside.1 (Any-member a.spans run.inside)) (omega (arith, h.from, c), omega (arith, h.to, c)) shared.2))
      (apart_or_share x r run.some some)

  -- an old range doesn't lie in the new span
  not_in_new : (x : Holding) → 0 < x.range.len → Apart x r → Holds r x → ⊥
  not_in_new x some' e h = not_both x r x.range.base e (omega arith, omega arith) (h.from, omega (arith, h.to))

  old_run : (x : Holding) → Contains a.free x → IsEdgedRun spans a.allocated x
  old_run x in-x =
      let old = whole.runs x in-x in
      record {
        run = record { some = old.run.some; inside = in_more (λ s. IsPartOf s x) old.run.inside; free = old.run.free };
        low = λ s in-s h. ⊎_elim (λ o. old.low s o h) (λ (e : r ≡ s). absurd (not_in_new x old.run.some (free_apart_from x in-x) (subst (λ (y : Holding). Holds y x) (sym e) h))) (span_cases s in-s);
        high = λ s in-s h. ⊎_elim (λ o. old.high s o h) (λ (e : r ≡ s). absurd (not_in_new x old.run.some (free_apart_from x in-x) (subst (λ (y : Holding). Holds y x) (sym e) h))) (span_cases s in-s);
      }

  whole_new : (s : Holding) → Contains spans s → Holds s r → r ≡ s
  whole_new s in-s h =
      ⊎_elim (λ o. absurd (not_both s r r.range.base (apart s o) (h.from, omega (arith, h.to, some)) (omega arith, omega (arith, some)))) (λ e. e) (span_cases s in-s)

  new_run : IsEdgedRun spans a.allocated r
  new_run = record {
    run = record { some = some; inside = member-Any (λ s. IsPartOf s r) spans r new_in (record { root = λ i. r.root; from = omega arith; to = omega arith }); free = not_allocated };
    low = λ s in-s h. inl (ap (λ (y : Holding). y.range.base) (whole_new s in-s h));
    high = λ s in-s h. inl (ap (λ (y : Holding). y.range.base + y.range.len) (whole_new s in-s h));
  }

  new_covered : (s : Holding) (u : ℕ) → Contains spans s → Covers s.range u → Any (λ x. Covers x.range u) new_free ⊎ IsAllocated a.allocated u
  new_covered s u in-s cs =
      ⊎_elim
      (λ o. ⊎_elim (λ (f : Any (λ x. Covers x.range u) a.free). inl (member-Any (λ x. Covers x.range u) new_free f.1 (Contains-append_left a.free (r ∷ []) f.1 (Any-member a.free f)) f.4)) inr (whole.covered s u o cs))
      (λ (e : r ≡ s). inl (member-Any (λ x. Covers x.range u) new_free r (Contains-push a.free r) (subst (λ (y : Holding). Covers y.range u) (sym e) cs)))
      (span_cases s in-s)

  pub whole_after_add : IsWhole (record { spans = spans; free = new_free; allocated = a.allocated })
  whole_after_add = record {
    spans_apart = spans_apart;
    free_apart = all_pairs_push Apart a.free r whole.free_apart (λ k d lt. free_apart_from (get_or a.free k d) (Contains-get_or a.free k d lt));
    runs = λ x h. ⊎_elim (old_run x) (λ (e : r ≡ x). subst (IsEdgedRun spans a.allocated) e new_run) (Contains-push_cases a.free r x h);
    tags_inside = λ b t h. let there = whole.tags_inside b t h in (there.0, there.1, in_more (λ s. IsPartOf s t) there.2);
    tags_apart = whole.tags_apart;
    covered = new_covered;
  }
