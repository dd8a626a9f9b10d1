-- A wholly free span that is taken out leaves a layout whole.
use Rattle.std.proofs.Common.{◌≡◌, ◌⊎◌, ℕ, ◌<◌, subst, inl, inr, ⊎_elim, List, Contains, AllPairs, Any, Some, arith}
use Rattle.std.specs.FinMap.{get}
use Rattle.deed_core.specs.Extent.{Covers}
use Rattle.deed_core.specs.Holding.{Holding, Apart}
use Rattle.tag_arena.specs.Layout.{Layout, IsPartOf, IsAllocated, IsEdgedRun, IsWhole}
use Rattle.tag_arena.proofs.Ranges.{same_where_shared, Any-member, member-Any}

-- the members of a list but one
pub record IsWithout (r : Holding) (old new : List Holding) : Type 0 where
  pub kept : (x : Holding) → Contains new x → Contains old x
  pub others : (x : Holding) → Contains old x → (x ≡ r) ⊎ Contains new x
  pub gone : (x : Holding) → Contains new x → x ≡ r → ⊥
  pub apart : AllPairs Apart new

module _ (a : Layout) (whole : IsWhole a) (r : Holding) (in-r : Contains a.spans r) (free-r : Contains a.free r) (spans free : List Holding) (of_spans : IsWithout r a.spans spans) (of_free : IsWithout r a.free free) where
  -- a part of r that is another's doesn't lie in r
  still_inside : (x : Holding) → ((s : Holding) → Contains a.spans s → IsPartOf s x → s ≡ r → ⊥) → Any (λ s. IsPartOf s x) a.spans → Any (λ s. IsPartOf s x) spans
  still_inside x other h =
      ⊎_elim (λ e. absurd (other h.1 (Any-member a.spans h) h.4 e)) (λ kept. member-Any (λ s. IsPartOf s x) spans h.1 kept h.4) (of_spans.others h.1 (Any-member a.spans h))

  not_in_r : (x : Holding) → Contains free x → (s : Holding) → Contains a.spans s → IsPartOf s x → s ≡ r → ⊥
  not_in_r x in-x s in-s h e =
      let some : 0 < x.range.len = (whole.runs x (of_free.kept x in-x)).run.some in
      let hr : IsPartOf r x = subst (λ (y : Holding). IsPartOf y x) e h in
      of_free.gone x in-x (same_where_shared a.free x r x.range.base whole.free_apart (of_free.kept x in-x) free-r (omega arith, omega arith) (hr.from, omega (arith, hr.to)))

  tag_not_in_r : (b : ℕ) (t : Holding) → get a.allocated b ≡ Some t → (s : Holding) → Contains a.spans s → IsPartOf s t → s ≡ r → ⊥
  tag_not_in_r b t at s in-s h e =
      let some : 0 < t.range.len = (whole.tags_inside b t at).1 in
      let hr : IsPartOf r t = subst (λ (y : Holding). IsPartOf y t) e h in
      (whole.runs r free-r).run.free t.range.base (hr.from, omega (arith, hr.to)) (b, t, at, (omega arith, omega arith))

  new_run : (x : Holding) → Contains free x → IsEdgedRun spans a.allocated x
  new_run x in-x =
      let old = whole.runs x (of_free.kept x in-x) in
      record {
        run = record { some = old.run.some; inside = still_inside x (not_in_r x in-x) old.run.inside; free = old.run.free };
        low = λ s in-s h. old.low s (of_spans.kept s in-s) h;
        high = λ s in-s h. old.high s (of_spans.kept s in-s) h;
      }

  new_covered : (s : Holding) (u : ℕ) → Contains spans s → Covers s.range u → Any (λ x. Covers x.range u) free ⊎ IsAllocated a.allocated u
  new_covered s u in-s cs =
      ⊎_elim
      (λ (f : Any (λ x. Covers x.range u) a.free). ⊎_elim
      (λ (e : f.1 ≡ r). absurd (of_spans.gone s in-s (same_where_shared a.spans s r u whole.spans_apart (of_spans.kept s in-s) in-r cs (subst (λ (y : Holding). Covers y.range u) e f.4))))
      (λ kept. inl (member-Any (λ x. Covers x.range u) free f.1 kept f.4))
      (of_free.others f.1 (Any-member a.free f)))
      inr
      (whole.covered s u (of_spans.kept s in-s) cs)

  pub whole_after_remove : IsWhole (record { spans = spans; free = free; allocated = a.allocated })
  whole_after_remove = record {
    spans_apart = of_spans.apart;
    free_apart = of_free.apart;
    runs = new_run;
    tags_inside = λ b t h. let there = whole.tags_inside b t h in (there.0, there.1, still_inside t (tag_not_in_r b t h) there.2);
    tags_apart = whole.tags_apart;
    covered = new_covered;
  }
