-- Spans that lie apart make a sound arena.
use Rattle.std.proofs.Common.{◌≡◌, ◌⊎◌, ℕ, ◌+◌, ◌<◌, refl, sym, subst, ap, ◌∙◌, inl, inr, List, [], ◌∷◌, ◌++◌, map, length, get_or, All, AllPairs, Contains, Some, None, arith}
use Rattle.std.specs.Prelude.{slice_get}
use Rattle.std.specs.Int.{IsPowerOfTwo}
use Rattle.std.specs.Ordering.{nat_cmp}
use Rattle.std.specs.FinMap as finmap
use Rattle.std.specs.FinMap.{entries, get-empty, len-empty, len-entries}
use Rattle.std.proofs.lemmas.Bool.{cases_lt}
use Rattle.std.proofs.lemmas.List.{append-nil}
use Rattle.std.proofs.lemmas.List.Elements.{All-nil}
use Rattle.std.proofs.lemmas.Option.{slice_get-get_or}
use Rattle.deed_core.specs.Covering.{covering_held}
use Rattle.deed_core.specs.Extent.{Covers, IsRange}
use Rattle.deed_core.specs.Holding.{Holding, Apart}
use Rattle.deed_core.specs.Tag.{Tag}
use Rattle.deed_core.specs.declared.segments.Route.TheVariants.{Direct}
use Rattle.deed_core.proofs.LawProofs.{all_from, slice_get_one}
use Rattle.tag_arena.specs.declared.policies.Policy.{Policy}
use Rattle.tag_arena.specs.ArenaState.{ArenaState, IsSoundArena, ranges_of, spans_of}
use Rattle.tag_arena.specs.Layout.{Holds, IsEdgedRun, IsWhole}
use Rattle.arena_tree.specs.Trees.{IsWholeRange}
use Rattle.stock.specs.Setups.{unused_arena}

nil_of : {X : Type 0} (xs : List X) → length xs ≡ 0 → xs ≡ []
nil_of [] none = refl
nil_of (x ∷ xs) none = absurd (omega (arith, none))

-- nothing is allocated at first
pub no_ranges : ranges_of finmap.empty ≡ []
no_ranges = ap (map (λ (e : ℕ × Holding). e.1)) (nil_of (entries {R = nat_cmp} finmap.empty) (sym (len-entries {R = nat_cmp} finmap.empty) ∙ len-empty nat_cmp Holding))

not_there : (b : ℕ) (t : Holding) → finmap.get (finmap.empty {X = Holding} {R = nat_cmp}) b ≡ Some t → ⊥
not_there b t at = (let none : finmap.get (finmap.empty {X = Holding} {R = nat_cmp}) b ≡ None = get-empty nat_cmp b in let both : Some t ≡ None = sym at ∙ none in cc)

-- each of the spans is in whole quanta, and no two have a unit in common
module _ (quantum : ℕ) (hs : List Holding) (each : (i : ℕ) (h : Holding) → slice_get hs i ≡ Some h → IsWholeRange quantum h.range)
    (far : (i j : ℕ) (a b : Holding) → i < j → slice_get hs i ≡ Some a → slice_get hs j ≡ Some b → Apart a b) where
  place : (h : Holding) (has : Contains hs h) → slice_get hs has.0 ≡ Some h
  place h has = slice_get-get_or hs has.0 h has.1 ∙ ap Some has.2

  is_whole : (h : Holding) → Contains hs h → IsWholeRange quantum h.range
  is_whole h has = each has.0 h (place h has)

  -- two that share a unit are one
  one_span : (a b : Holding) (u : ℕ) → Contains hs a → Contains hs b → Covers a.range u → Covers b.range u → a ≡ b
  one_span a b u has_a has_b over_a over_b = elim (cases_lt has_a.0 has_b.0) [
    | inl before ↦ absurd (elim (far has_a.0 has_b.0 a b before (place a has_a) (place b has_b)) [
      | inl low ↦ omega (arith, low, over_a.1, over_b.0)
      | inr high ↦ omega (arith, high, over_a.0, over_b.1)
    ])
    | inr not_before ↦ elim (cases_lt has_b.0 has_a.0) [
      | inl before ↦ absurd (elim (far has_b.0 has_a.0 b a before (place b has_b) (place a has_a)) [
        | inl low ↦ omega (arith, low, over_b.1, over_a.0)
        | inr high ↦ omega (arith, high, over_b.0, over_a.1)
      ])
      | inr not_after ↦
          let same : has_a.0 ≡ has_b.0 = omega (arith, not_before, not_after) in
          slice_get_one hs has_b.0 a b (subst (λ (k : ℕ). slice_get hs k ≡ Some a) same (place a has_a)) (place b has_b)
    ]
  ]

  apart : AllPairs Apart hs
  apart i j d before within = far i j (get_or hs i d) (get_or hs j d) before (slice_get-get_or hs i d (omega (arith, before, within))) (slice_get-get_or hs j d within)

  holds_is : (s r : Holding) → Contains hs s → Contains hs r → Holds s r → s ≡ r
  holds_is s r has_s has_r h =
      let some = (is_whole r has_r).0.some in
      one_span s r r.range.base has_s has_r (h.from, omega (arith, h.to, some)) (omega arith, omega (arith, some))

  edged : (r : Holding) → Contains hs r → IsEdgedRun hs finmap.empty r
  edged r has = record {
    run = record {
      some = (is_whole r has).0.some;
      inside = (has.0, r, has.1, has.2, record { root = refl; from = omega arith; to = omega arith });
      free = λ u over taken. not_there taken.0 taken.1 taken.2;
    };
    low = λ s has_s h. inl (ap (λ (x : Holding). x.range.base) (sym (holds_is s r has_s has h)));
    high = λ s has_s h. inl (ap (λ (x : Holding). x.range.base + x.range.len) (sym (holds_is s r has_s has h)));
  }

  whole : IsWhole (record { spans = hs; free = hs; allocated = finmap.empty })
  whole = record {
    spans_apart = apart;
    free_apart = apart;
    runs = edged;
    tags_inside = λ b t h. absurd (not_there b t h);
    tags_apart = λ b c t w h k lt. absurd (not_there b t h);
    covered = λ s u has over. inl (has.0, s, has.1, has.2, over);
  }

  module _ (id : ℕ) (policy : Policy) (power : IsPowerOfTwo quantum) where
    abbrev a : ArenaState
    a = unused_arena id quantum policy hs

    spans_are : spans_of a ≡ hs
    spans_are = append-nil hs

    -- an arena that owns them, all of them free, is sound
    pub unused_sound : IsSoundArena a
    unused_sound = record {
      divided = record {
        whole = subst (λ (ss : List Holding). IsWhole (record { spans = ss; free = hs; allocated = finmap.empty })) (sym spans_are) whole;
        covers = λ u. (
            let none : covering_held u (ranges_of finmap.empty) ≡ 0 = ap (covering_held u) no_ranges in
            omega (arith, none, ap (covering_held u) spans_are)
            );
        power = power;
        spans = subst (λ (ss : List Holding). All (λ s. IsRange s.range) ss) (sym spans_are) (all_from (λ (s : Holding). IsRange s.range) hs (λ i h at. (each i h at).0));
        span_grid = λ s has. (is_whole s (subst (λ (ss : List Holding). Contains ss s) spans_are has)).1;
        free_grid = λ r has. (is_whole r has).1;
        tag_grid = λ b t at. absurd (not_there b t at);
        routes = All-nil (λ (t : Tag). t.route ≡ Direct);
        rover = omega arith;
      };
      used = All-nil (λ (t : Tag). ¬ Contains hs t.holding);
    }
