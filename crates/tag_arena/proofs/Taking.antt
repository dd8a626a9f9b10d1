-- The lowest wholly free owned span, taken out.
use Rattle.std.proofs.Common.{◌≡◌, ℕ, ◌+◌, ◌<◌, ◌≤◌, sym, subst, ap, ◌∙◌, List, map, length, get_or, remove, HoldsAt, Contains, sum_by, arith}
use Rattle.std.proofs.lemmas.List.Elements.{Contains-append_left}
use Rattle.std.proofs.lemmas.List.Sums.{sum_by-remove}
use Rattle.std.specs.List.{AllWithin}
use Rattle.deed_core.specs.Holding.{Holding, Apart}
use Rattle.deed_core.specs.Weights.{Loses}
use Rattle.tag_arena.specs.ArenaState.{ArenaState, IsDivided, IsSoundArena}
use Rattle.tag_arena.specs.Calls.{ranges_without, after_remove, IsLowestWhole}
use Rattle.tag_arena.proofs.SpanLists.{without-remove, AllPairs-first}
use Rattle.tag_arena.proofs.Using.{removed_used}
use Rattle.tag_arena.proofs.Sounding.{span_some, sound_remove}

-- a span, with its index among the owned ones and among the free ranges
pub record WholeAt : Type 0 where
  pub at : ℕ
  pub free_at : ℕ
  pub span : Holding

-- it has these indexes, and no owned span that is a free range is below it
abbrev pub IsLowestAt : List Holding → List Holding → WholeAt → Type 0
IsLowestAt owned free w =
    (w.at < length owned) × HoldsAt (λ s. s ≡ w.span) owned w.at × (w.free_at < length free)
    × HoldsAt (λ r. r ≡ w.span) free w.free_at
    × AllWithin (λ s. Contains free s → w.span.range.base ≤ s.range.base) owned 0 (length owned)

-- one member less, however the list is weighed
pub loses_at : (xs : List Holding) (k : ℕ) (r : Holding) → k < length xs → HoldsAt (λ x. x ≡ r) xs k → Loses xs (remove xs k) r
loses_at xs k r within here f =
    let out : sum_by f (remove xs k) + f (get_or xs k r) ≡ sum_by f xs = sum_by-remove f xs k r within in
    let at : f (get_or xs k r) ≡ f r = ap f (here r) in
    omega (arith, out, at)

module _ (a : ArenaState) (sound : IsDivided a) (w : WholeAt) (so : IsLowestAt a.owned a.free w) where
  in_owned : Contains a.owned w.span
  in_owned = (w.at, so.0, so.1 w.span)

  in_free : Contains a.free w.span
  in_free = (w.free_at, so.2, so.3 w.span)

  pub lowest : IsLowestWhole a w.span
  lowest = record {
    owned = in_owned;
    free = in_free;
    lowest = λ s in-s in-free. subst (λ (x : Holding). w.span.range.base ≤ x.range.base) in-s.2 (so.4 in-s.0 s (omega arith) in-s.1 (subst (Contains a.free) (sym in-s.2) in-free));
  }

  owned_is : remove a.owned w.at ≡ ranges_without w.span a.owned
  owned_is = without-remove a.owned (λ x in-x. span_some a sound x (Contains-append_left a.owned (map (λ t. t.holding) a.imported) x in-x)) (AllPairs-first Apart a.owned (map (λ t. t.holding) a.imported) sound.whole.spans_apart) w.span in_owned w.at so.0 so.1

  free_is : remove a.free w.free_at ≡ ranges_without w.span a.free
  free_is = without-remove a.free (λ x in-x. (sound.whole.runs x in-x).run.some) sound.whole.free_apart w.span in_free w.free_at so.2 so.3

  pub removed_is : (owned free : List Holding) → owned ≡ remove a.owned w.at → free ≡ remove a.free w.free_at → record a { owned = owned; free = free } ≡ after_remove a w.span
  removed_is owned free o_is f_is =
      ap (λ (xs : List Holding). record a { owned = xs; free = free }) (o_is ∙ owned_is) ∙ ap (λ (xs : List Holding). record a { owned = ranges_without w.span a.owned; free = xs }) (f_is ∙ free_is)

  pub removed_sound : IsDivided (after_remove a w.span)
  removed_sound = sound_remove a sound w.span (Contains-append_left a.owned (map (λ t. t.holding) a.imported) w.span in_owned) in_free in_owned

  pub removed_is_sound : IsSoundArena a → (now : ArenaState) → now ≡ after_remove a w.span → IsSoundArena now
  removed_is_sound all now is = subst IsSoundArena (sym is) (record { divided = removed_sound; used = removed_used a all.used w.span })

  pub owned_loses : Loses a.owned (remove a.owned w.at) w.span
  owned_loses = loses_at a.owned w.at w.span so.0 so.1

  pub free_loses : Loses a.free (remove a.free w.free_at) w.span
  free_loses = loses_at a.free w.free_at w.span so.2 so.3
