-- An arena that owns the whole of each of these roots and nothing else, all of which is free.
use Rattle.std.proofs.Common.{◌≡◌, ℕ, ◌<◌, refl, sym, subst, ap, ◌∙◌, List, [], ◌∷◌, ◌++◌, map, length, remove, HoldsAt, All, AllPairs, Contains, Some, None, arith}
use Rattle.std.proofs.lemmas.List.{append-nil}
use Rattle.std.proofs.lemmas.List.Elements.{All-contains}
use Rattle.deed_core.specs.Extent.{IsRange}
use Rattle.deed_core.specs.Holding.{Holding, Apart}
use Rattle.deed_core.proofs.LawProofs.{contains_at}
use Rattle.tag_arena.specs.ArenaState.{ArenaState, IsSoundArena, spans_of}
use Rattle.tag_arena.specs.Calls.{ranges_without}
use Rattle.tag_arena.specs.Outcomes.{RemoveOf}
use Rattle.tag_arena.proofs.SpanLists.{without-remove}
use Rattle.locked_parts.specs.News.{AreWhole}

module _ (a : ArenaState) (roots : List Holding) (whole : AreWhole a roots) (sound : IsSoundArena a) where
  spans_are : spans_of a ≡ roots
  spans_are = ap (λ ts. a.owned ++ map (λ t. t.holding) ts) whole.2 ∙ append-nil a.owned ∙ whole.0

  roots_apart : AllPairs Apart roots
  roots_apart = subst (AllPairs Apart) spans_are sound.divided.whole.spans_apart

  root_some : (x : Holding) → Contains roots x → 0 < x.range.len
  root_some x h = (All-contains (λ (s : Holding). IsRange s.range) roots x (subst (All (λ (s : Holding). IsRange s.range)) spans_are sound.divided.spans) h).some

  -- the deed that is taken out is of one of them
  pub taken : (h : Holding) (new : ArenaState) → RemoveOf a (Some h) new → Contains roots h
  taken h new of = subst (λ (xs : List Holding). Contains xs h) whole.0 of.0.owned

  -- and without it the others are whole
  pub left_whole : (h : Holding) (new : ArenaState) (at : ℕ) → RemoveOf a (Some h) new → at < length roots → HoldsAt (λ x. x ≡ h) roots at → AreWhole new (remove roots at)
  left_whole h new at of within here =
      let gone = without-remove roots root_some roots_apart h (taken h new of) at within here in
      subst (λ (b : ArenaState). AreWhole b (remove roots at)) (sym of.1) (
        ap (ranges_without h) whole.0 ∙ sym gone,
        ap (ranges_without h) whole.1 ∙ sym gone,
        whole.2,
      )

-- where none is taken out, there was none
pub none_left : (a new : ArenaState) (roots : List Holding) → AreWhole a roots → RemoveOf a None new → roots ≡ []
none_left a new [] whole of = refl
none_left a new (r ∷ roots) whole of =
    absurd (subst (λ (xs : List Holding). All (λ s. ¬ Contains a.free s) xs) whole.0 of.0 0 r (omega (arith)) (subst (λ (xs : List Holding). Contains xs r) (sym whole.1) (contains_at (r ∷ roots) 0 r refl)))

pub none_free : (a new : ArenaState) (roots : List Holding) → AreWhole a roots → RemoveOf a None new → new.free ≡ []
none_free a new roots whole of = ap (λ (b : ArenaState). b.free) of.1 ∙ whole.1 ∙ none_left a new roots whole of
