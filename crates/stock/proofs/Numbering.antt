-- The roots of the spans of a setup, by number.
use Rattle.std.proofs.Common.{◌≡◌, ◌≢◌, ℕ, ◌+◌, ◌<◌, ◌≤◌, ◌==◌, cond, refl, sym, subst, ap, ◌∙◌, inl, inr, List, [], ◌∷◌, ◌++◌, map, length, set, take, drop, get_or, Some, arith, eq-eqb}
use Rattle.std.specs.Prelude.{slice_get}
use Rattle.std.proofs.lemmas.Bool.{cases_eq, ne_eqb}
use Rattle.std.proofs.lemmas.List.{append_assoc, take_more, get_or-set_same, get_or-set_other}
use Rattle.std.proofs.lemmas.List.Sums.{sum_by_push, sum_by-take-drop}
use Rattle.std.proofs.lemmas.Option.{slice_get_within, get_or_from_slice_get}
use Rattle.deed_core.specs.Holding.{Holding}
use Rattle.deed_core.proofs.LawProofs.{all_at}
use Rattle.arena_tree.specs.declared.limits.TheConstants.{MOST_ARENAS, MOST_SPANS}
use Rattle.arena_tree.specs.declared.setups.OwnedSpan.{OwnedSpan}
use Rattle.arena_tree.specs.Trees.{IsTree}
use Rattle.arena_tree.specs.Settings.{SetupState, IsSetup, IsOwned, span_count}
use Rattle.stock.specs.Setups.{AreDeedsOf, deeds_after, numbered_deeds, root_number}
use Rattle.stock.proofs.Owning.{drop_here}

are_deeds_after : (before spans : List OwnedSpan) → AreDeedsOf spans (deeds_after before spans)
are_deeds_after before [] = refl
are_deeds_after before (o ∷ spans) = ap (λ es. o.range ∷ es) (are_deeds_after (before ++ o ∷ []) spans)

pub are_deeds : (spans : List OwnedSpan) → AreDeedsOf spans (numbered_deeds spans)
are_deeds spans = are_deeds_after [] spans

pub map_same : (hs : List Holding) → map (λ (h : Holding). h) hs ≡ hs
map_same [] = refl
map_same (h ∷ hs) = ap (λ xs. h ∷ xs) (map_same hs)

-- the number of a span's arena is one of a tree's
pub arena_few : (s : SetupState) → IsTree s.arenas → IsSetup s → (i : ℕ) (o : OwnedSpan) → slice_get s.spans i ≡ Some o → o.arena < MOST_ARENAS
arena_few s tree setup i o at =
    let owner = all_at (IsOwned s.arenas) s.spans i o setup.owned at in
    omega (arith, slice_get_within s.arenas o.arena owner.0 owner.1.here, tree.few)

take_here : (xs : List OwnedSpan) (i : ℕ) (x : OwnedSpan) → slice_get xs i ≡ Some x → take (i + 1) xs ≡ take i xs ++ x ∷ []
take_here xs i x at =
    let more : take (i + 1) xs ≡ take i xs ++ get_or xs i x ∷ [] = take_more xs i x (slice_get_within xs i x at) in
    more ∙ ap (λ (y : OwnedSpan). take i xs ++ y ∷ []) (get_or_from_slice_get xs i x x at)

plus_none : (n : ℕ) → n + 0 ≡ n
plus_none n = omega arith

module _ (spans : List OwnedSpan) (i : ℕ) (o : OwnedSpan) (at : slice_get spans i ≡ Some o) where
  -- the spans up to this one have one more of its arena
  count_more : (id : ℕ) → span_count id (take (i + 1) spans) ≡ span_count id (take i spans) + cond (o.arena == id) 1 0
  count_more id = ap (span_count id) (take_here spans i o at) ∙ sum_by_push (λ (x : OwnedSpan). cond (x.arena == id) 1 0) (take i spans) o

  pub count_here : span_count o.arena (take (i + 1) spans) ≡ span_count o.arena (take i spans) + 1
  count_here = count_more o.arena ∙ ap {B = ℕ} (λ b. span_count o.arena (take i spans) + cond b 1 0) (eq-eqb o.arena o.arena refl)

  pub count_other : (id : ℕ) → o.arena ≢ id → span_count id (take (i + 1) spans) ≡ span_count id (take i spans)
  count_other id other = count_more id ∙ ap {B = ℕ} (λ b. span_count id (take i spans) + cond b 1 0) (ne_eqb o.arena id other) ∙ plus_none (span_count id (take i spans))

  -- it has a place below those that its arena may have
  pub place_few : ((id : ℕ) → span_count id spans ≤ MOST_SPANS) → span_count o.arena (take i spans) < MOST_SPANS
  place_few few =
      let parts = sum_by-take-drop (λ (x : OwnedSpan). cond (x.arena == o.arena) 1 0) spans (i + 1) in
      omega (arith, count_here, parts, few o.arena)

  -- one more
  pub numbered_more : (hs : List Holding) → hs ++ deeds_after (take i spans) (drop i spans) ≡ numbered_deeds spans
      → (hs ++ record { root = root_number o.arena (span_count o.arena (take i spans)); range = o.range } ∷ []) ++ deeds_after (take (i + 1) spans) (drop (i + 1) spans) ≡ numbered_deeds spans
  numbered_more hs is =
      let here : Holding = record { root = root_number o.arena (span_count o.arena (take i spans)); range = o.range } in
      append_assoc hs (here ∷ []) (deeds_after (take (i + 1) spans) (drop (i + 1) spans)) ∙ ap (λ (before : List OwnedSpan). hs ++ here ∷ deeds_after before (drop (i + 1) spans)) (take_here spans i o at)
      ∙ ap (λ (os : List OwnedSpan). hs ++ deeds_after (take i spans) os) (sym (drop_here spans i o at)) ∙ is

  -- each arena's number of spans so far is kept
  pub owned_more : (owned : List ℕ) → o.arena < length owned → ((k : ℕ) → k < MOST_ARENAS → get_or owned k 0 ≡ span_count k (take i spans))
      → (k : ℕ) → k < MOST_ARENAS → get_or (set owned o.arena (span_count o.arena (take i spans) + 1)) k 0 ≡ span_count k (take (i + 1) spans)
  owned_more owned within so_far k lt = elim (cases_eq o.arena k) [
    | inl same ↦ subst (λ n. get_or (set owned o.arena (span_count o.arena (take i spans) + 1)) n 0 ≡ span_count n (take (i + 1) spans)) same (get_or-set_same owned o.arena (span_count o.arena (take i spans) + 1) 0 within ∙ sym count_here)
    | inr other ↦ get_or-set_other owned o.arena k (span_count o.arena (take i spans) + 1) 0 (λ e. other (sym e)) ∙ so_far k lt ∙ sym (count_other k other)
  ]
