-- The roots of a stock over plain deeds are numbered by their places.
use Rattle.std.proofs.Common.{◌≡◌, ℕ, zero, suc, ◌+◌, ◌==◌, if◌then◌else◌, cond, refl, sym, subst, ap, ◌∙◌, inl, inr, List, [], ◌∷◌, ◌++◌, set, Some, None, Ok, Err, arith, eq-eqb}
use Rattle.std.specs.Prelude.{slice_get}
use Rattle.std.proofs.lemmas.Bool.{cases_eq, ne_eqb}
use Rattle.std.proofs.lemmas.List.Sums.{sum_by_push}
use Rattle.deed_core.specs.Holding.{Holding}
use Rattle.deed_core.proofs.LawProofs.{pushed, written}
use Rattle.tag_arena.specs.ArenaState.{ArenaState}
use Rattle.arena_tree.specs.declared.setups.OwnedSpan.{OwnedSpan}
use Rattle.arena_tree.specs.Settings.{span_count}
use Rattle.stock.specs.Spaces.{SpaceState, with_arena}
use Rattle.stock.specs.Setups.{deeds_after, deeds_owned, numbered_deeds, root_number}
use Rattle.stock.specs.Growing.{AreNumberedByPlace, PlainSetupNumbers, GrownNumbers, next_root}

plus_none : (n : ℕ) → n + 0 ≡ n
plus_none n = omega arith

-- of the spans after these the arena's own are numbered on from how many it has of these
owned_numbers : (id : ℕ) (before spans : List OwnedSpan) (place : ℕ) (h : Holding) → slice_get (deeds_owned id spans (deeds_after before spans)) place ≡ Some h → h.root ≡ root_number id (span_count id before + place)
owned_numbers id before [] place h at = absurd (let e : None ≡ Some h = at in cc)
owned_numbers id before (o ∷ spans) place h at =
    let count : span_count id (before ++ o ∷ []) ≡ span_count id before + cond (o.arena == id) 1 0 = sum_by_push (λ (x : OwnedSpan). cond (x.arena == id) 1 0) before o in
    let first : Holding = record { root = root_number o.arena (span_count o.arena before); range = o.range } in
    let rest : List Holding = deeds_owned id spans (deeds_after (before ++ o ∷ []) spans) in
    elim (cases_eq o.arena id) [
      | inl same ↦
          let own = eq-eqb o.arena id same in
          let more : span_count id (before ++ o ∷ []) ≡ span_count id before + 1 = count ∙ ap {B = ℕ} (λ b. span_count id before + cond b 1 0) own in
          one id before o same first refl rest place h (subst (λ b. slice_get (if b then first ∷ rest else rest) place ≡ Some h) own at) (λ n there. owned_numbers id (before ++ o ∷ []) spans n h there ∙ ap (λ c. root_number id (c + n)) more)
      | inr other ↦
          let not = ne_eqb o.arena id other in
          let same : span_count id (before ++ o ∷ []) ≡ span_count id before = count ∙ ap {B = ℕ} (λ b. span_count id before + cond b 1 0) not ∙ plus_none (span_count id before) in
          owned_numbers id (before ++ o ∷ []) spans place h (subst (λ b. slice_get (if b then first ∷ rest else rest) place ≡ Some h) not at) ∙ ap (λ c. root_number id (c + place)) same
    ]
  where
    one : (id : ℕ) (before : List OwnedSpan) (o : OwnedSpan) → o.arena ≡ id → (first : Holding) → first ≡ record { root = root_number o.arena (span_count o.arena before); range = o.range } → (rest : List Holding) (place : ℕ) (h : Holding)
        → slice_get (first ∷ rest) place ≡ Some h → ((n : ℕ) → slice_get rest n ≡ Some h → h.root ≡ root_number id (span_count id before + 1 + n)) → h.root ≡ root_number id (span_count id before + place)
    one id before o same first is rest zero h at on =
        let here : h ≡ first = (let e : Some first ≡ Some h = at in cc) in
        let count : span_count id before ≡ span_count id before + 0 = omega arith in
        ap (λ (x : Holding). x.root) (here ∙ is) ∙ ap (λ k. root_number k (span_count k before)) same ∙ ap (root_number id) count
    one id before o same first is rest (suc n) h at on = on n at ∙ ap (root_number id) {x = span_count id before + 1 + n} {y = span_count id before + suc n} (omega arith)

pub plain_setup_numbers : PlainSetupNumbers
plain_setup_numbers setup rounds spaces up id place s h at among =
    let owns : s.arena.owned ≡ deeds_owned id setup.spans (numbered_deeds setup.spans) = ap (λ (a : ArenaState). a.owned) (up.unused id s at).arena in
    owned_numbers id [] setup.spans place h (subst (λ (hs : List Holding). slice_get hs place ≡ Some h) owns among) ∙ ap (root_number id) {x = 0 + place} {y = place} (omega arith)

pub grown_numbers : GrownNumbers
grown_numbers arena range (Err why) old new does numbered = subst AreNumberedByPlace (sym does.1) numbered
grown_numbers arena range (Ok u) old new does numbered = λ id place s h at among.
    let on = does.1 in
    let now : SpaceState = with_arena on.arena on.space in
    let there : slice_get (set old arena now) id ≡ Some s = ap (λ (xs : List SpaceState). slice_get xs id) (sym on.after) ∙ at in
    elim (written old arena id now s there) [
      | inl here ↦
          let owned : s.arena.owned ≡ on.space.arena.owned ++ next_root arena on.space.arena range ∷ [] = ap (λ (x : SpaceState). x.arena.owned) here.1 ∙ ap (λ (a : ArenaState). a.owned) on.does in
          let root : h.root ≡ root_number arena place = elim (pushed on.space.arena.owned place (next_root arena on.space.arena range) h (subst (λ (hs : List Holding). slice_get hs place ≡ Some h) owned among)) [
            | inl last ↦ ap (λ (x : Holding). x.root) last.1 ∙ ap (root_number arena) (sym last.0)
            | inr older ↦ numbered arena place on.space h on.at older
          ] in
          root ∙ ap (λ k. root_number k place) (sym here.0)
      | inr other ↦ numbered id place s h other.1 among
    ]
