-- What is given was reachable.
use Rattle.std.proofs.Common.{◌≡◌, ◌≢◌, ℕ, ◌+◌, ◌-◌, ◌<◌, ◌≤◌, Bool, true, false, cond, nat_eq, Some, None, inl, inr, refl, sym, subst, ap, ◌∙◌, List, map, All, arith}
use Rattle.std.specs.Prelude.{slice_get, sum_by, flat_map}
use Rattle.std.proofs.lemmas.Bool.{cases_eq}
use Rattle.std.proofs.lemmas.Bool.Decides.{nat_tests}
use Rattle.std.proofs.lemmas.Option.{slice_get_within}
use Rattle.std.proofs.lemmas.List.Sums.{sum_by-append}
use Rattle.deed_core.specs.Extent.{Covers}
use Rattle.deed_core.specs.Holding.{Holding}
use Rattle.deed_core.specs.Tag.{Tag}
use Rattle.deed_core.specs.Covering.{covers_held, covers_tag, covering_held}
use Rattle.deed_core.specs.Weights.{weight_where, of_arena}
use Rattle.deed_core.proofs.LawProofs.{counts_the_unit, all_at, slice_get_one, slice_get_some, sum_some, sum_none, sum_by-map}
use Rattle.tag_arena.specs.ArenaState.{ArenaState, spans_of}
use Rattle.slab_layer.specs.Cache.{deeds_of}
use Rattle.magazine_layer.specs.Depots.{depot_rounds}
use Rattle.stock.specs.Spaces.{SpaceState, QuantumCacheState, plans_of}
use Rattle.stock.specs.Stocks.{IsFrom}
use Rattle.stock.specs.Sums.{Sums, held_of}
use Rattle.tag_arena.specs.Spanned.{holdings_of}
use Rattle.stock.specs.Laws.{HasTop, root, child}
use Rattle.stock.proofs.LawProofs.{plans_stay}
use Rattle.stock_audit.specs.Outside.{Outside}
use Rattle.stock.specs.OwnCaches.{all_own_rounds}
use Rattle.stock_audit.specs.Accounted.{IsAccountedFor}
use Rattle.stock_audit.specs.Keeping.{IsGiven}
use Rattle.stock_audit.specs.Chains.{IsUpFrom, here, above, free, free_above, IsReachable, is_under, sum_but_exported, unit_of_arena}
use Rattle.stock_audit.specs.Laws.{FreeAboveIsFree, GivenWasReachable, GivenFittedIn}
use Rattle.stock_audit.proofs.Placing.{unit_adds_up, held_weigh}
use Rattle.stock_audit.proofs.Exporting.{weighs_here, weighs_there}
use Rattle.stock_audit.proofs.Climbing.{part_of_exported, exported_in_spans, source_stands, spans_are_of_source}
use Rattle.stock_audit.proofs.Tops.{top_is_root, tops_stand}
use Rattle.stock_audit.proofs.ChainSums.{chain_unit_adds_up}
use Rattle.stock_audit.proofs.Reaching.{never_both}

module _ (spaces : List SpaceState) (out : Outside) (a : IsAccountedFor spaces out) (u : ℕ) where
  -- a unit that is free above isn't exported below
  nothing_exported : (p b : ℕ) → IsUpFrom spaces p b → (x s : SpaceState) → slice_get spaces p ≡ Some x → slice_get spaces b ≡ Some s → 0 < covering_held u s.arena.free → (unit_of_arena u spaces out x).exported ≡ 0
  nothing_exported _ _ (here k) x s at there some =
      let all = unit_adds_up spaces out a k x at u in
      let same = ap (λ (y : SpaceState). covering_held u y.arena.free) (slice_get_one spaces k x s at there) in
      omega (arith, all.0, all.1, same, some)
  nothing_exported _ _ (above k p b y found source chain) x s at there some =
      let next = source_stands spaces out a u k p y found source in
      let none = nothing_exported p b chain next.0 s next.1 there some in
      omega (
        arith,
        ap (λ (z : SpaceState). (unit_of_arena u spaces out z).exported) (slice_get_one spaces k x y at found),
        exported_in_spans spaces out a u k y found,
        part_of_exported spaces out a u k p y next.0 found source next.1,
        none,
      )

pub free_above_is_free : FreeAboveIsFree
free_above_is_free spaces out a _ _ u s (here k) at some = free k s at some
free_above_is_free spaces out a _ _ u s (above k p b x found source chain) at some =
    let next = source_stands spaces out a u k p x found source in
    let none = nothing_exported spaces out a u p b chain next.0 s next.1 at some in
    free_above k p x found source (omega (arith, part_of_exported spaces out a u k p x next.0 found source next.1, none)) (free_above_is_free spaces out a p b u s chain at some)

-- the top of a chain is up from each of its arenas
up_to_top : (spaces : List SpaceState) (k r : ℕ) → HasTop spaces k r → IsUpFrom spaces k r
up_to_top spaces _ _ (root k s at none) = here k
up_to_top spaces _ _ (child k p r s at source up) = above k p r s at source (up_to_top spaces p r up)

-- what a root has are its owned spans
root_spans : (spaces : List SpaceState) (out : Outside) → IsAccountedFor spaces out → (u r : ℕ) (s : SpaceState) → slice_get spaces r ≡ Some s → s.source ≡ None → covering_held u (spans_of s.arena) ≡ covering_held u s.arena.owned
root_spans spaces out a u r s at none =
    let foreign : All (IsFrom None) s.arena.imported = subst (λ o. All (IsFrom o) s.arena.imported) none (a.parts r s at).imported in
    let nothing : sum_by (λ (t : Tag). covers_held u t.holding) s.arena.imported ≡ 0 = sum_none (λ (t : Tag). covers_held u t.holding) s.arena.imported (λ i t there. absurd (all_at (IsFrom None) s.arena.imported i t foreign there)) in
    omega (
      arith,
      sum_by-append (covers_held u) s.arena.owned (map (λ (t : Tag). t.holding) s.arena.imported),
      sum_by-map (covers_held u) (λ (t : Tag). t.holding) s.arena.imported,
      nothing,
    )

-- the same arenas stand in chains as before
module _ (old new : List SpaceState) (fixed : plans_of new ≡ plans_of old) where
  now : (k : ℕ) (s : SpaceState) → slice_get old k ≡ Some s → (x : SpaceState) × (slice_get new k ≡ Some x) × (x.source ≡ s.source)
  now k s at =
      let within = slice_get_within old k s at in
      let same = (plans_stay old new fixed).0 in
      let x = slice_get_some new k (omega (arith, within, same)) in
      (x.0, x.1, ((plans_stay old new fixed).1 k s x.0 at x.1).source)

  top_stays : (k r : ℕ) → HasTop old k r → HasTop new k r
  top_stays _ _ (root k s at none) = (let x = now k s at in root k x.0 x.1 (x.2 ∙ none))
  top_stays _ _ (child k p r s at source up) = (let x = now k s at in child k p r x.0 x.1 (x.2 ∙ source) (top_stays p r up))

either_some : (b : Bool) (m : ℕ) → 0 < cond b m 0 → (b ≡ true) × (0 < m)
either_some true m some = (refl, some)
either_some false m some = absurd (omega (arith, some))

module _ (old new : List SpaceState) (before after : Outside) (o : IsAccountedFor old before) (n : IsAccountedFor new after) (k : ℕ) (t : Tag) (g : IsGiven k t old new before after) (s : SpaceState) (at : slice_get old k ≡ Some s) (u : ℕ) (has : Covers t.holding.range u) where
  abbrev Old : SpaceState → Sums
  Old x = unit_of_arena u old before x

  abbrev New : SpaceState → Sums
  New x = unit_of_arena u new after x

  -- the unit, as the segment has it
  abbrev mine : SpaceState → ℕ
  mine x = of_arena x.arena.id (covers_tag u) t

  abbrev r : ℕ
  r = (tops_stand old before o).0 k

  up : HasTop old k r
  up = (tops_stand old before o).1 k s at

  own : (x : SpaceState) × (slice_get new k ≡ Some x) × (x.source ≡ s.source)
  own = now old new g.steps.fixed k s at

  mine_here : 0 < mine own.0
  mine_here = omega (arith, weighs_here own.0.arena.id (covers_tag u) t (g.home ∙ sym (n.parts k own.0 own.1).id), (counts_the_unit u t.holding.range).1.1 has)

  -- it is in a hand now
  in_hand : (x : SpaceState) → mine x ≤ (New x).hand
  in_hand x = omega (arith, held_weigh x.arena.id (covers_held u) after.hands, g.hands (of_arena x.arena.id (covers_tag u)))

  abbrev others : SpaceState → ℕ
  others x = sum_but_exported (New x) - mine x

  both : (x : SpaceState) → others x + mine x ≤ sum_but_exported (New x)
  both x = omega (arith, in_hand x)

  -- and nowhere else
  nowhere_else : (b : ℕ) (y : SpaceState) → slice_get new b ≡ Some y → HasTop new b r → sum_but_exported (New y) ≤ mine y
  nowhere_else b y there over = elim (cases_eq (others y) 0) [
    | inl none ↦ omega (arith, none)
    | inr more ↦ absurd (never_both new after n u r others mine both b k y own.0 there over (omega (arith, more)) own.1 (top_stays old new g.steps.fixed k r up) mine_here)
  ]

  -- it is a unit under the top, and was one
  was_under_top : 0 < sum_by (weight_where (is_under (tops_stand old before o).0 r) (λ x. sum_but_exported (Old x))) old
  was_under_top =
      let top = top_is_root old k r up in
      let later = now old new g.steps.fixed r top.0 top.1 in
      let all = chain_unit_adds_up old before o (tops_stand old before o).0 (tops_stand old before o).1 r top.0 top.1 top.2 u in
      let mine_all = unit_adds_up new after n k own.0 own.1 u in
      omega (
        arith,
        all.0,
        root_spans old before o u r top.0 top.1 top.2,
        root_spans new after n u r later.0 later.1 (later.2 ∙ top.2),
        ap (λ (hs : List Holding). covering_held u hs) (g.steps.owned r top.0 later.0 top.1 later.1),
        spans_are_of_source new after n k r own.0 later.0 (up_to_top new k r (top_stays old new g.steps.fixed k r up)) own.1 later.1 u,
        mine_all.0,
        in_hand own.0,
        mine_here,
      )

  module _ (b : ℕ) (x y : SpaceState) (was : slice_get old b ≡ Some x) (is : slice_get new b ≡ Some y) where
    home : y.arena.id ≡ x.arena.id
    home = (n.parts b y is).id ∙ sym (o.parts b x was).id

    hand_gained : (New y).hand ≡ (Old x).hand + mine y
    hand_gained = omega (
      arith,
      held_weigh y.arena.id (covers_held u) after.hands,
      held_weigh y.arena.id (covers_held u) before.hands,
      g.hands (of_arena y.arena.id (covers_tag u)),
      ap (λ i. sum_by (covers_held u) (held_of i before.hands)) home,
    )

    leased_same : (New y).leased ≡ (Old x).leased
    leased_same = ap (λ (ts : List Tag). sum_by (covers_held u) (held_of y.arena.id ts)) g.steps.leases ∙ ap (λ i. sum_by (covers_held u) (held_of i before.leases)) home

    slab_same : b ≢ k → (New y).slab ≡ (Old x).slab
    slab_same ne = ap (λ (cs : List QuantumCacheState). sum_by (covers_held u) (flat_map (λ c. deeds_of c.slab) cs)) (g.steps.caches b x y ne was is)

    magazine_same : b ≢ k → (New y).magazine ≡ (Old x).magazine
    magazine_same ne = omega (
      arith,
      sum_by-append (covers_held u) (flat_map (λ (c : QuantumCacheState). holdings_of (depot_rounds c.depot)) y.caches) (held_of y.arena.id (all_own_rounds after.cpus)),
      sum_by-append (covers_held u) (flat_map (λ (c : QuantumCacheState). holdings_of (depot_rounds c.depot)) x.caches) (held_of x.arena.id (all_own_rounds before.cpus)),
      ap (λ (cs : List QuantumCacheState). sum_by (covers_held u) (flat_map (λ c. holdings_of (depot_rounds c.depot)) cs)) (g.steps.caches b x y ne was is),
      ap (λ i. sum_by (covers_held u) (held_of i (all_own_rounds after.cpus))) (n.parts b y is).id,
      ap (λ i. sum_by (covers_held u) (held_of i (all_own_rounds before.cpus))) (o.parts b x was).id,
      held_weigh b (covers_held u) (all_own_rounds after.cpus),
      held_weigh b (covers_held u) (all_own_rounds before.cpus),
      g.steps.rounds b ne (covers_tag u),
    )

    -- where it was
    was_at : HasTop old b r → 0 < sum_but_exported (Old x) → IsReachable old before k s u
    was_at over some =
        let least = nowhere_else b y is (top_stays old new g.steps.fixed b r over) in
        let hand = hand_gained in
        let leased = leased_same in
        elim (cases_eq b k) [
          | inl same ↦
              let one : x ≡ s = slice_get_one old k x s (subst (λ i. slice_get old i ≡ Some x) same was) at in
              let there : 0 < (Old s).free + ((Old s).slab + (Old s).magazine) = subst (λ (z : SpaceState). 0 < (Old z).free + ((Old z).slab + (Old z).magazine)) one (omega (arith, least, hand, leased, some)) in
              elim (cases_eq (Old s).free 0) [
                | inl none ↦ inr (omega (arith, none, there))
                | inr more ↦ inl (free k s at (omega (arith, more)))
              ]
          | inr ne ↦
              let none : mine y ≡ 0 = weighs_there y.arena.id (covers_tag u) t (λ e. ne (sym (n.parts b y is).id ∙ (sym e ∙ g.home))) in
              let slab = slab_same ne in
              let magazine = magazine_same ne in
              let free_was : 0 < covering_held u x.arena.free = omega (arith, least, hand, leased, none, slab, magazine, some) in
              elim (g.steps.arenas b x y was is) [
                | inl chain ↦ inl (free_above_is_free old before o k b u x chain was free_was)
                | inr same ↦ absurd (let still = ap (λ (z : ArenaState). covering_held u z.free) same in omega (arith, least, none, still, free_was))
              ]
        ]

  pub was_reachable : IsReachable old before k s u
  was_reachable =
      let found = sum_some (weight_where (is_under (tops_stand old before o).0 r) (λ x. sum_but_exported (Old x))) old was_under_top in
      let part = either_some (is_under (tops_stand old before o).0 r found.1) (sum_but_exported (Old found.1)) found.3 in
      let later = now old new g.steps.fixed found.0 found.1 found.2 in
      let id = (o.parts found.0 found.1 found.2).id in
      let test : nat_eq ((tops_stand old before o).0 found.0) r ≡ true = ap (λ i. nat_eq ((tops_stand old before o).0 i) r) (sym id) ∙ part.0 in
      let top : (tops_stand old before o).0 found.0 ≡ r = grind (arith, nat_tests) in
      was_at found.0 found.1 later.0 found.2 later.1 (subst (λ i. HasTop old found.0 i) top ((tops_stand old before o).1 found.0 found.1 found.2)) part.1

pub given_was_reachable : GivenWasReachable
given_was_reachable old new before after o n k t g s at u has = was_reachable old new before after o n k t g s at u has

pub given_fitted_in : GivenFittedIn
given_fitted_in old new before after o n k t g s at q fits = record {
  fits = fits;
  reachable = λ u has. was_reachable old new before after o n k t g s at u has;
}
