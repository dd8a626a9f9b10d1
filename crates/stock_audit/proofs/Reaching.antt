-- What an arena may serve a request with is nowhere else under its top.
use Rattle.std.proofs.Common.{◌≡◌, ℕ, ◌+◌, ◌<◌, ◌≤◌, Bool, true, false, cond, nat_eq, Some, None, inl, inr, sym, subst, ap, ◌∙◌, List, ◌++◌, All, arith}
use Rattle.std.specs.Prelude.{slice_get, sum_by, flat_map}
use Rattle.std.proofs.lemmas.Bool.Decides.{nat_tests}
use Rattle.std.proofs.lemmas.List.Sums.{sum_by-append}
use Rattle.deed_core.specs.Tag.{Tag}
use Rattle.deed_core.specs.Extent.{Covers}
use Rattle.deed_core.specs.Covering.{covers_held, covers_tag, covering_held}
use Rattle.deed_core.specs.Weights.{weight_where, of_arena}
use Rattle.deed_core.proofs.LawProofs.{counts_the_unit, all_from, sum_add, sum_by-smaller, part_of_sum, slice_get_one}
use Rattle.magazine_layer.specs.Depots.{depot_rounds}
use Rattle.stock.specs.Spaces.{SpaceState, QuantumCacheState}
use Rattle.stock.specs.Sums.{held_of}
use Rattle.tag_arena.specs.Spanned.{holdings_of}
use Rattle.stock.specs.Laws.{HasTop}
use Rattle.stock_audit.specs.Outside.{Outside, segments_out}
use Rattle.stock.specs.OwnCaches.{all_own_rounds}
use Rattle.stock_audit.specs.Accounted.{IsAccountedFor}
use Rattle.stock_audit.specs.Chains.{IsFreeFor, free, free_above, is_under, sum_but_exported, unit_of_arena}
use Rattle.stock_audit.specs.Laws.{FreeIsNotOut, ReachableIsNotHeld}
use Rattle.stock_audit.proofs.Placing.{held_weigh}
use Rattle.stock_audit.proofs.Exporting.{weighs_here}
use Rattle.stock_audit.proofs.Tops.{next_up, one_top, top_is_root, tops_stand}
use Rattle.stock_audit.proofs.ChainSums.{chain_unit_adds_up}

-- where a unit is free that is free for an arena
free_stands : (spaces : List SpaceState) (u k top : ℕ) → IsFreeFor spaces u k → HasTop spaces k top
    → (b : ℕ) × (s : SpaceState) × (slice_get spaces b ≡ Some s) × (0 < covering_held u s.arena.free) × HasTop spaces b top
free_stands spaces u _ top (free k s at some) up = (k, s, at, some, up)
free_stands spaces u _ top (free_above k p s at source outside rest) up =
    let next = next_up spaces k top up in
    elim next.2 [
      | inl is_root ↦ absurd (let e : None ≡ Some p = sym is_root.1 ∙ (ap (λ (y : SpaceState). y.source) (slice_get_one spaces k next.0 s next.1 at) ∙ source) in cc)
      | inr more ↦
          let both : Some p ≡ Some more.0 = sym source ∙ (ap (λ (y : SpaceState). y.source) (slice_get_one spaces k s next.0 at next.1) ∙ more.1) in
          let same : p ≡ more.0 = cc in
          free_stands spaces u p top rest (subst (λ q. HasTop spaces q top) (sym same) more.2)
    ]

either_counted : (b : Bool) (m n all : ℕ) → m + n ≤ all → cond b m 0 + cond b n 0 ≤ cond b all 0
either_counted true m n all le = le
either_counted false m n all le = omega arith

-- two weights that are in different homes of each arena aren't both under one top
module _ (spaces : List SpaceState) (out : Outside) (a : IsAccountedFor spaces out) (u r : ℕ) (f g : SpaceState → ℕ) (apart : (s : SpaceState) → f s + g s ≤ sum_but_exported (unit_of_arena u spaces out s)) where
  abbrev tops : ℕ → ℕ
  tops = (tops_stand spaces out a).0

  -- an arena under the top is counted
  counted : (h : SpaceState → ℕ) (k : ℕ) (s : SpaceState) → slice_get spaces k ≡ Some s → HasTop spaces k r → h s ≤ sum_by (weight_where (is_under tops r) h) spaces
  counted h k s at up =
      let own : tops k ≡ r = one_top spaces k (tops k) r ((tops_stand spaces out a).1 k s at) up in
      let test : nat_eq (tops k) r ≡ true = grind (arith, nat_tests) in
      let is : is_under tops r s ≡ true = ap (λ i. nat_eq (tops i) r) (a.parts k s at).id ∙ test in
      omega (arith, part_of_sum (weight_where (is_under tops r) h) spaces k s at, ap (λ b. cond b (h s) 0) is)

  both_fit : sum_by (weight_where (is_under tops r) f) spaces + sum_by (weight_where (is_under tops r) g) spaces ≤ sum_by (weight_where (is_under tops r) (λ s. sum_but_exported (unit_of_arena u spaces out s))) spaces
  both_fit =
      let each = sum_by-smaller (λ s. weight_where (is_under tops r) f s + weight_where (is_under tops r) g s) (weight_where (is_under tops r) (λ s. sum_but_exported (unit_of_arena u spaces out s))) spaces
      (λ s. either_counted (is_under tops r s) (f s) (g s) (sum_but_exported (unit_of_arena u spaces out s)) (apart s)) in
      omega (arith, each, sum_add (weight_where (is_under tops r) f) (weight_where (is_under tops r) g) spaces)

  pub never_both : (j k : ℕ) (s x : SpaceState) → slice_get spaces j ≡ Some s → HasTop spaces j r → 0 < f s → slice_get spaces k ≡ Some x → HasTop spaces k r → 0 < g x → ⊥
  never_both j k s x at up some there over more =
      let first = top_is_root spaces j r up in
      let all = chain_unit_adds_up spaces out a tops (tops_stand spaces out a).1 r first.0 first.1 first.2 u in
      omega (arith, all.0, all.1, both_fit, counted f j s at up, some, counted g k x there over, more)

module _ (spaces : List SpaceState) (out : Outside) (a : IsAccountedFor spaces out) (k top u : ℕ) where
  -- the segments of an arena among these, where they cover the unit
  abbrev among : List Tag → SpaceState → ℕ
  among ts s = sum_by (of_arena s.arena.id (covers_tag u)) ts

  -- one that covers it is counted in its arena
  here_among : (ts : List Tag) (i : ℕ) (t : Tag) (s : SpaceState) → slice_get ts i ≡ Some t → slice_get spaces t.arena ≡ Some s → Covers t.holding.range u → 0 < among ts s
  here_among ts i t s at there has = omega (
    arith,
    part_of_sum (of_arena s.arena.id (covers_tag u)) ts i t at,
    weighs_here s.arena.id (covers_tag u) t (sym (a.parts t.arena s there).id),
    (counts_the_unit u t.holding.range).1.1 has,
  )

  -- what weighs of an arena under the top is in no segment among these
  none_among : (f : SpaceState → ℕ) (ts : List Tag) → ((s : SpaceState) → f s + among ts s ≤ sum_but_exported (unit_of_arena u spaces out s)) → (b : ℕ) (s : SpaceState) → slice_get spaces b ≡ Some s → HasTop spaces b top
      → 0 < f s → All (λ t. HasTop spaces t.arena top → ¬ Covers t.holding.range u) ts
  none_among f ts apart b s at up some = all_from (λ t. HasTop spaces t.arena top → ¬ Covers t.holding.range u) ts
      (λ i t there over has. (let home = next_up spaces t.arena top over in never_both spaces out a u top f (among ts) apart b t.arena s home.0 at up some home.1 over (here_among ts i t home.0 there home.1 has)))

  -- hands and leases, and rounds, are weighed in their homes
  held_among : (s : SpaceState) → among (out.hands ++ out.leases) s ≡ (unit_of_arena u spaces out s).hand + (unit_of_arena u spaces out s).leased
  held_among s = omega (
    arith,
    sum_by-append (of_arena s.arena.id (covers_tag u)) out.hands out.leases,
    held_weigh s.arena.id (covers_held u) out.hands,
    held_weigh s.arena.id (covers_held u) out.leases,
  )

  out_among : (s : SpaceState) → among (segments_out out) s ≤ (unit_of_arena u spaces out s).hand + (unit_of_arena u spaces out s).leased + (unit_of_arena u spaces out s).magazine
  out_among s = omega (
    arith,
    sum_by-append (of_arena s.arena.id (covers_tag u)) out.hands (out.leases ++ all_own_rounds out.cpus),
    sum_by-append (of_arena s.arena.id (covers_tag u)) out.leases (all_own_rounds out.cpus),
    held_weigh s.arena.id (covers_held u) out.hands,
    held_weigh s.arena.id (covers_held u) out.leases,
    held_weigh s.arena.id (covers_held u) (all_own_rounds out.cpus),
    sum_by-append (covers_held u) (flat_map (λ (c : QuantumCacheState). holdings_of (depot_rounds c.depot)) s.caches) (held_of s.arena.id (all_own_rounds out.cpus)),
  )

pub free_is_not_out : FreeIsNotOut
free_is_not_out spaces out a k top u may up =
    let there = free_stands spaces u k top may up in
    none_among spaces out a k top u (λ s. covering_held u s.arena.free) (segments_out out) (λ s. omega (arith, out_among spaces out a k top u s)) there.0 there.1 there.2 there.4 there.3

pub reachable_is_not_held : ReachableIsNotHeld
reachable_is_not_held spaces out a k top u s at (inl may) up =
    let there = free_stands spaces u k top may up in
    none_among spaces out a k top u (λ x. covering_held u x.arena.free) (out.hands ++ out.leases) (λ x. omega (arith, held_among spaces out a k top u x)) there.0 there.1 there.2 there.4 there.3
reachable_is_not_held spaces out a k top u s at (inr cached) up =
    none_among spaces out a k top u (λ x. (unit_of_arena u spaces out x).slab + (unit_of_arena u spaces out x).magazine) (out.hands ++ out.leases) (λ x. omega (arith, held_among spaces out a k top u x)) k s at up cached
