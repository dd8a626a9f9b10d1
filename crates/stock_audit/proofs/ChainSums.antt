-- Over a top arena and all that import from it each unit is in one home of one arena: what an arena
-- exported are its children's spans, so the spans of all but the top cancel.
use Rattle.std.proofs.Common.{◌≡◌, ◌≢◌, ℕ, ◌+◌, Bool, true, false, cond, nat_eq, Option, Some, None, refl, sym, ap, ◌∙◌, List, [], ◌∷◌, arith}
use Rattle.std.specs.Prelude.{slice_get, sum_by}
use Rattle.std.proofs.lemmas.Bool.Decides.{nat_tests}
use Rattle.std.proofs.lemmas.List.Sums.{sum_by-cons}
use Rattle.deed_core.specs.Holding.{Holding}
use Rattle.deed_core.specs.Covering.{covers_held, covering_held, units_in, units_held}
use Rattle.deed_core.specs.Weights.{weight_where}
use Rattle.deed_core.proofs.LawProofs.{sum_none, sum_at, sum_alike, sum_add, sum_if, sum_by-filter, sum_by-flat_map}
use Rattle.tag_arena.specs.ArenaState.{spans_of}
use Rattle.stock.specs.Spaces.{SpaceState}
use Rattle.stock.specs.Laws.{root, child}
use Rattle.stock_audit.specs.Outside.{Outside}
use Rattle.stock_audit.specs.Audits.{sums_of_arena}
use Rattle.stock_audit.specs.Accounted.{IsAccountedFor}
use Rattle.stock_audit.specs.Chains.{AreTops, is_under, is_source, is_child_of, children_of, spans_of_children, sum_but_exported, unit_of_arena}
use Rattle.stock_audit.specs.Laws.{UnderTopUnitAddsUp, UnderTopAddsUp}
use Rattle.stock_audit.proofs.Placing.{audit_adds_up, unit_adds_up}
use Rattle.stock_audit.proofs.Exporting.{exported_is_children}
use Rattle.stock_audit.proofs.Climbing.{source_stands}
use Rattle.stock_audit.proofs.Tops.{one_top}

-- a table's sum, by rows and by columns
sum_turned : {X Y : Type 0} (g : X → Y → ℕ) (xs : List X) (ys : List Y) → sum_by (λ x. sum_by (λ y. g x y) ys) xs ≡ sum_by (λ y. sum_by (λ x. g x y) xs) ys
sum_turned g [] ys = sym (sum_none (λ y. 0) ys (λ k y at. refl))
sum_turned g (x ∷ xs) ys =
    let rest = sum_turned g xs ys in
    let each = sum_alike (λ y. sum_by (λ z. g z y) (x ∷ xs)) (λ y. g x y + sum_by (λ z. g z y) xs) ys (λ k y at. sum_by-cons (λ z. g z y) x xs) in
    omega (arith, rest, each, sum_by-cons (λ z. sum_by (λ y. g z y) ys) x xs, sum_add (λ y. g x y) (λ y. sum_by (λ z. g z y) xs) ys)

zero_either : (b : Bool) → cond {A = ℕ} b 0 0 ≡ 0
zero_either true = refl
zero_either false = refl

-- a weight that is counted or not, in two parts
split_either : (b c : Bool) (n : ℕ) → cond b n 0 ≡ cond b (cond c n 0) 0 + cond b (cond c 0 n) 0
split_either true true n = omega arith
split_either true false n = omega arith
split_either false c n = refl

added_either : (b : Bool) (m n all : ℕ) → m + n ≡ all → cond b all 0 ≡ cond b m 0 + cond b n 0
added_either true m n all is = sym is
added_either false m n all is = refl

abbrev is_imported : Option ℕ → Bool
is_imported None = false
is_imported (Some p) = true

module _ (spaces : List SpaceState) (out : Outside) (a : IsAccountedFor spaces out) (top : ℕ → ℕ) (tops : AreTops spaces top) (r : ℕ) (f : Holding → ℕ) where
  -- what the spans weigh, and those of the children
  abbrev W : SpaceState → ℕ
  W s = sum_by f (spans_of s.arena)

  abbrev C : SpaceState → ℕ
  C s = sum_by f (spans_of_children s.arena.id spaces)

  -- a child is under what its source is under
  same_top : (k p : ℕ) (s from : SpaceState) → slice_get spaces k ≡ Some s → s.source ≡ Some p → slice_get spaces p ≡ Some from → top k ≡ top p
  same_top k p s from at source there = one_top spaces k (top k) (top p) (tops k s at) (child k p (top p) s at source (tops p from there))

  under : (k : ℕ) (s : SpaceState) → slice_get spaces k ≡ Some s → is_under top r s ≡ nat_eq (top k) r
  under k s at = ap (λ i. nat_eq (top i) r) (a.parts k s at).id

  -- the spans of a child, counted where its source is under this one
  abbrev term : SpaceState → SpaceState → ℕ
  term s x = cond (is_under top r s) (cond (is_source s.arena.id x.source) (W x) 0) 0

  abbrev weigh : SpaceState → ℕ
  weigh x = cond (is_under top r x) (cond (is_imported x.source) (W x) 0) 0

  term_other : (j p : ℕ) (s x : SpaceState) → slice_get spaces j ≡ Some s → j ≢ p → x.source ≡ Some p → term s x ≡ 0
  term_other j p s x at ne source =
      let id = (a.parts j s at).id in
      let test : nat_eq p s.arena.id ≡ false = grind (arith, nat_tests) in
      ap (λ o. cond (is_under top r s) (cond (is_source s.arena.id o) (W x) 0) 0) source ∙ (ap (λ b. cond (is_under top r s) (cond b (W x) 0) 0) test ∙ zero_either (is_under top r s))

  term_none : (s x : SpaceState) → x.source ≡ None → term s x ≡ 0
  term_none s x none = ap (λ o. cond (is_under top r s) (cond (is_source s.arena.id o) (W x) 0) 0) none ∙ zero_either (is_under top r s)

  term_source : (k p : ℕ) (s x : SpaceState) → slice_get spaces k ≡ Some x → x.source ≡ Some p → slice_get spaces p ≡ Some s → term s x ≡ weigh x
  term_source k p s x at source there =
      let id = (a.parts p s there).id in
      let test : nat_eq p s.arena.id ≡ true = grind (arith, nat_tests) in
      let same : is_under top r s ≡ is_under top r x = under p s there ∙ (ap (λ t. nat_eq t r) (sym (same_top k p x s at source there)) ∙ sym (under k x at)) in
      ap (λ o. cond (is_under top r s) (cond (is_source s.arena.id o) (W x) 0) 0) source
      ∙ (ap (λ b. cond (is_under top r s) (cond b (W x) 0) 0) test
      ∙ (ap (λ b. cond b (W x) 0) same
      ∙ sym (ap (λ o. cond (is_under top r x) (cond (is_imported o) (W x) 0) 0) source)))

  by_child : (k : ℕ) (x : SpaceState) → slice_get spaces k ≡ Some x → sum_by (λ s. term s x) spaces ≡ weigh x
  by_child k x at = by x.source refl
    where
      by : (o : Option ℕ) → x.source ≡ o → sum_by (λ s. term s x) spaces ≡ weigh x
      by None none = sum_none (λ s. term s x) spaces (λ j s there. term_none s x none)
          ∙ sym (ap (λ o. cond (is_under top r x) (cond (is_imported o) (W x) 0) 0) none ∙ zero_either (is_under top r x))
      by (Some p) source =
          let from = source_stands spaces out a 0 k p x at source in
          sum_at (λ s. term s x) spaces p from.0 from.1 (λ j s there ne. term_other j p s x there ne source) ∙ term_source k p from.0 x at source from.1

  -- what is exported under this one are the spans of all but the top
  exports_are : sum_by (weight_where (is_under top r) C) spaces ≡ sum_by weigh spaces
  exports_are =
      sum_alike (weight_where (is_under top r) C) (λ s. sum_by (λ x. term s x) spaces) spaces
      (λ j s at. ap (λ n. cond (is_under top r s) n 0) (sum_by-flat_map f (λ (x : SpaceState). spans_of x.arena) (children_of s.arena.id spaces) ∙ sum_by-filter (is_child_of s.arena.id) W spaces)
      ∙ sym (sum_if (is_under top r s) (weight_where (is_child_of s.arena.id) W) spaces))
      ∙ (sum_turned term spaces spaces ∙ sum_alike (λ x. sum_by (λ s. term s x) spaces) weigh spaces by_child)

  -- of the others there is the top alone
  abbrev rooted : SpaceState → ℕ
  rooted x = cond (is_under top r x) (cond (is_imported x.source) 0 (W x)) 0

  not_rooted : (j : ℕ) (x : SpaceState) → slice_get spaces j ≡ Some x → j ≢ r → rooted x ≡ 0
  not_rooted j x at ne = by x.source refl
    where
      by : (o : Option ℕ) → x.source ≡ o → rooted x ≡ 0
      by None none =
          let own : top j ≡ j = one_top spaces j (top j) j (tops j x at) (root j x at none) in
          let test : nat_eq (top j) r ≡ false = grind (arith, nat_tests) in
          ap (λ b. cond b (cond (is_imported x.source) 0 (W x)) 0) (under j x at ∙ test)
      by (Some p) source = ap (λ o. cond (is_under top r x) (cond (is_imported o) 0 (W x)) 0) source ∙ zero_either (is_under top r x)

  root_weighs : (x : SpaceState) → slice_get spaces r ≡ Some x → x.source ≡ None → sum_by rooted spaces ≡ W x
  root_weighs x at none =
      let own : top r ≡ r = one_top spaces r (top r) r (tops r x at) (root r x at none) in
      let test : nat_eq (top r) r ≡ true = grind (arith, nat_tests) in
      sum_at rooted spaces r x at not_rooted
      ∙ (ap (λ b. cond b (cond (is_imported x.source) 0 (W x)) 0) (under r x at ∙ test) ∙ ap (λ o. cond (is_imported o) 0 (W x)) none)

  -- what each arena has and hasn't exported adds up over all of them
  pub cancels : (own : SpaceState → ℕ) → ((k : ℕ) (s : SpaceState) → slice_get spaces k ≡ Some s → own s + C s ≡ W s)
      → (x : SpaceState) → slice_get spaces r ≡ Some x → x.source ≡ None → sum_by (weight_where (is_under top r) own) spaces ≡ W x
  cancels own adds x at none =
      let parts = sum_alike (weight_where (is_under top r) W) (λ s. weight_where (is_under top r) own s + weight_where (is_under top r) C s) spaces (λ k s there. added_either (is_under top r s) (own s) (C s) (W s) (adds k s there)) in
      let spans = sum_alike (weight_where (is_under top r) W) (λ s. weigh s + rooted s) spaces (λ k s there. split_either (is_under top r s) (is_imported s.source) (W s)) in
      omega (
        arith,
        parts,
        sum_add (weight_where (is_under top r) own) (weight_where (is_under top r) C) spaces,
        spans,
        sum_add weigh rooted spaces,
        exports_are,
        root_weighs x at none,
      )

pub chain_unit_adds_up : UnderTopUnitAddsUp
chain_unit_adds_up spaces out a top tops r x at none u =
    (cancels spaces out a top tops r (covers_held u) (λ s. sum_but_exported (unit_of_arena u spaces out s)) each x at none, (unit_adds_up spaces out a r x at u).1)
  where
    each : (k : ℕ) (s : SpaceState) → slice_get spaces k ≡ Some s → sum_but_exported (unit_of_arena u spaces out s) + sum_by (covers_held u) (spans_of_children s.arena.id spaces) ≡ covering_held u (spans_of s.arena)
    each k s there = omega (
      arith,
      (unit_adds_up spaces out a k s there u).0,
      exported_is_children spaces out a k s there (covers_held u),
      ap (λ i. sum_by (covers_held u) (spans_of_children i spaces)) (a.parts k s there).id,
    )

pub chain_adds_up : UnderTopAddsUp
chain_adds_up spaces out a top tops r x at none = cancels spaces out a top tops r units_in (λ s. sum_but_exported (sums_of_arena spaces out s)) each x at none
  where
    each : (k : ℕ) (s : SpaceState) → slice_get spaces k ≡ Some s → sum_but_exported (sums_of_arena spaces out s) + sum_by units_in (spans_of_children s.arena.id spaces) ≡ units_held (spans_of s.arena)
    each k s there = omega (
      arith,
      audit_adds_up spaces out a k s there,
      exported_is_children spaces out a k s there units_in,
      ap (λ i. sum_by units_in (spans_of_children i spaces)) (a.parts k s there).id,
    )
