-- What an arena has allocated: what is out and came direct, the spans of slabs, and those of children.
use Rattle.std.proofs.Common.{◌≡◌, ◌≢◌, ℕ, ◌+◌, Bool, true, false, cond, nat_eq, refl, sym, subst, ap, ◌∙◌, List, map, filter, All, Option, Some, None, arith}
use Rattle.std.specs.Prelude.{slice_get, sum_by, flat_map}
use Rattle.std.proofs.lemmas.Bool.Decides.{nat_tests}
use Rattle.std.proofs.lemmas.List.Sums.{sum_by-append}
use Rattle.deed_core.specs.Holding.{Holding}
use Rattle.deed_core.specs.Tag.{Tag}
use Rattle.deed_core.specs.Selections.{came_direct}
use Rattle.deed_core.specs.Weights.{weight_where, of_arena}
use Rattle.deed_core.proofs.LawProofs.{sum_by-map, sum_by-flat_map, sum_by-filter, sum_at, sum_none, sum_alike, all_at, all_from, mapped}
use Rattle.tag_arena.specs.ArenaState.{spans_of}
use Rattle.tag_arena.proofs.LawProofs.{tags_weigh}
use Rattle.slab_layer.specs.Cache.{span_tag, span_tags}
use Rattle.stock.specs.Spaces.{SpaceState, QuantumCacheState, quanta_of}
use Rattle.stock.specs.Stocks.{IsQuantumCache, IsFrom, IsSpaceAt, IsStock}
use Rattle.stock.specs.Accounts.{weight_imported, slabs}
use Rattle.stock.specs.Sums.{held_of}
use Rattle.tag_arena.specs.Spanned.{holdings_of}
use Rattle.stock.proofs.LawProofs.{arena_weighs, allocated_of_arena}
use Rattle.stock_audit.specs.Outside.{segments_out}
use Rattle.stock_audit.specs.Chains.{is_source, is_child_of, spans_of_children, spans_of_slabs}
use Rattle.stock_audit.specs.Laws.{ExportedIsChildren, AllocatedIsOut}
use Rattle.stock_audit.proofs.Placing.{held_weigh}

-- a weight of one arena's segments
module _ (k : ℕ) (g : Tag → ℕ) where
  pub weighs_here : (t : Tag) → t.arena ≡ k → of_arena k g t ≡ g t
  weighs_here = (λ t. (arena_weighs k g t).0)

  pub weighs_there : (t : Tag) → t.arena ≢ k → of_arena k g t ≡ 0
  weighs_there = (λ t. (arena_weighs k g t).1)

  -- of segments that are of one arena
  pub all_here : (a : ℕ) (xs : List Tag) → All (λ t. t.arena ≡ a) xs → a ≡ k → sum_by (of_arena k g) xs ≡ sum_by g xs
  all_here a xs home is = sum_alike (of_arena k g) g xs (λ i x at. weighs_here x (all_at (λ t. t.arena ≡ a) xs i x home at ∙ is))

  pub none_here : (a : ℕ) (xs : List Tag) → All (λ t. t.arena ≡ a) xs → a ≢ k → sum_by (of_arena k g) xs ≡ 0
  none_here a xs home other = sum_none (of_arena k g) xs (λ i x at. weighs_there x (λ e. other (sym (all_at (λ t. t.arena ≡ a) xs i x home at) ∙ e)))

  -- the spans of a cache's slabs are of its arena
  spans_home : (a n quantum : ℕ) (c : QuantumCacheState) → IsQuantumCache a n quantum c → All (λ t. t.arena ≡ a) (span_tags c.slab)
  spans_home a n quantum c is = all_from (λ t. t.arena ≡ a) (span_tags c.slab) (λ i x at. (let there = mapped (span_tag c.slab.arena) c.slab.slabs i x at in ap (λ (t : Tag). t.arena) there.2 ∙ is.arena))

  module _ (spaces : List SpaceState) (stock : IsStock spaces) (s : SpaceState) (at : slice_get spaces k ≡ Some s) where
    slabs_of : sum_by (slabs (of_arena k g)) spaces ≡ slabs g s
    slabs_of = sum_at (slabs (of_arena k g)) spaces k s at
        (λ i x there ne. sum_none (λ (c : QuantumCacheState). sum_by (of_arena k g) (span_tags c.slab)) x.caches (λ j c among. none_here i (span_tags c.slab) (spans_home i (j + 1) x.arena.quantum c ((stock i x there).caches j c among)) ne))
        ∙ sum_alike (λ (c : QuantumCacheState). sum_by (of_arena k g) (span_tags c.slab)) (λ c. sum_by g (span_tags c.slab)) s.caches (λ j c among. all_here k (span_tags c.slab) (spans_home k (j + 1) s.arena.quantum c ((stock k s at).caches j c among)) refl)

-- what an arena imported from this one are its spans, if it imports from this one
module _ (p : ℕ) (f : Holding → ℕ) (quanta : List ℕ) (k : ℕ) (x : SpaceState) (is : IsSpaceAt quanta k x) where
  spans_weigh : (q : ℕ) → x.source ≡ Some q → sum_by f (spans_of x.arena) ≡ sum_by (λ t. f t.holding) x.arena.imported
  spans_weigh q source =
      let owned : sum_by f x.arena.owned ≡ 0 = ap (sum_by f) (is.owned q source) in
      omega (arith, owned, sum_by-append f x.arena.owned (map (λ (t : Tag). t.holding) x.arena.imported), sum_by-map f (λ (t : Tag). t.holding) x.arena.imported)

  by_source : (o : Option ℕ) → x.source ≡ o → sum_by (of_arena p (λ t. f t.holding)) x.arena.imported ≡ cond (is_source p o) (sum_by f (spans_of x.arena)) 0
  by_source None source = sum_none (of_arena p (λ t. f t.holding)) x.arena.imported (λ i t at. absurd (all_at (IsFrom None) x.arena.imported i t (subst (λ o. All (IsFrom o) x.arena.imported) source is.imported) at))
  by_source (Some q) source = by (nat_eq q p) refl
    where
      home : All (λ t. t.arena ≡ q) x.arena.imported
      home = subst (λ o. All (IsFrom o) x.arena.imported) source is.imported

      by : (b : Bool) → nat_eq q p ≡ b → sum_by (of_arena p (λ t. f t.holding)) x.arena.imported ≡ cond (nat_eq q p) (sum_by f (spans_of x.arena)) 0
      by true test =
          let same : q ≡ p = grind (arith, nat_tests) in
          all_here p (λ t. f t.holding) q x.arena.imported home same ∙ (sym (spans_weigh q source) ∙ sym (ap (λ b. cond b (sum_by f (spans_of x.arena)) 0) test))
      by false test =
          let other : q ≢ p = grind (arith, nat_tests) in
          none_here p (λ t. f t.holding) q x.arena.imported home other ∙ sym (ap (λ b. cond b (sum_by f (spans_of x.arena)) 0) test)

  pub imported_weigh : sum_by (of_arena p (λ t. f t.holding)) x.arena.imported ≡ weight_where (is_child_of p) (λ y. sum_by f (spans_of y.arena)) x
  imported_weigh = by_source x.source refl

-- what all arenas imported from one are the spans of its children
module _ (spaces : List SpaceState) (stock : IsStock spaces) (p : ℕ) (f : Holding → ℕ) where
  pub children_weigh : sum_by (weight_imported (of_arena p (λ t. f t.holding))) spaces ≡ sum_by f (spans_of_children p spaces)
  children_weigh = sum_alike (weight_imported (of_arena p (λ t. f t.holding))) (weight_where (is_child_of p) (λ y. sum_by f (spans_of y.arena))) spaces (λ k x at. imported_weigh p f (quanta_of spaces) k x (stock k x at))
      ∙ (sym (sum_by-filter (is_child_of p) (λ y. sum_by f (spans_of y.arena)) spaces) ∙ sym (sum_by-flat_map f (λ y. spans_of y.arena) (filter (is_child_of p) spaces)))

  pub exported_weigh : sum_by f (flat_map (λ (x : SpaceState). held_of p x.arena.imported) spaces) ≡ sum_by f (spans_of_children p spaces)
  exported_weigh = sum_by-flat_map f (λ (x : SpaceState). held_of p x.arena.imported) spaces
      ∙ (sum_alike (λ (x : SpaceState). sum_by f (held_of p x.arena.imported)) (weight_imported (of_arena p (λ t. f t.holding))) spaces (λ j x at. held_weigh p f x.arena.imported) ∙ children_weigh)

pub exported_is_children : ExportedIsChildren
exported_is_children spaces out a k s at f = subst (λ p. sum_by f (flat_map (λ (x : SpaceState). held_of p x.arena.imported) spaces) ≡ sum_by f (spans_of_children k spaces)) (sym (a.parts k s at).id) (exported_weigh spaces a.parts k f)

pub allocated_is_out : AllocatedIsOut
allocated_is_out spaces out a k s at f =
    let g : Tag → ℕ = λ t. f t.holding in
    omega (
      arith,
      a.accounts.exports (of_arena k g),
      allocated_of_arena spaces a.parts k s at g,
      slabs_of k g spaces a.parts s at,
      children_weigh spaces a.parts k f,
      tags_weigh s.arena g,
      slabs_weigh,
      held_weigh k f (filter came_direct (segments_out out)),
      sum_by-filter came_direct (of_arena k g) (segments_out out),
    )
  where
    slabs_weigh : sum_by f (spans_of_slabs s) ≡ slabs (λ t. f t.holding) s
    slabs_weigh = sum_by-flat_map f (λ (c : QuantumCacheState). holdings_of (span_tags c.slab)) s.caches
        ∙ sum_alike (λ (c : QuantumCacheState). sum_by f (holdings_of (span_tags c.slab))) (λ c. sum_by (λ t. f t.holding) (span_tags c.slab)) s.caches (λ j c there. sum_by-map f (λ (t : Tag). t.holding) (span_tags c.slab))
